use Rattle.std.proofs.Common.{true, false}
use Rattle.lrpar_table_sentences.specs.Choices.{choices_of}
use Rattle.lrpar_table_sentences.specs.Starts.{starts_of}
use Rattle.lrpar_table_sentences.proofs.LenLemmas.{symbols_done}
use Rattle.lrpar_table_sentences.proofs.StartLemmas.{found_at, more_after, none_from, place_ends, zero_by}
use Rattle.lrpar_table_sentences.proofs.begins.position_of.Goals as goal

pub returns-then-begins_by : goal.returns-then-begins_by
returns-then-begins_by g c =
    let index = g.StorageT.StorageIndex.index in
    found_at index (choices_of index c.args.choices.now) (starts_of index c.args.starts.now) (index c.args.first.0) c.args.symbols.now c.loop-place.place _
    c.loop-place.invariant c.index-symbols-place.result c.loop-place-test.true c.index-symbols-place.is c.begins_by.result c.begins_by.ensures c.if-begins_by.true

pub returns-then-ne : goal.returns-then-ne
returns-then-ne g c =
    let index = g.StorageT.StorageIndex.index in
    none_from index (choices_of index c.args.choices.now) (starts_of index c.args.starts.now) (index c.args.first.0) c.args.symbols.now c.loop-place.place _
    c.loop-place.invariant c.index-symbols-place.result c.loop-place-test.true c.index-symbols-place.is c.begins_by.result c.begins_by.ensures c.if-begins_by.false
    (zero_by c.len_of.result _ c.ne.result true c.len_of.ensures c.ne.ensures c.if-ne.true)

pub loop-place-preserved : goal.loop-place-preserved
loop-place-preserved g c =
    let index = g.StorageT.StorageIndex.index in
    more_after index (choices_of index c.args.choices.now) (starts_of index c.args.starts.now) (index c.args.first.0) c.args.symbols.now c.loop-place.place _
    c.loop-place.invariant c.index-symbols-place.result c.loop-place-test.true c.index-symbols-place.is c.begins_by.result c.begins_by.ensures c.if-begins_by.false
    (zero_by c.len_of.result _ c.ne.result false c.len_of.ensures c.ne.ensures c.if-ne.false)

pub returns : goal.returns
returns g c =
    let index = g.StorageT.StorageIndex.index in
    place_ends (choices_of index c.args.choices.now) (starts_of index c.args.starts.now) (index c.args.first.0) c.loop-place.place _ _ c.loop-place.invariant
    (symbols_done index c.args.symbols.now c.loop-place.place c.loop-place-test.false)
