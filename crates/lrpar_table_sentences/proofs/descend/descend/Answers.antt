use Rattle.std.proofs.Common.{◌<◌, ◌∙◌, sym, ap, subst, arith, All, length}
use Rattle.std.proofs.lemmas.Bool.{false≢true}
use Rattle.std.proofs.lemmas.List.{length-map}
use Rattle.lrpar_grammar.specs.Grammar.{symbols_of}
use Rattle.lrpar_grammar.specs.Symbols.{symbol_of}
use Rattle.lrpar_table_sentences.specs.Choices.{ForestFollows, choices_of}
use Rattle.lrpar_table_sentences.specs.Frames.{IsFrameOf, frames_of}
use Rattle.lrpar_table_sentences.specs.Moves.{moves_in}
use Rattle.lrpar_table_sentences.specs.Starts.{Descends, start_of, starts_of}
use Rattle.lrpar_table_sentences.proofs.DescendLemmas.{Descending, around_at, around_front, descending_ends, descending_goes, start_known}
use Rattle.lrpar_table_sentences.proofs.FrameLemmas.{frames_known, frames_pushed, moves_pushed}
use Rattle.lrpar_table_sentences.proofs.descend.descend.Goals as goal

pub prod-requires : goal.prod-requires
prod-requires g c =
    let index = g.StorageT.StorageIndex.index in
    (start_known c.args.grm.now (choices_of index c.args.choices.now) (index c.args.first.0) (starts_of index c.args.starts.now) c.requires.kept.starts
    (symbol_of index c.down.symbol) (start_of index c.in-Some.start) (sym c.in-Some.ensures)).0

pub returns-in_default-around-clause-descends : goal.returns-in_default-around-clause-descends
returns-in_default-around-clause-descends g c =
    let index = g.StorageT.StorageIndex.index in
    let known = start_known c.args.grm.now (choices_of index c.args.choices.now) (index c.args.first.0) (starts_of index c.args.starts.now) c.requires.kept.starts
    (symbol_of index c.down.symbol) (start_of index c.in-Some.start) (sym c.in-Some.ensures) in
    let long = length-map c.prod.result.now (symbol_of index) in
    let same = ap (λ xs. length xs) c.prod.ensures in
    let place = known.1 in
    let within : c.in-Some.start.place < length c.prod.result.now = omega (arith, place, long, same) in
    λ tree rest begun unfolds. absurd (false≢true (c.in_default-around.ensures.some within))

pub down-preserved : goal.down-preserved
down-preserved g c =
    let index = g.StorageT.StorageIndex.index in
    let grm = c.args.grm.now in
    let choices = choices_of index c.args.choices.now in
    let starts = starts_of index c.args.starts.now in
    let first = index c.args.first.0 in
    let s = symbol_of index c.down.symbol in
    let p = index c.in-Some.start.prod.0 in
    let k = c.in-Some.start.place in
    let known = start_known grm choices first starts c.requires.kept.starts s (start_of index c.in-Some.start) (sym c.in-Some.ensures) in
    let around = c.in-Some-around.ensures.parts in
    let after = moves_in index c.push_symbols.new.out.items in
    let out = moves_in index c.down.out.items in
    let at = around_at index c.prod.result.now (symbols_of grm p) k c.prod.ensures c.in-Some-around.next _ around.1 in
    let front = around_front index c.prod.result.now (symbols_of grm p) k c.prod.ensures c.in-Some-around.before.now around.0 in
    let pushed = ap (frames_of index) c.in_ok-push.ensures.items ∙ frames_pushed index c.down.frames.items _ in (
      subst (All (IsFrameOf index grm)) (sym c.in_ok-push.ensures.items) (frames_known index grm c.down.frames.items _ c.down.invariant.0 known.0),
      subst (λ fs. Descending grm choices starts first (symbol_of index c.args.symbol) (frames_of index c.args.frames.now.items) (moves_in index c.args.out.now.items)
          (symbol_of index c.in-Some-around.next) fs after) (sym pushed)
          (descending_goes grm choices starts first (symbol_of index c.args.symbol) (frames_of index c.args.frames.now.items) (moves_in index c.args.out.now.items)
          s (frames_of index c.down.frames.items) out c.down.invariant.1 p k (symbol_of index c.in-Some-around.next) after (sym c.in-Some.ensures) at
          (λ nulls follow. c.in_ok-push_symbols.ensures nulls (subst (ForestFollows grm choices nulls) (sym front) follow))),
    )

pub returns-clause-descends : goal.returns-clause-descends
returns-clause-descends g c =
    let index = g.StorageT.StorageIndex.index in
    let grm = c.args.grm.now in
    let choices = choices_of index c.args.choices.now in
    let starts = starts_of index c.args.starts.now in
    let first = index c.args.first.0 in
    let old = frames_of index c.args.frames.now.items in
    let before = moves_in index c.args.out.now.items in
    let s0 = symbol_of index c.args.symbol in
    let moved = ap (moves_in index) c.in_ok-push-2.ensures.items ∙ moves_pushed index c.down.out.items _ in
    subst (λ ms. Descends grm choices starts first s0 old (frames_of index c.down.frames.items) before ms) (sym moved)
    (descending_ends grm choices starts first s0 old before (symbol_of index c.down.symbol) (frames_of index c.down.frames.items) (moves_in index c.down.out.items)
    c.down.invariant.1 (sym c.in_default.ensures))
