use Rattle.std.proofs.Common.{◌<◌, ◌∙◌, refl, sym, ap, subst, arith, ℕ, Option, length, map}
use Rattle.std.specs.Option.{option_map_or}
use Rattle.std.proofs.lemmas.Bool.{false≢true}
use Rattle.std.proofs.lemmas.List.{drop-map, length-map}
use Rattle.lrpar_grammar.specs.Symbols.{symbol_of}
use Rattle.lrpar_table_sentences.specs.Choices.{ForestFollows, choices_of}
use Rattle.lrpar_table_sentences.specs.Moves.{moves_in}
use Rattle.lrpar_table_sentences.specs.Starts.{starts_of}
use Rattle.lrpar_table_sentences.proofs.DescendLemmas.{around_front, placed}
use Rattle.lrpar_table_sentences.proofs.FrameLemmas.{ok_more}
use Rattle.lrpar_table_sentences.proofs.StartLemmas.{place_within}
use Rattle.lrpar_table_sentences.proofs.descend.push_by.Goals as goal

pub returns-in_default-around : goal.returns-in_default-around
returns-in_default-around g c =
    let index = g.StorageT.StorageIndex.index in
    let symbols = map (symbol_of index) c.args.symbols.now in
    let inside = place_within (choices_of index c.args.choices.now) (starts_of index c.args.starts.now) (index c.args.first.0) symbols c.in-Some.place (sym c.in-Some.ensures) in
    let long = length-map c.args.symbols.now (symbol_of index) in
    let within : c.in-Some.place < length c.args.symbols.now = omega (arith, inside, long) in
    λ k trees place begun. absurd (false≢true (c.in_default-around.ensures.some within))

pub returns : goal.returns
returns g c =
    let index = g.StorageT.StorageIndex.index in
    let grm = c.args.grm.now in
    let choices = choices_of index c.args.choices.now in
    let starts = starts_of index c.args.starts.now in
    let symbols = map (symbol_of index) c.args.symbols.now in
    let j = c.in-Some.place in
    let around = c.in-Some-around.ensures.parts in
    let at = drop-map (symbol_of index) j c.args.symbols.now ∙ ap (map (symbol_of index)) around.1 in
    let front = around_front index c.args.symbols.now symbols j refl c.in-Some-around.before.now around.0 in
    ok_more c.push_symbols-2.result _ _
    (λ last k trees place begun.
    let both = c.in-Some.ensures ∙ place in
    let same = ap (λ (o : Option ℕ). option_map_or (λ (n : ℕ). n) o 0) both in
    placed grm choices starts (index c.args.first.0) k j symbols _ (symbol_of index c.in-Some-around.symbol) (moves_in index c.args.out.now.items)
    (moves_in index c.push_symbols.new.out.items) (moves_in index c.push_start.new.out.items) (moves_in index c.push_symbols-2.new.out.items) same at
    (λ nulls follow. c.in_ok-push_symbols.ensures nulls (subst (ForestFollows grm choices nulls) (sym front) follow))
    c.in_ok-push_start.ensures last trees begun)
    c.push_symbols-2.ensures
