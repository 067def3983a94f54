use Rattle.std.proofs.Common.{◌≡◌, ◌≤◌, ◌-◌, ◌∙◌, Some, arith, length, map, sym, subst}
use Rattle.std.proofs.lemmas.List.{length-map}
use Rattle.std.proofs.lemmas.Option.{same_Some}
use Rattle.std.specs.List.{slice_get}
use Rattle.lrpar_grammar.specs.Sentence.{LexemeFacts}
use Rattle.lrpar_parse_lexemes.specs.Views.{facts_by}
use Rattle.lrpar_parse_lexemes.proofs.PlaceLemmas.{last_mapped}
use Rattle.lrpar_parse_run.proofs.StartLemmas.{none_past, starts_rise}
use Rattle.lrpar_parse_run.proofs.whole_run.starts_rise.Goals as goal

pub returns-in-Some : goal.returns-in-Some
returns-in-Some g c =
    let facts = facts_by g.StorageT.StorageIndex.index g.LexemeT.Lexeme.parts in
    let lexemes = c.args.lexemes.now in
    let last = c.in-Some.last.now in
    let read : Some last ≡ slice_get lexemes (length lexemes - 1) = rw c.in-Some.is at c.last.ensures.value in
    let known_at : slice_get (map facts lexemes) (length (map facts lexemes) - 1) ≡ Some (facts last) = last_mapped facts lexemes (Some last) read in
    let order = rw c.span.ensures.span at c.start-lemma.ensures.ordered in
    starts_rise c.args.grm.now (map facts lexemes) c.requires
    (λ x at. subst (λ (f : LexemeFacts). f.span.start ≤ f.span.end) (same_Some (facts last) x (sym known_at ∙ at)) order)

pub returns-in_default : goal.returns-in_default
returns-in_default g c =
    let facts = facts_by g.StorageT.StorageIndex.index g.LexemeT.Lexeme.parts in
    let lexemes = c.args.lexemes.now in
    let none = rw c.in_default.is at c.last.ensures.value in
    λ i within. absurd (omega (arith, none_past lexemes (length lexemes - 1) (sym none), length-map lexemes facts, within))
