use Rattle.std.proofs.Common.{◌≡◌, ◌-◌, ◌∙◌, None, Some, ap, length, sym}
use Rattle.std.specs.List.{slice_get}
use Rattle.lrpar_parse_lexemes.specs.Views.{facts_by}
use Rattle.lrpar_parse_lexemes.proofs.PlaceLemmas.{last_end_is}
use Rattle.lrpar_parse_lexemes.proofs.places.end_of.Goals as goal

pub returns-in-Some : goal.returns-in-Some
returns-in-Some g c =
    let facts = facts_by g.StorageT.StorageIndex.index g.LexemeT.Lexeme.parts in
    let lexemes = c.args.lexemes.now in
    let last = c.in-Some.lexeme.now in
    let read : Some last ≡ slice_get lexemes (length lexemes - 1) = rw c.in-Some.is at c.last.ensures.value in
    c.end.ensures.end ∙ (ap (λ s. s.end) c.span.ensures.span ∙ sym (last_end_is facts lexemes (Some last) read))

pub returns-in-None : goal.returns-in-None
returns-in-None g c =
    let facts = facts_by g.StorageT.StorageIndex.index g.LexemeT.Lexeme.parts in
    sym (last_end_is facts c.args.lexemes.now None (rw c.in-None.is at c.last.ensures.value))
