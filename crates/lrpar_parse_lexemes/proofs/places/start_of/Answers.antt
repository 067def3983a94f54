use Rattle.std.proofs.Common.{◌≤◌, ◌∙◌, ap, length, refl, sym}
use Rattle.std.proofs.lemmas.Bool.{ltb-false, ltb-true}
use Rattle.std.proofs.lemmas.Option.{slice_get_past, slice_get_read}
use Rattle.lrpar_parse_lexemes.specs.Views.{facts_by}
use Rattle.lrpar_parse_lexemes.proofs.PlaceLemmas.{start_at_is}
use Rattle.lrpar_parse_lexemes.proofs.PlaceLemmas.{start_at_none}
use Rattle.lrpar_parse_lexemes.proofs.places.start_of.Goals as goal

pub returns-in-Some : goal.returns-in-Some
returns-in-Some g c =
    let facts = facts_by g.StorageT.StorageIndex.index g.LexemeT.Lexeme.parts in
    let lexemes = c.args.lexemes.now in
    let i = c.args.place in
    let x = c.in-Some.lexeme.now in
    let is = slice_get_read lexemes (length lexemes) i x refl (ltb-true i (length lexemes) (sym c.in-Some.ensures.lookup.0)) c.in-Some.ensures.lookup.1 in
    c.start.ensures.start ∙ (ap (λ s. s.start) c.span.ensures.span ∙ sym (start_at_is facts lexemes i x is))

pub returns-in-None : goal.returns-in-None
returns-in-None g c =
    let facts = facts_by g.StorageT.StorageIndex.index g.LexemeT.Lexeme.parts in
    let lexemes = c.args.lexemes.now in
    let i = c.args.place in
    let past : length lexemes ≤ i = ltb-false i (length lexemes) (sym c.in-None.ensures.lookup.0) in
    c.end_of.ensures ∙ sym (start_at_none facts lexemes i (slice_get_past lexemes i past))
