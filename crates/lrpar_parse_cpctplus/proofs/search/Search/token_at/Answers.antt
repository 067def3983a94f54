use Rattle.std.proofs.Common.{◌≡◌, ◌∙◌, List, Option, ap, length, refl, slice_get, sym}
use Rattle.std.proofs.lemmas.Bool.{ltb-false, ltb-true}
use Rattle.std.proofs.lemmas.Option.{slice_get_past, slice_get_read}
use Rattle.std.specs.Option.{option_map_or}
use Rattle.lrpar_grammar.specs.Grammar.{end_token}
use Rattle.lrpar_parse_lexemes.specs.Views.{token_by}
use Rattle.lrpar_parse_cpctplus.proofs.search.Search.token_at.Goals as goal

pub returns-in-Some : goal.returns-in-Some
returns-in-Some g c =
    let index = g.StorageT.StorageIndex.index in
    let token = token_by index g.LexemeT.Lexeme.parts in
    let end = end_token c.args.self.now.point.now.checked.grammar in
    let lexemes = c.lexemes.result.now in
    let i = c.args.place in
    let x = c.in-Some.lexeme.now in
    let is = slice_get_read lexemes (length lexemes) i x refl (ltb-true i (length lexemes) (sym c.in-Some.ensures.lookup.0)) c.in-Some.ensures.lookup.1 in
    ap index c.tok_id.ensures.token ∙ ap (λ (o : Option g.row.LexemeT.Denot). option_map_or token o end) (sym is)
    ∙ ap (λ (xs : List g.row.LexemeT.Denot). option_map_or token (slice_get xs i) end) c.lexemes.ensures.lexemes

pub returns-in-None : goal.returns-in-None
returns-in-None g c =
    let index = g.StorageT.StorageIndex.index in
    let token = token_by index g.LexemeT.Lexeme.parts in
    let end = end_token c.args.self.now.point.now.checked.grammar in
    let lexemes = c.lexemes.result.now in
    let i = c.args.place in
    let none = slice_get_past lexemes i (ltb-false i (length lexemes) (sym c.in-None.ensures.lookup.0)) in
    let last : index c.eof_token_idx.result.0 ≡ end = rw (c.grm.ensures, c.data.ensures.data) at c.eof_token_idx.ensures in
    last ∙ ap (λ (o : Option g.row.LexemeT.Denot). option_map_or token o end) (sym none)
    ∙ ap (λ (xs : List g.row.LexemeT.Denot). option_map_or token (slice_get xs i) end) c.lexemes.ensures.lexemes
