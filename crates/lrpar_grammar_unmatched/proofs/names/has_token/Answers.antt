use Rattle.std.proofs.Common.{◌≡◌, sym, ◌∙◌, ap}
use Rattle.std.specs.List.{position}
use Rattle.std.specs.Option.{is_some}
use Rattle.std.specs.Str.{bytes_eq}
use Rattle.lrpar_grammar_unmatched.proofs.NameLemmas.{some_as, tokens_found, tokens_have}
use Rattle.lrpar_grammar_unmatched.proofs.names.has_token.Goals as goal

pub returns : goal.returns
returns g c =
    let tokens = c.args.grm.now.tokens in
    let name = c.args.name.now in
    let found : is_some c.token_idx.result ≡ is_some (position (λ token. bytes_eq token.name name) tokens) =
    sym (some_as (λ token. g.StorageT.StorageIndex.index token.0) c.token_idx.result) ∙ ap is_some c.token_idx.ensures in
    let is = c.is_some.ensures in
    (λ some. tokens_have name tokens (sym found ∙ sym is ∙ some), λ has. is ∙ found ∙ tokens_found name tokens has)
