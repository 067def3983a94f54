use Rattle.std.proofs.Common.{◌∙◌, Option, ℕ, ap, option_map}
use Rattle.std.proofs.lemmas.Option.{slice_get-get_or, slice_get-map}
use Rattle.lrpar_lexer.specs.Rules.{Rule, plain_rule, plain_rules}
use Rattle.lrpar_lexer.proofs.lexing.token_of.Goals as goal

pub returns : goal.returns
returns g c =
    let index = g.StorageT.StorageIndex.index in
    let all = c.args.rules.now in
    let token : Rule → Option ℕ = λ r. r.token in
    slice_get-map token (plain_rules index all) c.args.rule
    ∙ ap (option_map token) (slice_get-map (plain_rule index) all c.args.rule ∙ ap (option_map (plain_rule index)) (slice_get-get_or all c.args.rule c.index-rules-rule.result c.requires))
