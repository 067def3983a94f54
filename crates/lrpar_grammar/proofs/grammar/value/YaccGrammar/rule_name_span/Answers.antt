use Rattle.std.proofs.Common.{ap, sym, ◌∙◌, arith}
use Rattle.std.specs.Option.{option_map_or}
use Rattle.lrpar_grammar_places.specs.Span.{nowhere}
use Rattle.lrpar_grammar.proofs.RuleLemmas.{added_place, kept_added_rule, kept_rule_at}
use Rattle.lrpar_grammar.proofs.grammar.value.YaccGrammar.rule_name_span.Goals as goal

pub returns-in-0 : goal.returns-in-0
returns-in-0 g c =
    added_place c.new.result c.new.ensures.start c.new.ensures.end
    ∙ sym (ap (λ o. option_map_or (λ x. x.span) o nowhere)
    (kept_added_rule c.args.self.now c.self.inside.rules.items (g.StorageT.StorageIndex.index c.args.ridx.0) (ap (λ v. v.rules) c.self.view_is) (sym c.from.ensures ∙ c.in-0.is)))

pub returns-in_default : goal.returns-in_default
returns-in_default g c =
    let n = g.StorageT.StorageIndex.index c.args.ridx.0 in
    sym (ap (λ o. option_map_or (λ x. x.span) o nowhere)
    (kept_rule_at c.args.self.now c.self.inside.rules.items c.from.result n c.index.result.now (ap (λ v. v.rules) c.self.view_is) c.from.ensures (omega arith) c.requires c.index.ensures))
