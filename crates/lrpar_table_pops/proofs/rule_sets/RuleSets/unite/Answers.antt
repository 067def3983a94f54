use Rattle.std.proofs.Common.{◌<◌, length, subst, sym}
use Rattle.lrpar_table_pops.proofs.RuleSetLemmas.{noted_alone}
use Rattle.lrpar_table_pops.proofs.rule_sets.RuleSets.unite.Goals as goal

pub invariant_of-self : goal.invariant_of-self
invariant_of-self c =
    let inside = c.self.inside in
    let low = subst (λ s. c.args.rule < length s.items) (sym c.self.view_is) c.requires in
    noted_alone inside.sets.items c.args.rule c.index.result.now c.unite.new.tokens inside.rules.items c.note_rule.new.rules.items inside.is_short
    c.note_rule.new.is_short low c.index.ensures c.self.invariant c.note_rule.ensures.kept c.note_rule.ensures.noted
