use Rattle.std.proofs.Common.{◌≡◌, ◌<◌, length, subst, sym}
use Rattle.lrpar_table_pops.specs.Growth.{AddsAll}
use Rattle.lrpar_table_pops.specs.Room.{GainsToken}
use Rattle.lrpar_table_pops.specs.Sets.{AddsOnlyToken}
use Rattle.lrpar_table_pops.proofs.RuleSetLemmas.{noted_alone, replaced}
use Rattle.lrpar_table_pops.proofs.rule_sets.RuleSets.insert_new.Goals as goal

pub invariant_of-self : goal.invariant_of-self
invariant_of-self c =
    let inside = c.self.inside in
    let low = subst (λ s. c.args.rule < length s.items) (sym c.self.view_is) c.requires in
    noted_alone inside.sets.items c.args.rule c.index.result.now c.insert_new.new.tokens inside.rules.items c.note_rule.new.rules.items inside.is_short
    c.note_rule.new.is_short low c.index.ensures c.self.invariant c.note_rule.ensures.kept c.note_rule.ensures.noted

pub returns-clause-adds : goal.returns-clause-adds
returns-clause-adds c =
    let inside = c.self.inside in
    let low = subst (λ s. c.args.rule < length s.items) (sym c.self.view_is) c.requires in
    let put =
    replaced (λ old new. AddsOnlyToken old new c.args.token × AddsAll (λ t. t ≡ c.args.token) old new × GainsToken old new c.insert_new.result) inside.sets.items
    c.args.rule c.index_mut.result.now c.insert_new.new.tokens low c.index_mut.ensures.value
    (c.insert_new.ensures.adds, c.insert_new.ensures.all, c.insert_new.ensures.grown) in
    rw (← c.self.view_is) put
