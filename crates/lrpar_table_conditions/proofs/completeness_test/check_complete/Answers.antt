use Rattle.std.proofs.Common.{sym, subst}
use Rattle.lrpar_table_conditions.specs.Complete.{IsComplete}
use Rattle.lrpar_table_conditions.proofs.completeness_test.check_complete.Goals as goal

pub returns-clause-exact : goal.returns-clause-exact
returns-clause-exact g c complete =
    let fault = c.in-Some.ensures in
    let own = c.new-checked.result in
    let there =
    subst (λ grm. IsComplete grm own.sgraph.now own.stable.now) (sym c.new-checked.ensures.grammar)
    (subst (λ graph. IsComplete c.args.grm.now graph own.stable.now) (sym c.new-checked.ensures.graph)
    (subst (λ table. IsComplete c.args.grm.now c.args.sgraph.now table) (sym c.new-checked.ensures.table) complete)) in
    absurd (fault.state.fails (there.each c.in-Some.condition c.in-Some.state fault.state.within))
