use Rattle.std.proofs.Common.{◌≡◌, ◌∙◌, sym}
use Rattle.lrpar_grammar.specs.Grammar.{Terminal}
use Rattle.lrpar_table_rows.specs.Table.{ShiftTo}
use Rattle.lrpar_table_conditions.proofs.ItemwiseLemmas.{no_shift, steps_each, steps_none}
use Rattle.lrpar_table_conditions.proofs.completeness_test.Completeness.shifts_to.Goals as goal

pub returns-in-Shift : goal.returns-in-Shift
returns-in-Shift g c =
    let index = g.StorageT.StorageIndex.index in
    let goes = sym c.in-Shift.ensures.action in
    steps_each c.args.self.now.sgraph.now c.args.self.now.stable.now (index c.args.s.0) (Terminal (index c.args.token.0)) (index c.in-Shift.next.0)
    (index c.args.pidx.0) c.args.dot c.has_advanced.result goes
    (λ n other. let both : ShiftTo n ≡ ShiftTo (index c.in-Shift.next.0) = sym other ∙ goes in cc) c.has_advanced.ensures

pub returns-in_default : goal.returns-in_default
returns-in_default g c =
    let index = g.StorageT.StorageIndex.index in
    steps_none c.args.self.now.sgraph.now c.args.self.now.stable.now (index c.args.s.0) (Terminal (index c.args.token.0)) (index c.args.pidx.0) c.args.dot
    c.requires.core (no_shift index c.action.result _ c.action.ensures.action c.in_default.not-Shift)
