use Rattle.lrpar_table_conditions.proofs.completeness_test.Completeness.core_holds.Goals as goal

pub returns-in-C3 : goal.returns-in-C3
returns-in-C3 g c = rw c.in-C3.is c.shifts_core.ensures

pub returns-in-C4 : goal.returns-in-C4
returns-in-C4 g c = rw c.in-C4.is c.carries_core.ensures

pub returns-in-C5 : goal.returns-in-C5
returns-in-C5 g c = rw c.in-C5.is c.ends_core.ensures
