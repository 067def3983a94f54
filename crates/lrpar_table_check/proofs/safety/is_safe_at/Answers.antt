use Rattle.lrpar_table_check.proofs.safety.is_safe_at.Goals as goal

pub returns-in-S2 : goal.returns-in-S2
returns-in-S2 g c = rw c.in-S2.is c.starts_fresh.ensures

pub returns-in-S4 : goal.returns-in-S4
returns-in-S4 g c = rw c.in-S4.is c.steps_from_cores.ensures

pub returns-in-S5 : goal.returns-in-S5
returns-in-S5 g c = rw c.in-S5.is c.reduces_complete.ensures
