use Rattle.lrpar_table_rows.proofs.packed.Packed.of_rows.Goals as goal

pub returns-in-Some-clause-packed : goal.returns-in-Some-clause-packed
returns-in-Some-clause-packed g c = rw (← c.deref.ensures.value) (rw c.in-Some.is at c.in_ok-slots.ensures.packed)
