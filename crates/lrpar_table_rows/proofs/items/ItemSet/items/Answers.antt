use Rattle.std.proofs.Common.{◌∙◌}
use Rattle.lrpar_table_rows.proofs.items.ItemSet.items.Goals as goal

pub new-requires : goal.new-requires
new-requires g c = rw (c.as_slice.ensures.all, c.deref.ensures.value) c.self.invariant.paired

pub returns-clause-all : goal.returns-clause-all
returns-clause-all g c = (rw (c.as_slice.ensures.all, c.deref.ensures.value) at c.new.ensures) ∙ c.self.view_is

pub returns-clause-ascending : goal.returns-clause-ascending
returns-clause-ascending g c = rw (← c.self.view_is) c.self.invariant.ascending
