use Rattle.std.proofs.Common.{inl, inr, lit<, refl, rules}
use Rattle.lrpar_table_rows.specs.Table.{action_of, goto_of}
use Rattle.lrpar_table_stacks.proofs.laws.sum_table_has_stack.Goals as goal

pub returns-clause-stack : goal.returns-clause-stack
unfolding action_of goto_of
returns-clause-stack c = (refl, (inr (2, lit< tt, refl), (inl (0, lit< tt, refl), (inl (1, lit< tt, refl), tt))))

pub returns-clause-not_joined : goal.returns-clause-not_joined
unfolding action_of goto_of
returns-clause-not_joined c = search rules
