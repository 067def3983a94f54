use Rattle.std.proofs.Common.{[], ◌∷◌, refl, lit<}
use Rattle.lrpar_table_stacks.specs.Reduction.{Reduces}
use Rattle.lrpar_grammar.specs.Sum.{sum_grammar}
use Rattle.lrpar_table_rows.specs.Sum.{sum_table}
use Rattle.lrpar_table_rows.specs.Table.{action_of, goto_of}
use Rattle.lrpar_table_stacks.proofs.laws.sum_table_settles.Goals as goal

to_t : Reduces sum_grammar sum_table 2 (0 ∷ 2 ∷ 4 ∷ 3 ∷ []) 2 (0 ∷ 2 ∷ 4 ∷ 2 ∷ [])
unfolding action_of goto_of
to_t = record { action = refl; known = lit< tt; deep = lit< tt; state = 2; goto = refl; pushed = refl }

to_e : Reduces sum_grammar sum_table 2 (0 ∷ 2 ∷ 4 ∷ 2 ∷ []) 1 (0 ∷ 2 ∷ 4 ∷ 5 ∷ [])
unfolding action_of goto_of
to_e = record { action = refl; known = lit< tt; deep = lit< tt; state = 5; goto = refl; pushed = refl }

to_sum : Reduces sum_grammar sum_table 2 (0 ∷ 2 ∷ 4 ∷ 5 ∷ []) 0 (0 ∷ 1 ∷ [])
unfolding action_of goto_of
to_sum = record { action = refl; known = lit< tt; deep = lit< tt; state = 1; goto = refl; pushed = refl }

pub returns : goal.returns
unfolding action_of goto_of
returns c = (_, to_t, (_, to_e, (_, to_sum, (refl, λ p other. cc))))
