-- That a table is safe isn't enough for the viable prefix property: two tables of the grammar *sum* that are safe and not viable. Each
-- is the small table with one more state, 6, to which the start state shifts '+'. So a run feeds '+', and no sentence begins with it.
use Rattle.std.specs.Prelude.{◌++◌, ℕ, [], ◌∷◌}
use Rattle.lrpar_grammar.specs.Grammar.{Grammar, IsWellFormed}
use Rattle.lrpar_table_rows.specs.Graph.{Graph, item_at}
use Rattle.lrpar_table_rows.specs.Safe.{IsSafe}
use Rattle.lrpar_table_rows.specs.Sum.{sum_graph, sum_table, with_actions, with_bare_state}
use Rattle.lrpar_table_rows.specs.Table.{IsClosed, ShiftTo, Table}
use Rattle.lrpar_table_sentences.specs.Reachable.{EachReachableHasTree}
use Rattle.lrpar_table_viable.specs.Viable.{IsViable}
use Rattle.lrpar_parse_prefixes.specs.ViableLaws.{KeepsToSentences}

-- the small table whose state 6 has no item
abbrev pub bare_table : Table
bare_table = with_bare_state (with_actions 0 ((0, ShiftTo 6) ∷ (1, ShiftTo 3) ∷ []))

-- the item sets of the small table, and in state 6 the item `T: . 'ID' {end}`, which no other item adds
abbrev pub stray_graph : Graph
stray_graph = sum_graph ++ (item_at 2 0 2 ∷ []) ∷ []

-- the small table with the goto by T that the stray item calls for: from state 6 to itself
abbrev pub stray_table : Table
stray_table = record bare_table { gotos = sum_table.gotos ++ ((2, 6) ∷ []) ∷ [] }

-- each reachable rule is productive, and the table is safe; but it isn't viable, and some error comes too late
pub record ErrsLate (g : Grammar) (graph : Graph) (table : Table) : Type 0 where
  pub well : IsWellFormed g
  pub closed : IsClosed table
  pub safe : IsSafe g graph table
  pub productive : EachReachableHasTree g
  pub unviable : ¬ (IsViable g graph table)
  pub late : ¬ (KeepsToSentences (λ (token : ℕ). token) g table)
