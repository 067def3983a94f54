-- A table of merged item sets is viable: by induction over how a state holds an item, its core is justified.
use Rattle.std.proofs.Common.{◌≡◌, ◌<◌, ◌+◌, sym, subst, arith, ℕ}
use Rattle.lrpar_grammar.specs.Grammar.{Grammar, GrammarSymbol}
use Rattle.lrpar_table_rows.specs.Graph.{Graph, ItemOf, graph_len, item_at}
use Rattle.lrpar_table_rows.specs.Table.{Table, states_len}
use Rattle.lrpar_table_items.specs.Canonical.{sets_of}
use Rattle.lrpar_table_viable.specs.Viable as viable
use Rattle.lrpar_table_viable.specs.Viable.{AddsCore, IsJustified, IsViable}
use Rattle.lrpar_table_merge.specs.Held.{Closes, IsHeld, Starts, Steps}
use Rattle.lrpar_table_merge.specs.Merged.{Along, AreMerged}
use Rattle.lrpar_table_merge.specs.MergedLaws.{MergedTablesAreViable}
use Rattle.lrpar_table_merge.specs.MergedByLaws.{MergedTablesByPrecedencesAreViable}
use Rattle.lrpar_table_merge.proofs.MergedHeldLemmas.{held_within}

module _ (g : Grammar) (graph : Graph) (table : Table) (goes : ℕ → GrammarSymbol → ℕ → Type 0)
    (merged : AreMerged g (graph_len graph) (sets_of graph) goes) (start : table.start ≡ 0) where
  -- a set has what its state holds
  there : (s : ℕ) (x : ItemOf) → IsHeld g goes s x → sets_of graph s x
  there s x h = (merged.held s (held_within g goes (graph_len graph) (sets_of graph) merged s x h) x).1 h

  held_justified : (s : ℕ) (x : ItemOf) → IsHeld g goes s x → IsJustified g graph table s x.prod x.dot
  held_justified s x (Starts y is) =
      let has : sets_of graph 0 y = there 0 y (Starts y is) in
      let first = subst (sets_of graph 0) is has in
      subst (λ (z : ItemOf). IsJustified g graph table 0 z.prod z.dot) (sym is) (viable.Begins (sym start) (_, first))
  held_justified s x (Closes r y z h adds) =
      let from : IsJustified g graph table r y.prod y.dot = held_justified r y h in
      let has = subst (λ (k : ℕ). sets_of graph r (item_at z.prod k z.token)) adds.fresh (there r z (Closes r y z h adds)) in
      let by : AddsCore g y.prod y.dot z.prod =
      record { rule = adds.rule; rest = adds.rest; before = adds.before; known = adds.known; of_rule = adds.of_rule } in
      subst (IsJustified g graph table r z.prod) (sym adds.fresh) (viable.Closes y.prod y.dot z.prod from by (z.token, has))
  held_justified s x (Steps r n X y go h at) =
      viable.Kernel y.prod y.dot (y.token, there n (item_at y.prod (y.dot + 1) y.token) (Steps r n X y go h at))

  viable_table : graph_len graph ≡ states_len table → IsViable g graph table
  viable_table states = record {
    each = λ s within.
        let low : s < graph_len graph = omega (arith, within, states) in
        let some = merged.some s low in
        record {
          some = (some.0.prod, some.0.dot, (some.0.token, some.1));
          justified = λ p k has. held_justified s (item_at p k has.0) ((merged.held s low (item_at p k has.0)).0 has.1);
        };
  }

pub merged_tables_are_viable : MergedTablesAreViable
merged_tables_are_viable g graph table steps merged resolved =
    viable_table g graph table (Along steps) merged resolved.start resolved.states

-- whatever precedences resolve its conflicts
pub merged_tables_by_precedences_are_viable : MergedTablesByPrecedencesAreViable
merged_tables_by_precedences_are_viable g lists graph table steps merged resolved =
    viable_table g graph table (Along steps) merged resolved.start resolved.states
