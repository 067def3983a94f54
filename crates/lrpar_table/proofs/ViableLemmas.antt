-- A table that was built of a grammar is viable. Each of its item sets is the closure of the start item, or of items that are
-- advanced by one; and an item that another one adds has a core that the other one's core adds.
use Rattle.std.proofs.Common.{◌≡◌, ◌<◌, ◌∙◌, refl, sym, subst, arith, ℕ, List, [], ◌∷◌}
use Rattle.lrpar_grammar.specs.Grammar.{Grammar, GrammarSymbol, end_token, start_prod}
use Rattle.lrpar_table_precedence.specs.Precedence.{PrecedenceLists}
use Rattle.lrpar_table_rows.specs.Graph.{Graph, ItemOf, graph_len, item_at}
use Rattle.lrpar_table_rows.specs.Table.{Table, states_len}
use Rattle.lrpar_table_items.specs.Canonical.{AreSame, IsCanonical, sets_of}
use Rattle.lrpar_table_items.specs.ItemSets.{Added, IsAdvanced, IsInClosure, IsReachedBy, IsStartItem, Own}
use Rattle.lrpar_table_build.specs.Built.{IsBuilt, IsBuiltBy}
use Rattle.lrpar_table_build.proofs.SetLemmas.{same_back, same_on}
use Rattle.lrpar_table_viable.specs.Viable.{AddsCore, Begins, Closes, IsJustified, IsViable, Kernel}

module _ (g : Grammar) (graph : Graph) (table : Table) (canonical : IsCanonical g graph) (states : graph_len graph ≡ states_len table)
    (start : table.start ≡ 0) where
  -- the core of an item is justified
  abbrev IsFor : ℕ → ItemOf → Type 0
  IsFor s x = IsJustified g graph table s x.prod x.dot

  -- if those of some items are, so are those of their closure
  closure_justified : (s : ℕ) (items : ItemOf → Type 0) → AreSame (sets_of graph s) (IsInClosure g items) → ((x : ItemOf) → items x → IsFor s x)
      → (x : ItemOf) → IsInClosure g items x → IsFor s x
  closure_justified s items same own x (Own y h) = own y h
  closure_justified s items same own x (Added y z h adds) =
      let from : IsFor s y = closure_justified s items same own y h in
      let has = subst (λ (k : ℕ). sets_of graph s (item_at z.prod k z.token)) adds.fresh ((same z).1 (Added y z h adds)) in
      let by : AddsCore g y.prod y.dot z.prod =
      record { rule = adds.rule; rest = adds.rest; before = adds.before; known = adds.known; of_rule = adds.of_rule } in
      subst (IsJustified g graph table s z.prod) (sym adds.fresh) (Closes y.prod y.dot z.prod from by (z.token, has))

  -- a set that the empty path reaches is that of the start state
  starts_there : (s : ℕ) → s < graph_len graph → AreSame (sets_of graph s) (IsReachedBy g []) → s ≡ table.start
  starts_there s within same =
      let first = same_on (sets_of graph s) (IsReachedBy g []) (sets_of graph 0) same (same_back (sets_of graph 0) (IsReachedBy g []) canonical.start) in
      canonical.once s 0 within (omega (arith, within)) first ∙ sym start

  reached_justified : (s : ℕ) → s < graph_len graph → (path : List GrammarSymbol) → AreSame (sets_of graph s) (IsReachedBy g path)
      → (x : ItemOf) → IsReachedBy g path x → IsFor s x
  reached_justified s within [] same =
      let first = item_at (start_prod g) 0 (end_token g) in
      let has : sets_of graph s first = (same first).1 (Own first refl) in
      closure_justified s (IsStartItem g) same (λ x is. subst (IsFor s) (sym is) (Begins (starts_there s within same) (end_token g, has)))
  reached_justified s within (z ∷ path) same =
      closure_justified s (IsAdvanced g (IsReachedBy g path) z) same
      (λ y from.
      let has : sets_of graph s y = (same y).1 (Own y from) in
      let x = from.0 in
      subst (IsFor s) (sym from.3) (Kernel x.prod x.dot (x.token, subst (sets_of graph s) from.3 has)))

  canonical_is_viable : IsViable g graph table
  canonical_is_viable = record {
    each = λ s within.
        let low : s < graph_len graph = omega (arith, within, states) in
        let some = canonical.some s low in
        let reached = canonical.reached s low in
        record {
          some = (some.0.prod, some.0.dot, (some.0.token, some.1));
          justified = λ p k has.
              let x = item_at p k has.0 in reached_justified s low reached.0 reached.1 x ((reached.1 x).0 has.1);
        };
  }

pub built_tables_are_viable : (g : Grammar) (graph : Graph) (table : Table) → IsBuilt g graph table → IsViable g graph table
built_tables_are_viable g graph table built =
    canonical_is_viable g graph table built.canonical built.resolved.states built.resolved.start

pub tables_by_precedence_are_viable : (g : Grammar) (precedences : PrecedenceLists) (graph : Graph) (table : Table)
    → IsBuiltBy g precedences graph table → IsViable g graph table
tables_by_precedence_are_viable g precedences graph table built =
    canonical_is_viable g graph table built.canonical built.resolution.states built.resolution.start
