-- Walks of a built table are the paths to its states: the gotos of the table are those of the item sets.
use Rattle.std.proofs.Common.{◌≡◌, ◌<◌, ◌∙◌, sym, subst, arith, ℕ, List, [], ◌∷◌}
use Rattle.lrpar_grammar.specs.Grammar.{Grammar, GrammarSymbol, IsWellFormed, Nonterminal, Terminal, end_token}
use Rattle.lrpar_table_rows.specs.Graph.{Graph, ItemOf, graph_len, item_at}
use Rattle.lrpar_table_rows.specs.Safe.{CoresFollow, GoesBy}
use Rattle.lrpar_table_rows.specs.declared.condition.SafetyCondition.TheVariants.{S4, S8}
use Rattle.lrpar_table_rows.specs.Table.{IsClosed, Table, states_len}
use Rattle.lrpar_table_build.specs.Built.{IsBuilt}
use Rattle.lrpar_table_items.specs.Canonical.{AreSame, LeadsTo, HasAfterDot, sets_of}
use Rattle.lrpar_table_items.specs.ItemSets.{Added, IsAdvanced, IsInClosure, IsInNext, IsReachedBy, Own}
use Rattle.lrpar_table_build.proofs.ReachedLemmas.{symbol_listed}
use Rattle.lrpar_table_build.proofs.SetLemmas.{next_more, same_back, same_on}
use Rattle.lrpar_table_sentences.specs.AccessLens.{IsWalk, Goes, Starts}

-- if a closure has an item, some item was given
closure_given : (g : Grammar) (items : ItemOf → Type 0) (x : ItemOf) → IsInClosure g items x → (y : ItemOf) × items y
closure_given g items x (Own y h) = (y, h)
closure_given g items x (Added y z h adds) = closure_given g items y h

-- sets that have the same items go to sets that do
next_same : (g : Grammar) (items others : ItemOf → Type 0) (s : GrammarSymbol) → AreSame items others → AreSame (IsInNext g items s) (IsInNext g others s)
next_same g items others s same x = (next_more g items others s (λ y. (same y).0) x, next_more g others items s (λ y. (same y).1) x)

module _ (g : Grammar) (graph : Graph) (table : Table) (well : IsWellFormed g) (built : IsBuilt g graph table) (closed : IsClosed table) where
  -- if an item is before a symbol, the table goes by it, and so do the sets
  pub goes_before : (s : ℕ) (x : GrammarSymbol) → s < states_len table → HasAfterDot g (sets_of graph) s x
      → (next : ℕ) × GoesBy table s x next × LeadsTo g (sets_of graph) s x next
  goes_before s (Terminal t) within before =
      let listed : t < end_token g = symbol_listed g well before.0.prod before.0.dot (Terminal t) before.2 in
      (built.resolved.acts s t within (omega (arith, listed))).shifts before
  goes_before s (Nonterminal r) within before =
      let listed = symbol_listed g well before.0.prod before.0.dot (Nonterminal r) before.2 in
      (built.resolved.goes s r within listed.1).goes before

  -- the table goes to one of its states
  pub goes_within : (s next : ℕ) (x : GrammarSymbol) → GoesBy table s x next → next < states_len table
  goes_within s next (Terminal t) goes = closed.shifts_within s t next goes
  goes_within s next (Nonterminal r) goes = closed.gotos_within s r next goes

  -- and to one only
  goes_once : (s next other : ℕ) (x : GrammarSymbol) → GoesBy table s x next → GoesBy table s x other → next ≡ other
  goes_once s next other (Terminal t) one two = let both = sym one ∙ two in cc
  goes_once s next other (Nonterminal r) one two = let both = sym one ∙ two in cc

  in_graph : (s : ℕ) → s < states_len table → s < graph_len graph
  in_graph s within = let count = built.resolved.states in omega (arith, within, count)

  -- if the table goes by a symbol, an item is before it
  item_before : (s next : ℕ) (x : GrammarSymbol) → s < states_len table → GoesBy table s x next → HasAfterDot g (sets_of graph) s x
  item_before s next x within goes =
      let low = in_graph next (goes_within s next x goes) in
      let reached = built.canonical.reached next low in
      let some = built.canonical.some next low in
      by_path reached.0 reached.1 some.0 some.1
    where
      by_path : (path : List GrammarSymbol) → AreSame (sets_of graph next) (IsReachedBy g path) → (y : ItemOf) → sets_of graph next y
          → HasAfterDot g (sets_of graph) s x
      by_path [] same y there =
          let start = built.canonical.start in
          let zero : next ≡ 0 =
          built.canonical.once next 0 (in_graph next (goes_within s next x goes)) (let some = built.safe.shape.some in in_graph 0 some)
          (same_on (sets_of graph next) (IsReachedBy g []) (sets_of graph 0) same (same_back (sets_of graph 0) (IsReachedBy g []) start)) in
          let back : next ≡ table.start = zero ∙ sym built.resolved.start in
          absurd ((built.safe.each S8 s within).never_back x (subst (GoesBy table s x) back goes))
      by_path (z ∷ path) same y there =
          let given = closure_given g (IsAdvanced g (IsReachedBy g path) z) y ((same y).0 there) in
          let from = given.1.0 in
          let here = (same given.0).1 (Own given.0 given.1) in
          let core = subst (λ (item : ItemOf). sets_of graph next item) given.1.3 here in
          let follow : CoresFollow g graph s x next = built.safe.each S4 s within x next goes in
          let fact = follow from.prod from.dot (from.token, core) in
          (item_at from.prod from.dot fact.1.0, fact.1.1, fact.0)

  -- the sets go as the table does
  pub goes_leads : (s next : ℕ) (x : GrammarSymbol) → s < states_len table → GoesBy table s x next → LeadsTo g (sets_of graph) s x next
  goes_leads s next x within goes =
      let to = goes_before s x within (item_before s next x within goes) in
      subst (LeadsTo g (sets_of graph) s x) (goes_once s to.0 next x to.1 goes) to.2

  -- a walk is a path
  pub walk_path : (s : ℕ) (path : List GrammarSymbol) → IsWalk table s path → AreSame (sets_of graph s) (IsReachedBy g path)
  walk_path s path Starts = subst (λ n. AreSame (sets_of graph n) (IsReachedBy g [])) (sym built.resolved.start) built.canonical.start
  walk_path s path (Goes from next x before walk within goes) =
      same_on (sets_of graph next) (IsInNext g (sets_of graph from) x) (IsInNext g (IsReachedBy g before) x) (goes_leads from next x within goes)
      (next_same g (sets_of graph from) (IsReachedBy g before) x (walk_path from before walk))

  -- a path is a walk
  pub path_walk : (path : List GrammarSymbol) (s : ℕ) → s < states_len table → AreSame (sets_of graph s) (IsReachedBy g path) → IsWalk table s path
  path_walk [] s within same =
      let start = built.canonical.start in
      let zero : s ≡ 0 =
      built.canonical.once s 0 (in_graph s within) (let some = built.safe.shape.some in in_graph 0 some)
      (same_on (sets_of graph s) (IsReachedBy g []) (sets_of graph 0) same (same_back (sets_of graph 0) (IsReachedBy g []) start)) in
      subst (λ n. IsWalk table n []) (built.resolved.start ∙ sym zero) Starts
  path_walk (x ∷ path) s within same =
      let some = built.canonical.some s (in_graph s within) in
      let given = closure_given g (IsAdvanced g (IsReachedBy g path) x) some.0 ((same some.0).0 some.1) in
      let from = given.1.0 in
      let one = built.canonical.all path from given.1.1 in
      let low : one.0 < states_len table = let count = built.resolved.states in let inside = one.1 in omega (arith, count, inside) in
      let before : HasAfterDot g (sets_of graph) one.0 x = (from, (one.2 from).1 given.1.1, given.1.2) in
      let to = goes_before one.0 x low before in
      let there : AreSame (sets_of graph to.0) (IsReachedBy g (x ∷ path)) =
      same_on (sets_of graph to.0) (IsInNext g (sets_of graph one.0) x) (IsInNext g (IsReachedBy g path) x) to.2
      (next_same g (sets_of graph one.0) (IsReachedBy g path) x one.2) in
      let is : to.0 ≡ s =
      built.canonical.once to.0 s (in_graph to.0 (goes_within one.0 to.0 x to.1)) (in_graph s within)
      (same_on (sets_of graph to.0) (IsReachedBy g (x ∷ path)) (sets_of graph s) there (same_back (sets_of graph s) (IsReachedBy g (x ∷ path)) same)) in
      subst (λ n. IsWalk table n (x ∷ path)) is (Goes one.0 to.0 x path (path_walk path one.0 low one.2) low to.1)
