-- Numbered sets that have the same items: what holds of one holds of the other. And the sets of rows of items, which are those of
-- the cores that the rows were made of.
use Rattle.std.proofs.Common.{◌≡◌, ◌<◌, ◌↔◌, ◌∙◌, sym, ap, subst, inl, inr, arith, ℕ, true, List, [], filter, length}
use Rattle.std.specs.List.{Contains, range_with_len}
use Rattle.std.proofs.lemmas.Bool.{cases_lt}
use Rattle.std.proofs.lemmas.List.{get_or-map, get_or_past, length-map}
use Rattle.lrpar_grammar.specs.Grammar.{Grammar, GrammarSymbol, tokens_len}
use Rattle.lrpar_table_rows.specs.Graph.{Graph, HasItem, ItemOf, item_at, items_of}
use Rattle.lrpar_table_rows.proofs.ItemLemmas.{Contains-image, Contains-preimage}
use Rattle.lrpar_table_items.specs.Canonical.{AreCanonical, AreSame, LeadsTo, HasAfterDot, sets_of}
use Rattle.lrpar_table_items.specs.Cores.{CoreSet, IsAmong}
use Rattle.lrpar_table_items.specs.ItemSets.{Added, IsAdvanced, IsInClosure, IsInNext, IsReachedBy, Own}
use Rattle.lrpar_table_items.specs.StateRows.{item_rows}
use Rattle.lrpar_table_items.specs.States.{StateOf, sets_at, state_at}
use Rattle.lrpar_grammar.specs.Tokens.{has}
use Rattle.lrpar_table_items.specs.CompleteItems.{items_of_core, items_of_cores}
use Rattle.lrpar_table_build.proofs.MemberLemmas.{filter_has, filter_member, joined_has, joined_member, member_none, range_has, range_member}

-- having the same items is symmetric
pub same_back : (items others : ItemOf → Type 0) → AreSame items others → AreSame others items
same_back items others same x = ((same x).1, (same x).0)

pub same_on : (items others more : ItemOf → Type 0) → AreSame items others → AreSame others more → AreSame items more
same_on items others more one two x = (λ h. (two x).0 ((one x).0 h), λ h. (one x).1 ((two x).1 h))

-- the closure of more items has all that the closure of fewer has
pub closure_more : (g : Grammar) (items others : ItemOf → Type 0) → ((x : ItemOf) → items x → others x) → (x : ItemOf)
    → IsInClosure g items x → IsInClosure g others x
closure_more g items others more x (Own y h) = Own y (more y h)
closure_more g items others more x (Added y z h adds) = Added y z (closure_more g items others more y h) adds

-- so has the goto
pub next_more : (g : Grammar) (items others : ItemOf → Type 0) (s : GrammarSymbol) → ((x : ItemOf) → items x → others x)
    → (x : ItemOf) → IsInNext g items s x → IsInNext g others s x
next_more g items others s more =
    closure_more g (IsAdvanced g items s) (IsAdvanced g others s) (λ y h. (h.0, more h.0 h.1, h.2, h.3))

module _ (g : Grammar) (sets others : ℕ → ItemOf → Type 0) (same : (s : ℕ) → AreSame (sets s) (others s)) where
  -- an item with the symbol after its dot is in both
  pub before_same : (s : ℕ) (symbol : GrammarSymbol) → HasAfterDot g others s symbol → HasAfterDot g sets s symbol
  before_same s symbol h = (h.0, (same s h.0).1 h.1, h.2)

  pub before_other : (s : ℕ) (symbol : GrammarSymbol) → HasAfterDot g sets s symbol → HasAfterDot g others s symbol
  before_other s symbol h = (h.0, (same s h.0).0 h.1, h.2)

  -- both have the same gotos
  pub leads_same : (s : ℕ) (symbol : GrammarSymbol) (next : ℕ) → LeadsTo g others s symbol next → LeadsTo g sets s symbol next
  leads_same s symbol next h x = (
    λ there. next_more g (others s) (sets s) symbol (λ y. (same s y).1) x ((h x).0 ((same next x).0 there)),
    λ there. (same next x).1 ((h x).1 (next_more g (sets s) (others s) symbol (λ y. (same s y).0) x there)),
  )

  -- both are the canonical collection
  pub canonical_same : (len : ℕ) → AreCanonical g len others → AreCanonical g len sets
  canonical_same len are = record {
    start = same_on (sets 0) (others 0) (IsReachedBy g []) (same 0) are.start;
    some = λ s below. let one = are.some s below in (one.0, (same s one.0).1 one.1);
    reached = λ s below. let one = are.reached s below in (one.0, same_on (sets s) (others s) (IsReachedBy g one.0) (same s) one.1);
    all = λ path x h. let one = are.all path x h in (one.0, one.1, same_on (sets one.0) (others one.0) (IsReachedBy g path) (same one.0) one.2);
    once = λ s other below within both.
        are.once s other below within (same_on (others s) (sets s) (others other) (same_back (sets s) (others s) (same s))
        (same_on (sets s) (sets other) (others other) both (same other)));
  }

-- the items of a core, one by one, are its items with tokens below the number
core_items : (tokens : ℕ) (core : CoreSet) (x : ItemOf) → Contains (items_of_core tokens core) x
    → (core.prod ≡ x.prod) × (core.dot ≡ x.dot) × (has core.tokens x.token ≡ true) × (x.token < tokens)
core_items tokens core x h =
    let one = Contains-preimage (item_at core.prod core.dot) (filter (has core.tokens) (range_with_len 0 tokens)) x h in
    let kept = filter_member (has core.tokens) (range_with_len 0 tokens) one.0 one.1 in
    let within = range_member 0 tokens one.0 kept.0 in
    let token : one.0 ≡ x.token = ap (λ (y : ItemOf). y.token) one.2 in
    (ap (λ (y : ItemOf). y.prod) one.2, ap (λ (y : ItemOf). y.dot) one.2, subst (λ t. has core.tokens t ≡ true) token kept.1, omega (arith, within, token))

items_core : (tokens : ℕ) (core : CoreSet) (x : ItemOf) → core.prod ≡ x.prod → core.dot ≡ x.dot → has core.tokens x.token ≡ true → x.token < tokens
    → Contains (items_of_core tokens core) x
items_core tokens core x prod dot there within =
    let kept = filter_has (has core.tokens) (range_with_len 0 tokens) x.token (range_has 0 tokens x.token (omega arith) (omega (arith, within))) there in
    let made = Contains-image (item_at core.prod core.dot) (filter (has core.tokens) (range_with_len 0 tokens)) x.token kept in
    let is : item_at core.prod core.dot x.token ≡ x = ap (λ p. item_at p core.dot x.token) prod ∙ ap (λ k. item_at x.prod k x.token) dot in
    subst (Contains (items_of_core tokens core)) is made

-- so are the items of cores
pub cores_items : (tokens : ℕ) (cores : List CoreSet) (x : ItemOf) → Contains (items_of_cores tokens cores) x ↔ (IsAmong cores x × (x.token < tokens))
cores_items tokens cores x = (
  λ h.
      let one = joined_member (items_of_core tokens) cores x h in
      let parts = core_items tokens one.0 x one.2 in
      ((one.0, one.1, (parts.0, parts.1, parts.2)), parts.3),
  λ h.
      let core = h.0.0 in
      let of = h.0.2 in
      joined_has (items_of_core tokens) cores core x h.0.1 (items_core tokens core x of.0 of.1 of.2 h.1),
)

module _ (g : Grammar) (states : List StateOf) where
  -- the items of a state, one by one
  row_at : (s : ℕ) → s < length states → items_of (item_rows g states) s ≡ items_of_cores (tokens_len g) (state_at states s).cores
  row_at s below = get_or-map (λ (state : StateOf). items_of_cores (tokens_len g) state.cores) states s _ [] below

  -- the rows have the items of the states, if their lookaheads are tokens
  pub rows_same : ((s : ℕ) (x : ItemOf) → s < length states → sets_at states s x → x.token < tokens_len g)
      → (s : ℕ) → AreSame (sets_of (item_rows g states) s) (sets_at states s)
  rows_same tokens s x =
      elim (cases_lt s (length states)) as (λ _. sets_of (item_rows g states) s x ↔ sets_at states s x) [
        | inl below ↦ (
          λ h. ((cores_items (tokens_len g) (state_at states s).cores x).0 (subst (λ (xs : List ItemOf). Contains xs x) (row_at s below) h)).0,
          λ h. subst (λ (xs : List ItemOf). Contains xs x) (sym (row_at s below))
              ((cores_items (tokens_len g) (state_at states s).cores x).1 (h, tokens s x below h)),
        )
        | inr past ↦
            let long = length-map states (λ (state : StateOf). items_of_cores (tokens_len g) state.cores) in
            let none : items_of (item_rows g states) s ≡ [] = get_or_past (item_rows g states) s [] (omega (arith, past, long)) in
            let empty : state_at states s ≡ record { cores = []; gotos = []; shifts = [] } = get_or_past states s _ past in (
              λ h. absurd (member_none x (subst (λ (xs : List ItemOf). Contains xs x) none h)),
              λ h. let among : IsAmong [] x = subst (λ (state : StateOf). IsAmong state.cores x) empty h in absurd (member_none among.0 among.1),
            )
      ]

-- a graph with the items of other rows has their sets
pub graph_same : (graph rows : Graph) → ((s p k t : ℕ) → HasItem graph s p k t ↔ HasItem rows s p k t) → (s : ℕ) → AreSame (sets_of graph s) (sets_of rows s)
graph_same graph rows same s x = same s x.prod x.dot x.token
