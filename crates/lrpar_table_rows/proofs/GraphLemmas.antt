-- What state graphs have, computed by tests of lists of items, and by what holds of each item.
use Rattle.std.proofs.Common.{◌≡◌, ◌<◌, ◌↔◌, ℕ, zero, suc, Bool, IsTrue, false, true, ◌&&◌, nat_eq, List, [], length, map, All, slice_index_or, subst, refl, ap, arith, inl, inr}
use Rattle.std.proofs.lemmas.Bool.{and_from, and_parts, cases_lt, eq-eqb, eqb-true, false≢true}
use Rattle.std.proofs.lemmas.List.{get_or_past}
use Rattle.std.proofs.lemmas.List.Elements.{All-contains, All-contains_itself}
use Rattle.std.proofs.lemmas.List.Folds.{Any-from_list_any, list_any-from_Any}
use Rattle.std.specs.List.{Contains, list_any}
use Rattle.lrpar_grammar_places.specs.declared.span.PIdx.{PIdx}
use Rattle.lrpar_grammar_places.specs.declared.span.TIdx.{TIdx}
use Rattle.lrpar_table_rows.specs.Graph.{AreWithCore, Graph, HasCore, HasItem, ItemOf, graph_len, item_at, items_of}
use Rattle.lrpar_table_rows.specs.PlainItems.{core_of, item_of}
use Rattle.lrpar_table_rows.proofs.ItemLemmas.{Contains-image, Contains-preimage}

-- a state with an item is one of the graph
pub state_in_range : (graph : Graph) (s p k t : ℕ) → HasItem graph s p k t → s < graph_len graph
state_in_range graph s p k t h =
    elim (cases_lt s (graph_len graph)) as (λ _. s < graph_len graph) [
      | inl below ↦ below
      | inr past ↦ let none = ap (λ (xs : List ItemOf). length xs) (get_or_past graph s [] past) in absurd (omega (arith, h.1, none))
    ]

-- if there are no items, there are no cores
pub no_core_there : (p k : ℕ) → IsTrue false ↔ AreWithCore [] p k
no_core_there p k = (λ h. absurd (false≢true h), λ core. absurd (omega (arith, core.1.1)))

-- the test of an item's three numbers
abbrev pub is_item : ℕ → ℕ → ℕ → ItemOf → Bool
is_item p k t x = nat_eq x.prod p && (nat_eq x.dot k && nat_eq x.token t)

-- the test of the two numbers of its core
abbrev pub is_with_core : ℕ → ℕ → ItemOf → Bool
is_with_core p k x = nat_eq x.prod p && nat_eq x.dot k

-- an item that passes the test has these numbers
item_from_test : (p k t : ℕ) (x : ItemOf) → is_item p k t x ≡ true → x ≡ item_at p k t
item_from_test p k t x h =
    let first = and_parts _ _ h in
    let rest = and_parts _ _ first.1 in
    let prod : x.prod ≡ p = eqb-true _ _ first.0 in
    let dot : x.dot ≡ k = eqb-true _ _ rest.0 in
    let token : x.token ≡ t = eqb-true _ _ rest.1 in
    let is : item_at x.prod x.dot x.token ≡ item_at p k t = cc in is

-- an item that passes the test of the core has it
core_from_test : (p k : ℕ) (x : ItemOf) → is_with_core p k x ≡ true → x ≡ item_at p k x.token
core_from_test p k x h =
    let parts = and_parts _ _ h in
    let prod : x.prod ≡ p = eqb-true _ _ parts.0 in
    let dot : x.dot ≡ k = eqb-true _ _ parts.1 in
    let is : item_at x.prod x.dot x.token ≡ item_at p k x.token = cc in is

-- items have an item exactly if one of them passes the test
pub item_by_test : (items : List ItemOf) (p k t : ℕ) → (list_any (is_item p k t) items ≡ true) ↔ Contains items (item_at p k t)
item_by_test items p k t = (
  λ h.
      let found = Any-from_list_any (is_item p k t) items h in
      subst (Contains items) (item_from_test p k t found.1 found.4) (found.0, found.2, found.3),
  λ h.
      let passes = and_from _ _ (eq-eqb p p refl) (and_from _ _ (eq-eqb k k refl) (eq-eqb t t refl)) in
      list_any-from_Any (is_item p k t) items (h.0, item_at p k t, h.1, h.2, passes),
)

-- items have a core exactly if one of them passes its test
pub core_by_test : (items : List ItemOf) (p k : ℕ) → (list_any (is_with_core p k) items ≡ true) ↔ AreWithCore items p k
core_by_test items p k = (
  λ h.
      let found = Any-from_list_any (is_with_core p k) items h in
      (found.1.token, subst (Contains items) (core_from_test p k found.1 found.4) (found.0, found.2, found.3)),
  λ h.
      let passes = and_from _ _ (eq-eqb p p refl) (eq-eqb k k refl) in
      list_any-from_Any (is_with_core p k) items (h.1.0, item_at p k h.0, h.1.1, h.1.2, passes),
)

-- something holds of each item that `items` returns exactly if it holds of each item of the state
pub all_items : {S : Type 0} (index : S → ℕ) (P : ℕ → ℕ → ℕ → Type 0) (graph : Graph) (s : ℕ) (items : List (PIdx S × ℕ × TIdx S))
    → map (item_of index) items ≡ items_of graph s
    → All (λ x. P (index x.0.0) x.1 (index x.2.0)) items ↔ ((p k t : ℕ) → HasItem graph s p k t → P p k t)
all_items {S} index P graph s items is = (
  λ all p k t h.
      let x = Contains-preimage (item_of index) items (item_at p k t) (rw is h) in
      let holds = All-contains (λ (y : PIdx S × ℕ × TIdx S). P (index y.0.0) y.1 (index y.2.0)) items x.0 all x.1 in
      subst (λ (i : ItemOf). P i.prod i.dot i.token) x.2 holds,
  λ each i d below.
      let x = slice_index_or items i d in
      let has : Contains (items_of graph s) (item_of index x) = rw is at (Contains-image (item_of index) items x (All-contains_itself items i d below)) in
      each (index x.0.0) x.1 (index x.2.0) has,
)

-- something holds of each core that `cores` returns exactly if it holds of each core of the state
pub all_cores : {S : Type 0} (index : S → ℕ) (P : ℕ → ℕ → Type 0) (graph : Graph) (s : ℕ) (cores : List (PIdx S × ℕ))
    → ((p k : ℕ) → HasCore graph s p k ↔ Contains (map (core_of index) cores) (p, k))
    → All (λ c. P (index c.0.0) c.1) cores ↔ ((p k : ℕ) → HasCore graph s p k → P p k)
all_cores {S} index P graph s cores is = (
  λ all p k h.
      let c = Contains-preimage (core_of index) cores (p, k) ((is p k).0 h) in
      let holds = All-contains (λ (y : PIdx S × ℕ). P (index y.0.0) y.1) cores c.0 all c.1 in
      subst (λ (i : ℕ × ℕ). P i.0 i.1) c.2 holds,
  λ each i d below.
      let c = slice_index_or cores i d in
      each (index c.0.0) c.1 ((is (index c.0.0) c.1).1 (Contains-image (core_of index) cores c (All-contains_itself cores i d below))),
)

-- what holds of each core that `begun_cores` returns, and of each core with the dot at the start, holds of each core of the state
begun_holds : {S : Type 0} (index : S → ℕ) (P : ℕ → ℕ → Type 0) (graph : Graph) (s : ℕ) (cores : List (PIdx S × ℕ))
    → ((p k : ℕ) → (HasCore graph s p k × (0 < k)) ↔ Contains (map (core_of index) cores) (p, k)) → ((p : ℕ) → P p 0)
    → All (λ c. P (index c.0.0) c.1) cores → (p k : ℕ) → HasCore graph s p k → P p k
begun_holds index P graph s cores is front all p zero h = front p
begun_holds {S} index P graph s cores is front all p (suc k) h =
    let c = Contains-preimage (core_of index) cores (p, suc k) ((is p (suc k)).0 (h, omega arith)) in
    let holds = All-contains (λ (y : PIdx S × ℕ). P (index y.0.0) y.1) cores c.0 all c.1 in
    subst (λ (i : ℕ × ℕ). P i.0 i.1) c.2 holds

pub all_begun : {S : Type 0} (index : S → ℕ) (P : ℕ → ℕ → Type 0) (graph : Graph) (s : ℕ) (cores : List (PIdx S × ℕ))
    → ((p k : ℕ) → (HasCore graph s p k × (0 < k)) ↔ Contains (map (core_of index) cores) (p, k)) → ((p : ℕ) → P p 0)
    → All (λ c. P (index c.0.0) c.1) cores ↔ ((p k : ℕ) → HasCore graph s p k → P p k)
all_begun {S} index P graph s cores is front = (
  begun_holds index P graph s cores is front,
  λ each i d below.
      let c = slice_index_or cores i d in
      each (index c.0.0) c.1 ((is (index c.0.0) c.1).1 (Contains-image (core_of index) cores c (All-contains_itself cores i d below))).0,
)
