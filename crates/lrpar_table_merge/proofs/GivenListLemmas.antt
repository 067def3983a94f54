-- Kernels, transitions and states that are read from lists, or appended to them.
use Rattle.std.proofs.Common.{Bor, ◌≡◌, ◌<◌, ◌≤◌, ◌+◌, ◌∙◌, refl, sym, ap, subst, inl, inr, arith, ℕ, IsTrue, List, [], ◌∷◌, ◌++◌, IfSome, MatchOption, None, Option, Some, get_or, length, map}
use Rattle.std.specs.List.{HoldsAt}
use Rattle.std.specs.Option.{unwrap_or}
use Rattle.std.proofs.lemmas.Bool.{cases_lt}
use Rattle.std.proofs.lemmas.List.{get_or-map, get_or_append_left, get_or_past, get_or_push, length-map}
use Rattle.lrpar_grammar.specs.Tokens.{has}
use Rattle.lrpar_table_rows.specs.Graph.{ItemOf, item_at}
use Rattle.lrpar_table_items.specs.Cores.{IsAmong, core_set}
use Rattle.lrpar_table_items.specs.States.{StateOf, state_at}
use Rattle.lrpar_table_items.specs.declared.cores.CoreItems.{CoreItems}
use Rattle.lrpar_table_items.proofs.FindLemmas.{mapped_at}
use Rattle.lrpar_table_merge.specs.Held.{TransitionsOf, transitions_at}
use Rattle.lrpar_table_merge.specs.MergedStates.{all_transitions, transitions_of}
use Rattle.lrpar_table_merge.specs.declared.held.Transitions.{Transitions}

-- a kernel whose first core has a lookahead has an item
pub first_item : {S : Type 0} (index : S → ℕ) (kernel : List (CoreItems S)) (d : CoreItems S) → 0 < length kernel
    → (t : ℕ) × IsTrue (has (get_or kernel 0 d).tokens t) → (x : ItemOf) × IsAmong (map (core_set index) kernel) x
first_item index kernel d low token =
    let own = core_set index (get_or kernel 0 d) in
    let count = length-map kernel (core_set index) in (
      item_at own.prod own.dot token.0,
      (own, (0, omega (arith, low, count), get_or-map (core_set index) kernel 0 d own low), (refl, refl, token.1)),
    )

abbrev transitions_with : List (Option ℕ) → List (Option ℕ) → TransitionsOf
transitions_with rules tokens = record { rules = rules; tokens = tokens }

-- the transitions of a state that were read, or none of them past the end of the list
pub read_transitions : (all : List Transitions) (n : ℕ) (found : Option (Bor Transitions)) (none : Bor Transitions) → none.now.rules.items ≡ []
    → none.now.tokens.items ≡ [] → IfSome found (λ x. x.now ≡ get_or all n x.now)
    → MatchOption found (length all ≤ n) (λ x. (n < length all) × HoldsAt (λ y. x.now ≡ y) all n)
    → transitions_of (unwrap_or found none).now ≡ transitions_at (all_transitions all) n
read_transitions all n None none rules tokens value place =
    let count = length-map all transitions_of in
    ap (λ row. transitions_with row none.now.tokens.items) rules ∙ ap (transitions_with []) tokens
    ∙ sym (get_or_past (all_transitions all) n _ (omega (arith, count, place)))
read_transitions all n (Some x) none rules tokens value place = sym (mapped_at transitions_of all n x.now _ place.0 value)

-- one more state of a list
pub states_more : (P : ℕ → StateOf → Type 0) (states : List StateOf) (state : StateOf) (n : ℕ) → length states ≡ n
    → ((s : ℕ) → s < n → P s (state_at states s)) → P n state → (s : ℕ) → s < n + 1 → P s (state_at (states ++ state ∷ []) s)
states_more P states state n len so_far last s low =
    elim (cases_lt s n) [
      | inl early ↦
          let below : s < length states = omega (arith, early, len) in
          subst (P s) (sym (get_or_append_left states (state ∷ []) _ s below)) (so_far s early)
      | inr late ↦
          let at : n ≡ s = omega (arith, low, late) in
          subst (P s) (sym (get_or_push states state _ s (len ∙ at))) (subst (λ m. P m state) at last)
    ]
