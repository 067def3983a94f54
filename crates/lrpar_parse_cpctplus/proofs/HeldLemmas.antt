-- Configurations by the numbers of their stacks: they stay what they are as stacks are added; and one that is numbered is numbered as a
-- configuration, too, since no two numbers have the same stack.
use Rattle.std.proofs.Common.{◌≡◌, ◌≢◌, ◌<◌, ◌∙◌, ◌&&◌, eqb, inl, inr, ℕ, zero, suc, List, [], ◌∷◌, ◌++◌, if◌then◌else◌, Bool, true, false, true≢false, Some, length, slice_get, refl, sym, subst, ap, ap₂}
use Rattle.std.specs.Cmp.Derive.{both_true}
use Rattle.std.specs.List.{list_any}
use Rattle.std.proofs.lemmas.Bool.{eq-eqb, eqb-true}
use Rattle.std.proofs.lemmas.List.{length-map, map-append}
use Rattle.std.proofs.lemmas.Map.Keys.{any_passes_from_place}
use Rattle.std.proofs.lemmas.Option.{none-some, same_Some}
use Rattle.indexmap.specs.IndexSet.{insert_key}
use Rattle.lrpar_table_rows.specs.Table.{Table}
use Rattle.lrpar_table_shared_stacks.specs.SharedStacks.{AreApart, Extends, Shared}
use Rattle.lrpar_table_stacks.specs.Stack.{IsStack}
use Rattle.lrpar_table_shared_stacks.proofs.SharedStacksLemmas.{extends_keeps}
use Rattle.lrpar_parse_cpctplus.specs.Configurations.{Configured}
use Rattle.lrpar_parse_cpctplus.specs.GraphView.{AreHeld, IsHeld, IsNumbered, configured_at, nodes_in}
use Rattle.lrpar_parse_cpctplus.specs.declared.graph.Configuration.{Configuration}
use Rattle.lrpar_parse_cpctplus.proofs.NumberLemmas.{push_cases}

-- the derived comparison of configurations is equality
abbrev pub configuration_eq : Configuration → Configuration → Bool
configuration_eq x y = eqb x.stack y.stack && eqb x.place y.place

abbrev configuration_with : ℕ → ℕ → Configuration
configuration_with stack place = record { stack = stack; place = place }

same_configuration : (x y : Configuration) → x.stack ≡ y.stack → x.place ≡ y.place → x ≡ y
same_configuration x y stack place = ap₂ configuration_with stack place

and_parts : (a b : Bool) → (a && b) ≡ true → (a ≡ true) × (b ≡ true)
and_parts true b both = (refl, both)
and_parts false b both = absurd (true≢false (sym both))

eq_configuration : (x y : Configuration) → configuration_eq x y ≡ true → x ≡ y
eq_configuration x y equal =
    let parts = and_parts (eqb x.stack y.stack) (eqb x.place y.place) equal in
    same_configuration x y (eqb-true x.stack y.stack parts.0) (eqb-true x.place y.place parts.1)

configuration_alike : (x : Configuration) → configuration_eq x x ≡ true
configuration_alike x = both_true (eq-eqb x.stack x.stack refl) (eq-eqb x.place x.place refl)

none_passes : (keys : List Configuration) (key : Configuration) → list_any (configuration_eq key) keys ≡ false → (i : ℕ) → slice_get keys i ≢ Some key
none_passes keys key none i at = true≢false (sym (any_passes_from_place (configuration_eq key) keys i key at (configuration_alike key)) ∙ none)

-- what an insertion leaves
pub numbered_by : (old new : List Configuration) (key : Configuration) (to : ℕ) → new ≡ insert_key configuration_eq old key
    → (k : Configuration) × (slice_get new to ≡ Some k) × (configuration_eq key k ≡ true) → IsNumbered old key to new
numbered_by old new key to is stored = by (list_any (configuration_eq key) old) refl
  where
    there : slice_get new to ≡ Some key
    there = stored.1 ∙ ap (λ (k : Configuration). Some k) (sym (eq_configuration key stored.0 stored.2))

    by : (b : Bool) → list_any (configuration_eq key) old ≡ b → IsNumbered old key to new
    by true e =
        let same : new ≡ old = is ∙ ap (λ (b : Bool). if b then old else old ++ key ∷ []) e in
        inl (subst (λ (l : List Configuration). slice_get l to ≡ Some key) same there, same)
    by false e =
        let more : new ≡ old ++ key ∷ [] = is ∙ ap (λ (b : Bool). if b then old else old ++ key ∷ []) e in
        let none = none_passes old key e in
        let place = elim (push_cases old key key to (subst (λ (l : List Configuration). slice_get l to ≡ Some key) more there)) as (λ _. to ≡ length old) [
          | inl h ↦ absurd (none to h)
          | inr h ↦ h.0
        ] in
        inr (place, none, more)

-- a configuration with its stack
abbrev configured_with : List ℕ → ℕ → Configured
configured_with stack place = record { stack = stack; place = place }

pub at_node : (stacks : List (List ℕ)) (keys : List Configuration) (i : ℕ) (key : Configuration) → slice_get keys i ≡ Some key
    → slice_get (nodes_in stacks keys) i ≡ Some (configured_at stacks key)
at_node stacks [] i key at = absurd (none-some key at)
at_node stacks (k ∷ ks) zero key at = ap (λ (x : Configuration). Some (configured_at stacks x)) (same_Some k key at)
at_node stacks (k ∷ ks) (suc i) key at = at_node stacks ks i key at

pub at_key : (stacks : List (List ℕ)) (keys : List Configuration) (i : ℕ) (v : Configured) → slice_get (nodes_in stacks keys) i ≡ Some v
    → (key : Configuration) × (slice_get keys i ≡ Some key) × (configured_at stacks key ≡ v)
at_key stacks [] i v at = absurd (none-some v at)
at_key stacks (k ∷ ks) zero v at = (k, refl, same_Some (configured_at stacks k) v at)
at_key stacks (k ∷ ks) (suc i) v at = at_key stacks ks i v at

pub nodes_len : (stacks : List (List ℕ)) (keys : List Configuration) → length (nodes_in stacks keys) ≡ length keys
nodes_len stacks keys = length-map keys (configured_at stacks)

module _ (table : Table) (end : ℕ) where
  -- as stacks are added
  module _ (old new : Shared) (extends : Extends old new) where
    pub configured_stays : (key : Configuration) → key.stack < length old.stacks → configured_at new.stacks key ≡ configured_at old.stacks key
    configured_stays key within = ap (λ (st : List ℕ). configured_with st key.place) (extends_keeps old new extends key.stack within).1

    pub held_stays : (key : Configuration) → IsHeld table end old.stacks key → IsHeld table end new.stacks key
    held_stays key held =
        let keeps = extends_keeps old new extends key.stack held.within in
        record { within = keeps.0; stack = subst (IsStack table) (sym keeps.1) held.stack; place = held.place }

    pub all_held_stay : (keys : List Configuration) → AreHeld table end old.stacks keys → AreHeld table end new.stacks keys
    all_held_stay keys held i key at = held_stays key (held i key at)

    pub nodes_stay : (keys : List Configuration) → AreHeld table end old.stacks keys → nodes_in new.stacks keys ≡ nodes_in old.stacks keys
    nodes_stay [] held = refl
    nodes_stay (k ∷ ks) held =
        ap₂ (λ (v : Configured) (vs : List Configured). v ∷ vs) (configured_stays k (held zero k refl).within)
        (nodes_stay ks (λ i key at. held (suc i) key at))

  -- one that is numbered
  pub held_numbered : (stacks : List (List ℕ)) (keys new : List Configuration) (key : Configuration) (to : ℕ) → AreHeld table end stacks keys
      → IsHeld table end stacks key → IsNumbered keys key to new → AreHeld table end stacks new
  held_numbered stacks keys new key to held one numbered i k at =
      elim numbered as (λ _. IsHeld table end stacks k) [
        | inl old ↦ held i k (subst (λ (l : List Configuration). slice_get l i ≡ Some k) old.1 at)
        | inr fresh ↦
            elim (push_cases keys key k i (subst (λ (l : List Configuration). slice_get l i ≡ Some k) fresh.2 at)) as (λ _. IsHeld table end stacks k) [
              | inl a ↦ held i k a
              | inr b ↦ subst (IsHeld table end stacks) b.1 one
            ]
      ]

  pub nodes_numbered : (stacks : List (List ℕ)) (keys new : List Configuration) (key : Configuration) (to : ℕ) → AreApart stacks → AreHeld table end stacks keys
      → IsHeld table end stacks key → IsNumbered keys key to new → IsNumbered (nodes_in stacks keys) (configured_at stacks key) to (nodes_in stacks new)
  nodes_numbered stacks keys new key to apart held one numbered =
      elim numbered as (λ _. IsNumbered (nodes_in stacks keys) (configured_at stacks key) to (nodes_in stacks new)) [
        | inl old ↦ inl (at_node stacks keys to key old.0, ap (λ (l : List Configuration). nodes_in stacks l) old.1)
        | inr fresh ↦ inr (
          fresh.0 ∙ sym (nodes_len stacks keys),
          λ i at.
              let there = at_key stacks keys i (configured_at stacks key) at in
              let stack = ap (λ (v : Configured). v.stack) there.2 in
              let place = ap (λ (v : Configured). v.place) there.2 in
              let number = apart there.0.stack key.stack (held i there.0 there.1).within one.within stack in
              fresh.1 i (there.1 ∙ ap (λ (k : Configuration). Some k) (same_configuration there.0 key number place)),
          ap (λ (l : List Configuration). nodes_in stacks l) fresh.2 ∙ map-append (configured_at stacks) keys (key ∷ []),
        )
      ]
