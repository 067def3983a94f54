-- Down a stack: if the top state has an item with k symbols before its dot, these are the top symbols of the stack, and the state below
-- them has the item with its dot at the start. By S4 a state has the core with the dot one symbol before, if the state above it has the
-- core; by S2 the bottom has no core with a symbol before the dot. So what comes after the production is the same on both stacks.
use Rattle.std.proofs.Common.{◌≡◌, ◌<◌, ◌+◌, ◌∙◌, inl, inr, refl, sym, ap, subst, arith, ℕ, zero, suc, List, [], ◌∷◌, ◌++◌, length, take, slice_get, get_or, Option, Some, None}
use Rattle.std.proofs.lemmas.List.{take_more}
use Rattle.std.proofs.lemmas.Option.{get_or_from_slice_get, slice_get-get_or, slice_get_within}
use Rattle.lrpar_grammar.specs.Grammar.{Grammar, GrammarSymbol, Nonterminal, Terminal, start_prod}
use Rattle.lrpar_table_rows.specs.Graph.{Graph, HasCore}
use Rattle.lrpar_table_rows.specs.Safe.{GoesBy, IsSafe}
use Rattle.lrpar_table_rows.specs.Table.{IsClosed, Table, states_len}
use Rattle.lrpar_table_rows.specs.declared.condition.SafetyCondition.TheVariants.{S2, S4, S8}
use Rattle.lrpar_table_rows.proofs.GraphLemmas.{state_in_range}
use Rattle.lrpar_table_stacks.specs.Stack.{AreJoined, IsJoined, IsStack, top_of}
use Rattle.lrpar_table_stacks.proofs.SettleLemmas.{stack_states}
use Rattle.lrpar_table_stacks.proofs.StepLemmas.{within_at}
use Rattle.lrpar_table_check.proofs.CompleteLemmas.{top_more}
use Rattle.lrpar_table_sentences.specs.AccessLens.{Goes, IsWalk, Starts}
use Rattle.lrpar_parse_completion.specs.Completing.{IsTail, AtStart, Moved}
use Rattle.lrpar_parse_completion.specs.Opening.{IsWalkedTo}

-- a state goes to the one above it by some symbol
goes_up : (table : Table) (s next : ℕ) → IsJoined table s next → (x : GrammarSymbol) × GoesBy table s x next
goes_up table s next joined =
    elim joined as (λ _. (x : GrammarSymbol) × GoesBy table s x next) [ inl h ↦ (Terminal h.0, h.2) | inr h ↦ (Nonterminal h.0, h.2) ]

joined_at : (table : Table) (s : ℕ) (st : List ℕ) → AreJoined table s st → (i a b : ℕ) → slice_get (s ∷ st) i ≡ Some a
    → slice_get (s ∷ st) (suc i) ≡ Some b → (x : GrammarSymbol) × GoesBy table a x b
joined_at table s [] joined zero a b low high = let no : ◌≡◌ {A = Option ℕ} None (Some b) = high in absurd (cc)
joined_at table s [] joined (suc i) a b low high = let no : ◌≡◌ {A = Option ℕ} None (Some b) = high in absurd (cc)
joined_at table s (n ∷ st) joined zero a b low high =
    let first : s ≡ a = let e : ◌≡◌ {A = Option ℕ} (Some s) (Some a) = low in cc in
    let second : n ≡ b = let e : ◌≡◌ {A = Option ℕ} (Some n) (Some b) = high in cc in
    let goes = goes_up table s n joined.0 in
    (goes.0, subst (λ (m : ℕ). GoesBy table m goes.0 b) first (subst (λ (m : ℕ). GoesBy table s goes.0 m) second goes.1))
joined_at table s (n ∷ st) joined (suc i) a b low high = joined_at table n st joined.1 i a b low high

stack_joined : (table : Table) (st : List ℕ) → IsStack table st → (i a b : ℕ) → slice_get st i ≡ Some a → slice_get st (suc i) ≡ Some b
    → (x : GrammarSymbol) × GoesBy table a x b
stack_joined table [] stack i a b low high = absurd stack
stack_joined table (s ∷ st) stack i a b low high = joined_at table s st stack.1 i a b low high

-- the bottom is the start state
bottom_is_start : (table : Table) (st : List ℕ) → IsStack table st → (s : ℕ) → slice_get st 0 ≡ Some s → s ≡ table.start
bottom_is_start table [] stack s at = absurd stack
bottom_is_start table (n ∷ st) stack s at = let same : n ≡ s = let e : ◌≡◌ {A = Option ℕ} (Some n) (Some s) = at in cc in sym same ∙ stack.0

bottom_alone : (table : Table) (st : List ℕ) → IsStack table st → take (0 + 1) st ≡ table.start ∷ []
bottom_alone table [] stack = absurd stack
bottom_alone table (n ∷ st) stack = ap (λ (m : ℕ). m ∷ []) stack.0

-- the states up to one of them
pub take_to : (st : List ℕ) (i s : ℕ) → slice_get st i ≡ Some s → take (i + 1) st ≡ take i st ++ s ∷ []
take_to st i s at =
    take_more st i s (slice_get_within st i s at) ∙ ap (λ (n : ℕ). take i st ++ n ∷ []) (get_or_from_slice_get st i s s at)

pub top_to : (st : List ℕ) (i s : ℕ) → slice_get st i ≡ Some s → top_of (take (i + 1) st) ≡ Some s
top_to st i s at = ap top_of (take_to st i s at) ∙ top_more (take i st) s

module _ (g : Grammar) (graph : Graph) (table : Table) (closed : IsClosed table) (safe : IsSafe g graph table) (st : List ℕ) (stack : IsStack table st) where
  -- below the state with number i of the stack
  pub record Down (i p k : ℕ) : Type 0 where
    pub place : ℕ
    pub below : place + k ≡ i
    pub base : ℕ
    pub at : slice_get st place ≡ Some base
    pub core : HasCore graph base p 0
    pub lift : (tail : List ℕ) → IsTail g table (take (place + 1) st) p 0 tail → IsTail g table (take (i + 1) st) p k tail

  -- the table goes from its start to each state of the stack
  pub walked_to : (i s : ℕ) → slice_get st i ≡ Some s → IsWalkedTo table s
  walked_to zero s at = ([], subst (λ (n : ℕ). IsWalk table n []) (sym (bottom_is_start table st stack s at)) Starts)
  walked_to (suc j) s at =
      let low = get_or st j 0 in
      let inside : j < length st = omega (arith, slice_get_within st (suc j) s at) in
      let here : slice_get st j ≡ Some low = slice_get-get_or st j 0 inside in
      let goes = stack_joined table st stack j low s here at in
      let before = walked_to j low here in
      (goes.0 ∷ before.0, Goes low s goes.0 before.0 before.1 (within_at (states_len table) st j low (stack_states table closed st stack) here) goes.1)

  within : (s p k : ℕ) → HasCore graph s p k → s < states_len table
  within s p k core = let low = state_in_range graph s p k core.0 core.1 in omega (arith, low, safe.shape.states)

  -- a state of the stack is one of the table
  pub low_in : (j low : ℕ) → slice_get st j ≡ Some low → low < states_len table
  low_in j low here = within_at (states_len table) st j low (stack_states table closed st stack) here

  pub down : (k i p s : ℕ) → slice_get st i ≡ Some s → HasCore graph s p k → Down i p k
  down zero i p s at core = record { place = i; below = omega arith; base = s; at = at; core = core; lift = λ tail h. h }
  down (suc k) zero p s at core =
      let fresh = safe.each S2 s (within s p (suc k) core) (bottom_is_start table st stack s at) p (suc k) core in absurd (omega (arith, fresh))
  down (suc k) (suc j) p s at core =
      let low = get_or st j 0 in
      let inside : j < length st = omega (arith, slice_get_within st (suc j) s at) in
      let here : slice_get st j ≡ Some low = slice_get-get_or st j 0 inside in
      let goes = stack_joined table st stack j low s here at in
      let one : suc k ≡ k + 1 = omega arith in
      let low_within = low_in j low here in
      let from = safe.each S4 low low_within goes.0 s goes.1 p k (subst (λ (n : ℕ). HasCore graph s p n) one core) in
      let more = down k j p low here from.1 in
      let next : suc j ≡ j + 1 = omega arith in
      let all : take (suc j + 1) st ≡ take (j + 1) st ++ s ∷ [] =
      subst (λ (n : ℕ). take (suc j + 1) st ≡ take n st ++ s ∷ []) next (take_to st (suc j) s at) in
      record {
        place = more.place;
        below = let under = more.below in omega (arith, under);
        base = more.base;
        at = more.at;
        core = more.core;
        lift = λ tail h.
            let moved = Moved (take (j + 1) st) low s p k goes.0 tail (top_to st j low here) from.0 goes.1 (more.lift tail h) in
            subst (λ (l : List ℕ). IsTail g table l p (suc k) tail) (sym all)
            (subst (λ (n : ℕ). IsTail g table (take (j + 1) st ++ s ∷ []) p n tail) (sym one) moved);
      }

  -- an item of the start production is at the bottom
  pub start_tail : (i k s : ℕ) → slice_get st i ≡ Some s → HasCore graph s (start_prod g) k → IsTail g table (take (i + 1) st) (start_prod g) k []
  start_tail i k s at core = ends (down k i (start_prod g) s at core)
    where
      at_bottom : (n base : ℕ) → slice_get st n ≡ Some base → base ≡ table.start → n ≡ 0
      at_bottom zero base at is = refl
      at_bottom (suc n) base at is =
          let low = get_or st n 0 in
          let inside : n < length st = omega (arith, slice_get_within st (suc n) base at) in
          let here : slice_get st n ≡ Some low = slice_get-get_or st n 0 inside in
          let goes = stack_joined table st stack n low base here at in
          absurd ((safe.each S8 low (low_in n low here)).never_back goes.0 (subst (λ (m : ℕ). GoesBy table low goes.0 m) is goes.1))

      ends : Down i (start_prod g) k → IsTail g table (take (i + 1) st) (start_prod g) k []
      ends d =
          let first = (safe.each S8 d.base (within d.base (start_prod g) 0 d.core)).first_core d.core in
          let bottom : d.place ≡ 0 = at_bottom d.place d.base d.at first in
          d.lift [] (subst (λ (n : ℕ). IsTail g table (take (n + 1) st) (start_prod g) 0 []) (sym bottom)
          (subst (λ (l : List ℕ). IsTail g table l (start_prod g) 0 []) (sym (bottom_alone table st stack)) AtStart))
