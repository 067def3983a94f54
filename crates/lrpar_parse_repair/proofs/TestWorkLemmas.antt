-- The reductions that the test of a sequence makes are bounded: each lookahead costs at most `cap` for each state that is lost,
-- and `cap * (cap + 3)` beside that.
use Rattle.std.proofs.Common.{◌≡◌, ◌<◌, ◌≤◌, ◌+◌, ◌*◌, ◌∙◌, inl, inr, ℕ, zero, suc, List, [], ◌∷◌, ◌++◌, length, sym, subst, ap, arith, length-append}
use Rattle.lrpar_grammar.specs.Grammar.{Grammar, end_token}
use Rattle.lrpar_table_rows.specs.Table.{Table}
use Rattle.lrpar_table_stacks.specs.Chain.{IsBounded}
use Rattle.lrpar_table_stacks.specs.Path.{NeverSticks}
use Rattle.lrpar_table_stacks.specs.Reduction.{Feeds, Settles}
use Rattle.lrpar_table_stacks.specs.Run.{token_at}
use Rattle.lrpar_parse_repair.specs.Sequences.{PlainStep, PlainInsert, PlainDelete, PlainShift, StepsTo}
use Rattle.lrpar_parse_repair.specs.TestWork.{BoundsTests, EndsBy, GoesOnBy, TestedBy}
use Rattle.lrpar_table_stacks.proofs.RunLemmas.{HasPath, feeds_path, settles_reduces}

-- the sums: a lookahead that is fed, and what comes after it
sum_fed : (cap m f r a b : ℕ) → f + cap * b ≤ cap * (a + cap + 3) → r ≤ cap * (b + (m + 1) * (cap + 3)) → f + r ≤ cap * (a + (m + 1 + 1) * (cap + 3))
sum_fed cap m f r a b here rest = omega (arith, here, rest)

-- a step without one
sum_free : (cap m r a : ℕ) → r ≤ cap * (a + (m + 1) * (cap + 3)) → r ≤ cap * (a + (m + 1 + 1) * (cap + 3))
sum_free cap m r a rest = omega (arith, rest)

-- the last one
sum_last : (cap m r a : ℕ) → r ≤ cap * a → r ≤ cap * (a + (m + 1) * (cap + 3))
sum_last cap m r a last = omega (arith, last)

module _ {X : Type 0} (token : X → ℕ) (g : Grammar) (table : Table) (cap : ℕ) (lexemes : List X) (never : NeverSticks g table) (bounded : IsBounded g table cap)
    (known : (j : ℕ) → token_at token g lexemes j < table.tokens) (last : end_token g < table.tokens) where
  -- all reductions at a token
  settled_few : (t : ℕ) (st prods settled : List ℕ) → t < table.tokens → HasPath table st → Settles g table t st prods settled → length prods ≤ cap * length st
  settled_few t st prods settled within path settles = (bounded path.0 st t prods settled path.1 within (settles_reduces g table t st prods settled settles)).0

  -- and the shift after them
  fed_few : (t : ℕ) (st prods next : List ℕ) → t < table.tokens → HasPath table st → Feeds g table t st prods next
      → length prods + cap * length next ≤ cap * (length st + cap + 3)
  fed_few t st prods next within path feeds =
      let most = (bounded path.0 st t prods feeds.settled path.1 within (settles_reduces g table t st prods feeds.settled feeds.settles)).1 in
      let higher : length next ≡ length feeds.settled + 1 = ap (λ (l : List ℕ). length l) feeds.pushed ∙ length-append feeds.settled (feeds.next ∷ []) in
      subst (λ (h : ℕ). length prods + cap * h ≤ cap * (length st + cap + 3)) (sym higher) (omega (arith, most))

  -- the reductions of one part and of what comes after it
  joined : (prods first rest : List ℕ) → prods ≡ first ++ rest → length prods ≡ length first + length rest
  joined prods first rest e = ap (λ (l : List ℕ). length l) e ∙ length-append first rest

  go_on_few : (k : ℕ) (st : List ℕ) (i : ℕ) (prods : List ℕ) → HasPath table st → GoesOnBy token g table lexemes k st i prods
      → length prods ≤ cap * (length st + (k + 1) * (cap + 3))
  go_on_few zero st i prods path e =
      let none : length prods ≡ 0 = ap (λ (l : List ℕ). length l) e in omega (arith, none)
  go_on_few (suc k) st i prods path h =
      let goal_at : ℕ → Type 0 = λ m. length prods ≤ cap * (length st + (m + 1) * (cap + 3)) in
      let one_more : suc k ≡ k + 1 = omega arith in
      subst goal_at (sym one_more)
      (elim h as (λ _. length prods ≤ cap * (length st + (k + 1 + 1) * (cap + 3))) [
        | inl fed ↦
            let here = fed_few (token_at token g lexemes i) st fed.0 fed.1 (known i) path fed.3 in
            let rest = go_on_few k fed.1 (i + 1) fed.2 (feeds_path g table (token_at token g lexemes i) st fed.0 fed.1 never path fed.3) fed.4 in
            let both = sum_fed cap k (length fed.0) (length fed.2) (length st) (length fed.1) here rest in
            let all = joined prods fed.0 fed.2 fed.5 in
            omega (arith, both, all)
        | inr ends ↦ sum_last cap (k + 1) (length prods) (length st) (settled_few (token_at token g lexemes i) st prods ends.0 (known i) path ends.1)
      ])

  -- a step that is taken: what it costs, and that a path is left
  step_few : (st : List ℕ) (i : ℕ) (step : PlainStep) (first next : List ℕ) (j m : ℕ) (rest : List ℕ) → HasPath table st
      → StepsTo token g table lexemes st i step first next j → length rest ≤ cap * (length next + (m + 1) * (cap + 3))
      → length first + length rest ≤ cap * (length st + (m + 1 + 1) * (cap + 3))
  step_few st i (PlainInsert t) first next j m rest path x after =
      sum_fed cap m (length first) (length rest) (length st) (length next) (fed_few t st first next (omega (arith, x.0, last)) path x.1) after
  step_few st i PlainDelete first next j m rest path x after =
      let none : length first ≡ 0 = ap (λ (l : List ℕ). length l) x.1 in
      let same : length next ≡ length st = ap (λ (l : List ℕ). length l) x.2 in
      let here : length rest ≤ cap * (length st + (m + 1) * (cap + 3)) = subst (λ (h : ℕ). length rest ≤ cap * (h + (m + 1) * (cap + 3))) same after in
      let free = sum_free cap m (length rest) (length st) here in
      omega (arith, none, free)
  step_few st i PlainShift first next j m rest path x after =
      sum_fed cap m (length first) (length rest) (length st) (length next) (fed_few (token_at token g lexemes i) st first next (known i) path x.1) after

  step_path : (st : List ℕ) (i : ℕ) (step : PlainStep) (first next : List ℕ) (j : ℕ) → HasPath table st
      → StepsTo token g table lexemes st i step first next j → HasPath table next
  step_path st i (PlainInsert t) first next j path x = feeds_path g table t st first next never path x.1
  step_path st i PlainDelete first next j path x = subst (λ (l : List ℕ). HasPath table l) (sym x.2) path
  step_path st i PlainShift first next j path x = feeds_path g table (token_at token g lexemes i) st first next never path x.1

  -- the step at which the test ends
  end_few : (st : List ℕ) (i : ℕ) (step : PlainStep) (prods : List ℕ) → HasPath table st → EndsBy token g table lexemes st i step prods
      → length prods ≤ cap * length st
  end_few st i (PlainInsert t) prods path h =
      elim h as (λ _. length prods ≤ cap * length st) [
        | inl e ↦ let none : length prods ≡ 0 = ap (λ (l : List ℕ). length l) e in omega (arith, none)
        | inr ends ↦ settled_few t st prods ends.0 (omega (arith, ends.1, last)) path ends.2
      ]
  end_few st i PlainDelete prods path e = let none : length prods ≡ 0 = ap (λ (l : List ℕ). length l) e in omega (arith, none)
  end_few st i PlainShift prods path h =
      elim h as (λ _. length prods ≤ cap * length st) [
        | inl e ↦ let none : length prods ≡ 0 = ap (λ (l : List ℕ). length l) e in omega (arith, none)
        | inr ends ↦ settled_few (token_at token g lexemes i) st prods ends.0 (known i) path ends.1
      ]

  tested_few : (k : ℕ) (st : List ℕ) (i : ℕ) (steps : List PlainStep) (prods : List ℕ) → HasPath table st → TestedBy token g table lexemes k st i steps prods
      → length prods ≤ cap * (length st + (length steps + k + 1) * (cap + 3))
  tested_few k st i [] prods path h =
      let none : k ≡ length {A = PlainStep} [] + k = omega arith in
      subst (λ (m : ℕ). length prods ≤ cap * (length st + (m + 1) * (cap + 3))) none (go_on_few k st i prods path h)
  tested_few k st i (step ∷ steps) prods path h =
      let goal_at : ℕ → Type 0 = λ m. length prods ≤ cap * (length st + (m + 1) * (cap + 3)) in
      let one_more : length (step ∷ steps) + k ≡ length steps + k + 1 = omega arith in
      subst goal_at (sym one_more)
      (elim h as (λ _. length prods ≤ cap * (length st + (length steps + k + 1 + 1) * (cap + 3))) [
        | inl taken ↦
            let rest = tested_few k taken.1 taken.3 steps taken.2 (step_path st i step taken.0 taken.1 taken.3 path taken.4) taken.5 in
            let both = step_few st i step taken.0 taken.1 taken.3 (length steps + k) taken.2 path taken.4 rest in
            let all = joined prods taken.0 taken.2 taken.6 in
            omega (arith, both, all)
        | inr ends ↦ sum_last cap (length steps + k + 1) (length prods) (length st) (end_few st i step prods path ends)
      ])

-- the bound of the test of a sequence
pub bounds_tests : {X : Type 0} → BoundsTests X
bounds_tests token g table cap lexemes symbols k st i steps prods never bounded known last path tested =
    tested_few token g table cap lexemes never bounded known last k st i steps prods (symbols, path) tested
