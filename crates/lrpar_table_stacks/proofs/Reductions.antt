-- Reductions are deterministic.
use Rattle.std.proofs.Common.{◌≡◌, ◌∙◌, sym, ap, ℕ, List, [], ◌∷◌, ◌++◌, Some}
use Rattle.lrpar_grammar.specs.Grammar.{Grammar, rule_of}
use Rattle.lrpar_table_rows.specs.Table.{Table, ReduceBy}
use Rattle.lrpar_table_stacks.specs.Reduction.{Reduces, SettlesOneWay, top_goto, left_by}

-- a reduction's production is that of the top's action
pub reduces_by_one : (g : Grammar) (table : Table) (t : ℕ) (st : List ℕ) (p q : ℕ) (a b : List ℕ)
    → Reduces g table t st p a → Reduces g table t st q b → p ≡ q
reduces_by_one g table t st p q a b x y = let e : ReduceBy p ≡ ReduceBy q = sym x.action ∙ y.action in cc

-- a reduction gives one stack
pub reduces_to_one : (g : Grammar) (table : Table) (t : ℕ) (st : List ℕ) (p q : ℕ) (a b : List ℕ)
    → Reduces g table t st p a → Reduces g table t st q b → a ≡ b
reduces_to_one g table t st p q a b x y =
    let same : p ≡ q = reduces_by_one g table t st p q a b x y in
    let goto : top_goto table (rule_of g q) (left_by g q st) ≡ Some x.state = rw same at x.goto in
    let state : x.state ≡ y.state = let e : Some x.state ≡ Some y.state = sym goto ∙ y.goto in cc in
    let pushed : a ≡ left_by g q st ++ x.state ∷ [] = rw same at x.pushed in
    pushed ∙ ap (λ (s : ℕ). left_by g q st ++ s ∷ []) state ∙ sym y.pushed

pub settles_one_way : SettlesOneWay
settles_one_way g table t st [] [] a b x y = (cc, sym x.0 ∙ y.0)
settles_one_way g table t st [] (q ∷ qs) a b x y = absurd (x.1 q y.1.action)
settles_one_way g table t st (p ∷ ps) [] a b x y = absurd (y.1 p x.1.action)
settles_one_way g table t st (p ∷ ps) (q ∷ qs) a b x y =
    let same : p ≡ q = reduces_by_one g table t st p q x.0 y.0 x.1 y.1 in
    let next : x.0 ≡ y.0 = reduces_to_one g table t st p q x.0 y.0 x.1 y.1 in
    let more = settles_one_way g table t y.0 ps qs a b (rw next at x.2) y.2 in
    (cc, more.1)
