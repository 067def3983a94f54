-- Tests of chains of reductions, which compute: whether a chain goes on by n reductions, and whether all chains are short.
use Rattle.std.proofs.Common.{◌≡◌, ◌≤◌, ◌∙◌, ◌↔◌, inl, inr, refl, sym, ap, subst, add-one, ℕ, zero, suc, Bool, true, false, cond, not, ◌&&◌, nat_eq, nat_lt, List, [], ◌∷◌, ◌++◌, length, Option, Some, None}
use Rattle.std.proofs.lemmas.Bool.{and_from, and_parts, both_ways, cases_lt, cond-true, cond-false, eq-eqb, eqb-true, le-ltb, lt-ltb, ltb-true, not-true}
use Rattle.lrpar_grammar.specs.Grammar.{Grammar, prods_len, prod_len, rule_of}
use Rattle.lrpar_table_stacks.specs.Chain.{HasReductions, AreChainsShort}
use Rattle.lrpar_table_stacks.specs.Reduction.{top_action, top_goto, left_by}
use Rattle.lrpar_table_rows.proofs.SafeTests.{all_below, all_below_at}
use Rattle.lrpar_table_rows.specs.Table.{Table, TableAction, ShiftTo, ReduceBy, Accepts, Fails, goto_of, states_len}

-- the goto is there, and with it pushed the rest holds
abbrev pub goes_on : (List ℕ → Bool) → List ℕ → Option ℕ → Bool
goes_on rest left None = false
goes_on rest left (Some s) = rest (left ++ s ∷ [])

-- the action is a reduction, after which the rest holds; or one that drops all, and `last` holds
abbrev pub reduces_on : Grammar → Table → List ℕ → (List ℕ → Bool) → Bool → TableAction → Bool
reduces_on g table st rest last (ShiftTo s) = false
reduces_on g table st rest last (ReduceBy p) =
    cond (nat_lt (prod_len g p) (length st))
    (nat_lt p (prods_len g) && goes_on rest (left_by g p st) (top_goto table (rule_of g p) (left_by g p st))) last
reduces_on g table st rest last Accepts = false
reduces_on g table st rest last Fails = false

-- from these states the chain goes on by at least n reductions
abbrev pub goes_on_by : Grammar → Table → ℕ → ℕ → List ℕ → Bool
goes_on_by g table t zero st = true
goes_on_by g table t (suc n) st = reduces_on g table st (λ next. goes_on_by g table t n next) (nat_eq n 0) (top_action table t st)

module _ (g : Grammar) (table : Table) (t : ℕ) where
  goes_on_from : (n : ℕ) (st : List ℕ) → HasReductions g table t st n → goes_on_by g table t n st ≡ true
  goes_on_from zero st h = refl
  goes_on_from (suc n) st h =
      let rest : List ℕ → Bool = λ next. goes_on_by g table t n next in
      let P : TableAction → Type 0 = λ action. reduces_on g table st rest (nat_eq n 0) action ≡ true in
      elim h as (λ _. goes_on_by g table t (suc n) st ≡ true) [
        | inl more ↦
            let reduces = more.2 in
            let left = left_by g more.0 st in
            let pushed : rest (left ++ reduces.state ∷ []) ≡ true = ap rest (sym reduces.pushed) ∙ goes_on_from n more.1 more.3 in
            let goto = ap (λ (o : Option ℕ). goes_on rest left o) reduces.goto ∙ pushed in
            subst P (sym reduces.action)
            (cond-true _ _ _ (lt-ltb _ _ reduces.deep) ∙ and_from _ _ (lt-ltb _ _ reduces.known) goto)
        | inr last ↦ subst P (sym last.0.1) (cond-false _ _ _ (le-ltb _ _ last.0.2) ∙ eq-eqb n 0 last.1)
      ]

  -- the goto that the test finds
  goto_found : (rest : List ℕ → Bool) (left : List ℕ) (o : Option ℕ) → goes_on rest left o ≡ true
      → (s : ℕ) × (o ≡ Some s) × (rest (left ++ s ∷ []) ≡ true)
  goto_found rest left None h = absurd (both_ways _ refl h)
  goto_found rest left (Some s) h = (s, refl, h)

  from_action : (n : ℕ) (st : List ℕ) → ((next : List ℕ) → goes_on_by g table t n next ≡ true → HasReductions g table t next n)
      → (action : TableAction) → top_action table t st ≡ action
      → reduces_on g table st (λ next. goes_on_by g table t n next) (nat_eq n 0) action ≡ true → HasReductions g table t st (suc n)
  from_action n st more (ShiftTo s) is h = absurd (both_ways _ refl h)
  from_action n st more (ReduceBy p) is h =
      elim (cases_lt (prod_len g p) (length st)) as (λ _. HasReductions g table t st (suc n)) [
        | inl deep ↦
            let parts = and_parts _ _ (sym (cond-true _ _ _ (lt-ltb _ _ deep)) ∙ h) in
            let goto = goto_found (λ next. goes_on_by g table t n next) (left_by g p st) (top_goto table (rule_of g p) (left_by g p st)) parts.1 in
            let next = left_by g p st ++ goto.0 ∷ [] in
            inl (
              p,
              next,
              record { action = is; known = ltb-true _ _ parts.0; deep = deep; state = goto.0; goto = goto.1; pushed = refl },
              more next goto.2,
            )
        | inr drops ↦ inr ((p, is, drops), eqb-true n 0 (sym (cond-false _ _ _ (le-ltb _ _ drops)) ∙ h))
      ]
  from_action n st more Accepts is h = absurd (both_ways _ refl h)
  from_action n st more Fails is h = absurd (both_ways _ refl h)

  from_goes_on : (n : ℕ) (st : List ℕ) → goes_on_by g table t n st ≡ true → HasReductions g table t st n
  from_goes_on zero st h = tt
  from_goes_on (suc n) st h = from_action n st (from_goes_on n) (top_action table t st) refl h

  -- the test decides whether a chain makes n reductions
  pub reductions_by_test : (n : ℕ) (st : List ℕ) → (goes_on_by g table t n st ≡ true) ↔ HasReductions g table t st n
  reductions_by_test n st = (from_goes_on n st, goes_on_from n st)

-- no chain that begins with s and the goto makes more than `cap` reductions
abbrev pub goto_is_short : Grammar → Table → ℕ → ℕ → ℕ → Option ℕ → Bool
goto_is_short g table cap s t None = true
goto_is_short g table cap s t (Some next) = not (goes_on_by g table t (suc cap) (s ∷ next ∷ []))

-- no chain of s makes more than `cap` reductions
abbrev pub chains_are_short : Grammar → Table → ℕ → ℕ → ℕ → Bool
chains_are_short g table cap s t =
    not (goes_on_by g table t (suc cap) (s ∷ [])) && all_below (λ r. goto_is_short g table cap s t (goto_of table s r)) table.rules

-- so all chains are short
pub short_by_test : (g : Grammar) (table : Table) (cap : ℕ) → ((s r : ℕ) → table.rules ≤ r → goto_of table s r ≡ None)
    → all_below (λ s. all_below (λ t. chains_are_short g table cap s t) table.tokens) (states_len table) ≡ true → AreChainsShort g table cap
short_by_test g table cap no_rule h s t state token long =
    let at_s = all_below_at (λ s. all_below (λ t. chains_are_short g table cap s t) table.tokens) (states_len table) h s state in
    let parts = and_parts _ _ (all_below_at (λ t. chains_are_short g table cap s t) table.tokens at_s t token) in
    let made : goes_on_by g table t (suc cap) long.0 ≡ true = goes_on_from g table t (suc cap) long.0 (rw add-one at long.2) in
    let P : List ℕ → Type 0 = λ st. goes_on_by g table t (suc cap) st ≡ true in
    elim long.1 as (λ _. ⊥) [
      | inl alone ↦ both_ways _ (not-true _ parts.0) (subst P alone made)
      | inr over ↦
          elim (cases_lt over.0 table.rules) as (λ _. ⊥) [
            | inl rule ↦
                let here = all_below_at (λ r. goto_is_short g table cap s t (goto_of table s r)) table.rules parts.1 over.0 rule in
                let short = subst (λ (o : Option ℕ). goto_is_short g table cap s t o ≡ true) over.2 here in
                both_ways _ (not-true _ short) (subst P over.3 made)
            | inr past ↦ let other : None ≡ Some over.1 = sym (no_rule s over.0 past) ∙ over.2 in absurd (cc)
          ]
    ]
