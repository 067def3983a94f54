-- Sequences without the Shifts at their ends; and what can't be done at a stack whose top has no action.
use Rattle.std.proofs.Common.{◌≡◌, ◌<◌, ◌∙◌, inl, inr, ℕ, zero, suc, List, [], ◌∷◌, ◌++◌, refl, sym, subst, ap, arith, replicate}
use Rattle.std.proofs.lemmas.List.{same_from_push}
use Rattle.lrpar_grammar.specs.Grammar.{Grammar, end_token}
use Rattle.lrpar_table_rows.specs.Table.{Table, Accepts, Fails, ReduceBy, ShiftTo}
use Rattle.lrpar_table_stacks.specs.Reduction.{Feeds, Settles, top_action}
use Rattle.lrpar_table_stacks.specs.Run.{token_at}
use Rattle.lrpar_table_stacks.proofs.RunLemmas.{token_at_end}
use Rattle.lrpar_parse_repair.specs.Sequences.{PlainStep, PlainInsert, PlainDelete, PlainShift, CanGoOn}
use Rattle.lrpar_parse_cpctplus.specs.Forms.{EndsIn}
use Rattle.lrpar_parse_cpctplus.proofs.FormLemmas.{ends_in_one, last_view, push_some}

-- a sequence without the Shifts at its end
pub record Stripped (steps : List PlainStep) : Type 0 where
  pub rest : List PlainStep
  pub count : ℕ
  pub is : steps ≡ rest ++ replicate count PlainShift
  pub last : ¬ (EndsIn rest (PlainShift ∷ []))

strip_none : (x : PlainStep) (xs : List PlainStep) (n : ℕ) → xs ≡ replicate n PlainShift → Stripped (x ∷ xs)
strip_none (PlainInsert t) xs n e = record {
  rest = PlainInsert t ∷ [];
  count = n;
  is = ap (λ (l : List PlainStep). PlainInsert t ∷ l) e;
  last = λ ends. let same : PlainInsert t ≡ PlainShift = ends_in_one [] (PlainInsert t) PlainShift ends in cc;
}
strip_none PlainDelete xs n e = record {
  rest = PlainDelete ∷ [];
  count = n;
  is = ap (λ (l : List PlainStep). PlainDelete ∷ l) e;
  last = λ ends. let same : PlainDelete ≡ PlainShift = ends_in_one [] PlainDelete PlainShift ends in cc;
}
strip_none PlainShift xs n e = record {
  rest = [];
  count = suc n;
  is = ap (λ (l : List PlainStep). PlainShift ∷ l) e;
  last = λ ends. push_some ends.0 PlainShift [] ends.1;
}

pub strip : (steps : List PlainStep) → Stripped steps
strip [] = record { rest = []; count = 0; is = refl; last = λ ends. push_some ends.0 PlainShift [] ends.1 }
strip (x ∷ xs) =
    let more = strip xs in
    elim (last_view more.rest) as (λ _. Stripped (x ∷ xs)) [
      | inl none ↦ strip_none x xs more.count (more.is ∙ ap (λ (l : List PlainStep). l ++ replicate more.count PlainShift) none)
      | inr v ↦ record {
        rest = x ∷ more.rest;
        count = more.count;
        is = ap (λ (l : List PlainStep). x ∷ l) more.is;
        last = λ ends.
            let whole : (x ∷ v.0) ++ v.1 ∷ [] ≡ ends.0 ++ PlainShift ∷ [] = ap (λ (l : List PlainStep). x ∷ l) (sym v.2) ∙ ends.1 in
            let same = (same_from_push (x ∷ v.0) ends.0 v.1 PlainShift whole).1 in
            more.last (v.0, v.2 ∙ ap (λ (y : PlainStep). v.0 ++ y ∷ []) same);
      }
    ]

-- on a stack whose top has no action there is nothing to settle
fails_settles : (g : Grammar) (table : Table) (t : ℕ) (st prods settled : List ℕ) → top_action table t st ≡ Fails → Settles g table t st prods settled
    → top_action table t settled ≡ Fails
fails_settles g table t st [] settled fails h = subst (λ (l : List ℕ). top_action table t l ≡ Fails) h.0 fails
fails_settles g table t st (p ∷ prods) settled fails h = let e : ReduceBy p ≡ Fails = sym h.1.action ∙ fails in cc

-- nor can the token be fed
pub nothing_fed : (g : Grammar) (table : Table) (t : ℕ) (st prods next : List ℕ) → top_action table t st ≡ Fails → ¬ (Feeds g table t st prods next)
nothing_fed g table t st prods next fails feeds =
    let none = fails_settles g table t st prods feeds.settled fails feeds.settles in
    let e : ShiftTo feeds.next ≡ Fails = sym feeds.shifts ∙ none in cc

-- and a parse can't go on there
pub nothing_goes_on : {X : Type 0} (token : X → ℕ) (g : Grammar) (table : Table) (lexemes : List X) (k : ℕ) (st : List ℕ) (i : ℕ) → 0 < k
    → top_action table (token_at token g lexemes i) st ≡ Fails → ¬ (CanGoOn token g table lexemes k st i)
nothing_goes_on token g table lexemes zero st i some fails h = absurd (omega (arith, some))
nothing_goes_on token g table lexemes (suc k) st i some fails h =
    elim h as (λ _. ⊥) [
      | inl fed ↦
          let feeds = fed.1.2 in
          let none = fails_settles g table (token_at token g lexemes i) st fed.1.0 feeds.settled fails feeds.settles in
          let e : ShiftTo feeds.next ≡ Fails = sym feeds.shifts ∙ none in cc
      | inr ends ↦
          let accepts = ends.1 in
          let at_end : token_at token g lexemes i ≡ end_token g = token_at_end token g lexemes i (omega (arith, ends.0)) in
          let here = subst (λ (t : ℕ). top_action table t st ≡ Fails) at_end fails in
          let none = fails_settles g table (end_token g) st accepts.prods accepts.settled here accepts.settles in
          let e : Accepts ≡ Fails = sym accepts.action ∙ none in cc
    ]
