-- For each sequence that works at an error point there is a repair that costs no more. Its Deletes move after the Inserts that
-- follow them, since a Delete leaves the stack and an Insert the place; then the Shifts at its end drop, since they feed lexemes
-- that can be fed all the same.
use Rattle.std.proofs.Common.{◌≡◌, ◌<◌, ◌+◌, ◌⊎◌, inl, inr, ℕ, List, [], ◌∷◌, ◌++◌, length, refl, subst, ap, arith, replicate}
use Rattle.lrpar_grammar.specs.Grammar.{Grammar, end_token}
use Rattle.lrpar_table_rows.specs.Table.{Table}
use Rattle.lrpar_parse_repair.specs.Asked.{Asked}
use Rattle.lrpar_parse_repair.specs.Sequences.{PlainStep, PlainInsert, PlainDelete, PlainShift, CanGoOn, Works}
use Rattle.lrpar_parse_cpctplus.specs.AnyForm.{CostNoLess, HaveRepairs, WorksAt}
use Rattle.lrpar_parse_cpctplus.specs.Cheapest.{cost_of}
use Rattle.lrpar_parse_cpctplus.specs.Costs.{step_cost, steps_cost}
use Rattle.lrpar_parse_cpctplus.specs.Forms.{Has, IsFormed}
use Rattle.lrpar_parse_cpctplus.proofs.FormLemmas.{IsStepOf, formed_before, formed_none, has_after}
use Rattle.lrpar_parse_cpctplus.proofs.PruneLemmas.{Stripped, strip}
use Rattle.lrpar_parse_cpctplus.proofs.LeadLemmas.{cost_begins, fewer_go_on, leads_works, replays_parted, shifts_go_on, works_leads}

-- steps are at the beginning of a sequence, or after its first step
abbrev pub BeginsBy : List PlainStep → List PlainStep → Type 0
BeginsBy p part = (rest : List PlainStep) × (p ≡ part ++ rest)

pub first_or_later : (s : PlainStep) (p : List PlainStep) (x : PlainStep) (part before after : List PlainStep) → s ∷ p ≡ before ++ (x ∷ part) ++ after
    → ((s ≡ x) × BeginsBy p part) ⊎ Has p (x ∷ part)
first_or_later s p x part [] after e =
    let whole : s ∷ p ≡ x ∷ (part ++ after) = e in
    let same : s ≡ x = cc in
    let rest : p ≡ part ++ after = cc in
    inl (same, (after, rest))
first_or_later s p x part (y ∷ before) after e =
    let whole : s ∷ p ≡ y ∷ (before ++ (x ∷ part) ++ after) = e in
    let rest : p ≡ before ++ (x ∷ part) ++ after = cc in
    inr (before, after, rest)

module _ (end : ℕ) where
  -- a step before a well-formed sequence: a Delete only if no Insert follows
  pub formed_prepend : (s : PlainStep) (p : List PlainStep) → IsStepOf end s
      → ((t : ℕ) → s ≡ PlainDelete → ¬ (BeginsBy p (PlainInsert t ∷ []))) → IsFormed end p → IsFormed end (s ∷ p)
  formed_prepend s p is apart h = record {
    inserts = λ t at.
        elim (first_or_later s p (PlainInsert t) [] at.0 at.1 at.2) as (λ _. t < end) [
          | inl first ↦ subst (λ (x : PlainStep). IsStepOf end x) first.0 is
          | inr later ↦ h.inserts t later
        ];
    apart = λ t at.
        elim (first_or_later s p PlainDelete (PlainInsert t ∷ []) at.0 at.1 at.2) as (λ _. ⊥) [
          | inl first ↦ apart t first.0 first.1
          | inr later ↦ h.apart t later
        ];
  }

  pub formed_after : (s : PlainStep) (p : List PlainStep) → IsFormed end (s ∷ p) → IsFormed end p
  formed_after s p h = record {
    inserts = λ t at. h.inserts t (has_after s p (PlainInsert t ∷ []) at);
    apart = λ t at. h.apart t (has_after s p (PlainDelete ∷ PlainInsert t ∷ []) at);
  }

-- a Delete after the Inserts that a sequence begins with
abbrev pub sunk : List PlainStep → List PlainStep
sunk [] = PlainDelete ∷ []
sunk (PlainInsert t ∷ p) = PlainInsert t ∷ sunk p
sunk (PlainDelete ∷ p) = PlainDelete ∷ (PlainDelete ∷ p)
sunk (PlainShift ∷ p) = PlainDelete ∷ (PlainShift ∷ p)

pub sunk_formed : (end : ℕ) (p : List PlainStep) → IsFormed end p → IsFormed end (sunk p)
sunk_formed end [] h = formed_prepend end PlainDelete [] tt (λ t e at. let none : [] ≡ PlainInsert t ∷ at.0 = at.1 in cc) h
sunk_formed end (PlainInsert t ∷ p) h =
    formed_prepend end (PlainInsert t) (sunk p) (h.inserts t ([], p, refl)) (λ u e at. cc) (sunk_formed end p (formed_after end (PlainInsert t) p h))
sunk_formed end (PlainDelete ∷ p) h =
    formed_prepend end PlainDelete (PlainDelete ∷ p) tt (λ t e at. let none : PlainDelete ∷ p ≡ PlainInsert t ∷ at.0 = at.1 in cc) h
sunk_formed end (PlainShift ∷ p) h =
    formed_prepend end PlainDelete (PlainShift ∷ p) tt (λ t e at. let none : PlainShift ∷ p ≡ PlainInsert t ∷ at.0 = at.1 in cc) h

module _ {X : Type 0} (token : X → ℕ) (g : Grammar) (lexemes : List X) (costs : List ℕ) where
  -- it costs there what it does at the beginning
  pub sunk_costs : (i : ℕ) (p : List PlainStep)
      → steps_cost token g lexemes costs i (sunk p) ≡ step_cost token g lexemes costs i PlainDelete + steps_cost token g lexemes costs (i + 1) p
  sunk_costs i [] = refl
  sunk_costs i (PlainInsert t ∷ p) = omega (arith, sunk_costs i p)
  sunk_costs i (PlainDelete ∷ p) = refl
  sunk_costs i (PlainShift ∷ p) = refl

  module _ (table : Table) (k : ℕ) where
    -- and works there
    sunk_works : (st : List ℕ) (i : ℕ) (p : List PlainStep) → i < length lexemes → Works token g table lexemes k st (i + 1) p
        → Works token g table lexemes k st i (sunk p)
    sunk_works st i [] below h = ([], st, i + 1, (below, refl, refl, refl), h)
    sunk_works st i (PlainInsert t ∷ p) below h =
        let rest = subst (λ (m : ℕ). Works token g table lexemes k h.1 m p) h.3.2 h.4 in
        (h.0, h.1, i, (h.3.0, h.3.1, refl), sunk_works h.1 i p below rest)
    sunk_works st i (PlainDelete ∷ p) below h = ([], st, i + 1, (below, refl, refl, refl), h)
    sunk_works st i (PlainShift ∷ p) below h = ([], st, i + 1, (below, refl, refl, refl), h)

    -- a well-formed sequence that works as well, and costs the same
    record Formed (st : List ℕ) (i : ℕ) (steps : List PlainStep) : Type 0 where
      to : List PlainStep
      formed : IsFormed (end_token g) to
      works : Works token g table lexemes k st i to
      same : steps_cost token g lexemes costs i to ≡ steps_cost token g lexemes costs i steps

    formed_of : (st : List ℕ) (i : ℕ) (steps : List PlainStep) → Works token g table lexemes k st i steps → Formed st i steps
    formed_of st i [] h = record { to = []; formed = formed_none (end_token g); works = h; same = refl }
    formed_of st i (PlainInsert t ∷ steps) h =
        let rest = formed_of h.1 i steps (subst (λ (m : ℕ). Works token g table lexemes k h.1 m steps) h.3.2 h.4) in
        record {
          to = PlainInsert t ∷ rest.to;
          formed = formed_prepend (end_token g) (PlainInsert t) rest.to h.3.0 (λ u e at. cc) rest.formed;
          works = (h.0, h.1, i, (h.3.0, h.3.1, refl), rest.works);
          same = omega (arith, rest.same);
        }
    formed_of st i (PlainDelete ∷ steps) h =
        let here = subst (λ (m : ℕ). Works token g table lexemes k h.1 m steps) h.3.3 h.4 in
        let rest = formed_of st (i + 1) steps (subst (λ (l : List ℕ). Works token g table lexemes k l (i + 1) steps) h.3.2 here) in
        record {
          to = sunk rest.to;
          formed = sunk_formed (end_token g) rest.to rest.formed;
          works = sunk_works st i rest.to h.3.0 rest.works;
          same = omega (arith, sunk_costs i rest.to, rest.same);
        }
    formed_of st i (PlainShift ∷ steps) h =
        let rest = formed_of h.1 (i + 1) steps (subst (λ (m : ℕ). Works token g table lexemes k h.1 m steps) h.3.2 h.4) in
        record {
          to = PlainShift ∷ rest.to;
          formed = formed_prepend (end_token g) PlainShift rest.to tt (λ u e at. cc) rest.formed;
          works = (h.0, h.1, i + 1, (h.3.0, h.3.1, refl), rest.works);
          same = omega (arith, rest.same);
        }

module _ {X : Type 0} (token : X → ℕ) (at : Asked X) where
  -- without the Shifts at its end a sequence works
  works_stripped : (steps : List PlainStep) (s : Stripped steps) → WorksAt token at steps → WorksAt token at s.rest
  works_stripped steps s h =
      let g = at.checked.grammar in
      let table = at.checked.table in
      let k = at.shifts in
      let row = replicate s.count PlainShift in
      let way = works_leads token g table at.lexemes k at.stack at.place (s.rest ++ row) (subst (λ (l : List PlainStep). WorksAt token at l) s.is h) in
      let parts = replays_parted token g table at.lexemes at.stack at.place s.rest row way.0 way.1 way.2 way.3 in
      let on = shifts_go_on token g table at.lexemes s.count k parts.mid parts.place parts.second way.1 way.2 parts.further way.4 in
      let turned : s.count + k ≡ k + s.count = omega arith in
      let fewer = fewer_go_on token g table at.lexemes k s.count parts.mid parts.place
      (subst (λ (n : ℕ). CanGoOn token g table at.lexemes n parts.mid parts.place) turned on) in
      leads_works token g table at.lexemes k at.stack at.place s.rest parts.first parts.mid parts.place parts.before fewer

pub have_repairs : {X : Type 0} → HaveRepairs X
have_repairs token costs at steps h =
    let g = at.checked.grammar in
    let form = formed_of token g at.lexemes costs at.checked.table at.shifts at.stack at.place steps h in
    let s = strip form.to in
    let row = replicate s.count PlainShift in
    let less = cost_begins token g at.lexemes costs at.place s.rest row in
    let whole : cost_of token costs at form.to ≡ cost_of token costs at (s.rest ++ row) = ap (λ (l : List PlainStep). cost_of token costs at l) s.is in (
      s.rest,
      record {
        printed = record {
          formed = formed_before (end_token g) s.rest row (subst (λ (l : List PlainStep). IsFormed (end_token g) l) s.is form.formed);
          last = s.last;
        };
        works = works_stripped token at form.to s form.works;
      },
      omega (arith, less, whole, form.same),
    )

pub cost_no_less : {X : Type 0} → CostNoLess X
cost_no_less token costs at c least steps h =
    let repair = have_repairs token costs at steps h in
    omega (arith, least.none repair.0 repair.1, repair.2)
