-- The ways to ends: those from the error point are the repairs of least cost. And how sequences are preferred: by whether they insert a
-- token to be avoided, which is worked out step by step.
use Rattle.std.proofs.Common.{◌≡◌, ◌<◌, ◌||◌, ◌∙◌, ◌↔◌, ◌⊎◌, inl, inr, ℕ, List, [], ◌∷◌, Bool, true, false, IsTrue, length, refl, sym, subst, ap, ap₂}
use Rattle.std.specs.Prelude.{slice_index_or}
use Rattle.lrpar_grammar.specs.Grammar.{end_token}
use Rattle.lrpar_parse_repair.specs.Asked.{Asked}
use Rattle.lrpar_parse_repair.specs.Sequences.{PlainStep, PlainInsert, PlainDelete, PlainShift}
use Rattle.lrpar_parse_repair.proofs.SequenceLemmas.{steps_one_way}
use Rattle.lrpar_parse_cpctplus.specs.LinkPaths.{IsLinkPath, IsPathToEnd}
use Rattle.lrpar_parse_cpctplus.specs.Configurations.{Configured, IsEdge, root_of}
use Rattle.lrpar_parse_cpctplus.specs.Forms.{IsFormed}
use Rattle.lrpar_parse_cpctplus.specs.Listing.{AreAlike, InsertsAvoided, IsPreferred, avoids, is_earlier, is_shorter}
use Rattle.lrpar_parse_cpctplus.specs.Order.{IsEarlier}
use Rattle.lrpar_parse_cpctplus.specs.Ways.{FitAfter, FitsAfter, IsWay, has_avoided, is_avoided, is_delete}
use Rattle.lrpar_parse_cpctplus.proofs.AnyFormLemmas.{BeginsBy, first_or_later, formed_after, formed_prepend}
use Rattle.lrpar_parse_cpctplus.proofs.DistanceLemmas.{configured}
use Rattle.lrpar_parse_cpctplus.proofs.FormLemmas.{IsStepOf, formed_none, has_after, has_none}

no_true : ¬ (true ≡ false)
no_true e = cc

-- the form, step by step
fit_begins_not : (t : ℕ) (steps : List PlainStep) → FitAfter true steps → ¬ (BeginsBy steps (PlainInsert t ∷ []))
fit_begins_not t [] fits at = has_none (PlainInsert t) [] ([], at.0, at.1)
fit_begins_not t (PlainInsert u ∷ steps) fits at = no_true fits.0
fit_begins_not t (PlainDelete ∷ steps) fits at = let e : PlainDelete ∷ steps ≡ PlainInsert t ∷ at.0 = at.1 in cc
fit_begins_not t (PlainShift ∷ steps) fits at = let e : PlainShift ∷ steps ≡ PlainInsert t ∷ at.0 = at.1 in cc

fits_any : (x : PlainStep) → FitsAfter false x
fits_any (PlainInsert t) = refl
fits_any PlainDelete = tt
fits_any PlainShift = tt

module _ (end : ℕ) where
  -- all Inserts are of tokens below the end token
  abbrev pub AreBelow : List PlainStep → Type 0
  AreBelow [] = Unit {0}
  AreBelow (s ∷ steps) = IsStepOf end s × AreBelow steps

  pub fit_formed : (deleted : Bool) (steps : List PlainStep) → AreBelow steps → FitAfter deleted steps → IsFormed end steps
  fit_formed deleted [] below fits = formed_none end
  fit_formed deleted (PlainInsert t ∷ steps) below fits =
      formed_prepend end (PlainInsert t) steps below.0 (λ u e at. cc) (fit_formed false steps below.1 fits.1)
  fit_formed deleted (PlainDelete ∷ steps) below fits =
      formed_prepend end PlainDelete steps tt (λ u e at. fit_begins_not u steps fits.1 at) (fit_formed true steps below.1 fits.1)
  fit_formed deleted (PlainShift ∷ steps) below fits = formed_prepend end PlainShift steps tt (λ u e at. cc) (fit_formed false steps below.1 fits.1)

  fits_next : (x : PlainStep) (y : PlainStep) (steps : List PlainStep) → IsFormed end (x ∷ (y ∷ steps)) → FitsAfter (is_delete x) y
  fits_next (PlainInsert t) y steps h = fits_any y
  fits_next PlainDelete (PlainInsert u) steps h = absurd (h.apart u ([], steps, refl))
  fits_next PlainDelete PlainDelete steps h = tt
  fits_next PlainDelete PlainShift steps h = tt
  fits_next PlainShift y steps h = fits_any y

  formed_fit_next : (x : PlainStep) (steps : List PlainStep) → IsFormed end (x ∷ steps) → FitAfter (is_delete x) steps
  formed_fit_next x [] h = tt
  formed_fit_next x (y ∷ steps) h = (fits_next x y steps h, formed_fit_next y steps (formed_after end x (y ∷ steps) h))

  pub formed_fit : (steps : List PlainStep) → IsFormed end steps → FitAfter false steps
  formed_fit [] h = tt
  formed_fit (x ∷ steps) h = (fits_any x, formed_fit_next x steps h)

module _ {X : Type 0} (token : X → ℕ) (at : Asked X) where
  -- a step leads to one configuration
  pub edge_one_way : (u v w : Configured) (x : PlainStep) → IsEdge token at u x v → IsEdge token at u x w → v ≡ w
  edge_one_way u v w x a b =
      let same = steps_one_way token at.checked.grammar at.checked.table at.lexemes u.stack u.place x a.0 v.stack v.place b.0 w.stack w.place a.1 b.1 in
      ap₂ configured same.1 same.2

  edge_below : (u v : Configured) (x : PlainStep) → IsEdge token at u x v → IsStepOf (end_token at.checked.grammar) x
  edge_below u v (PlainInsert t) edge = edge.1.0
  edge_below u v PlainDelete edge = tt
  edge_below u v PlainShift edge = tt

module _ {X : Type 0} (token : X → ℕ) (costs : List ℕ) (at : Asked X) where
  chain_below : (c : ℕ) (u v : Configured) (steps : List PlainStep) → IsLinkPath token costs at c u steps v → AreBelow (end_token at.checked.grammar) steps
  chain_below c u v [] h = tt
  chain_below c u v (x ∷ steps) h = (edge_below token at u h.0 x h.1.edge, chain_below c h.0 v steps h.3)

  -- the ways from the error point are the chains to ends
  pub ways_are_chains : (c : ℕ) (steps : List PlainStep) → IsWay token costs at c false (root_of at) steps ↔ IsPathToEnd token costs at c steps
  ways_are_chains c steps = (
    (λ h. record {
      formed = fit_formed (end_token at.checked.grammar) false steps (chain_below c (root_of at) h.end steps h.chain) h.fits;
      end = h.end;
      ends = h.ends;
      chain = h.chain;
    }),
    (λ h. record { fits = formed_fit (end_token at.checked.grammar) steps h.formed; end = h.end; ends = h.ends; chain = h.chain }),
  )

-- whether a sequence inserts a token that is to be avoided
or_either : (a b : Bool) → IsTrue (a || b) ↔ (IsTrue a ⊎ IsTrue b)
or_either true b = ((λ h. inl refl), (λ h. refl))
or_either false b = ((λ h. inr h), (λ h. elim h as (λ _. IsTrue b) [ inl e ↦ absurd (false_not e) | inr r ↦ r ]))
  where
    false_not : ¬ (IsTrue false)
    false_not e = cc

delete_no_insert : (u : ℕ) → ¬ (PlainDelete ≡ PlainInsert u)
delete_no_insert u e = cc

shift_no_insert : (u : ℕ) → ¬ (PlainShift ≡ PlainInsert u)
shift_no_insert u e = cc

true_not_false : (b : Bool) → b ≡ false → ¬ (IsTrue b)
true_not_false b e h = let f : true ≡ false = sym h ∙ e in cc

module _ (avoided : List Bool) where
  is_avoided_by : (x : PlainStep) → IsTrue (is_avoided avoided x) ↔ ((t : ℕ) × (x ≡ PlainInsert t) × IsTrue (slice_index_or avoided t false))
  is_avoided_by (PlainInsert t) = (
    (λ h. (t, refl, h)),
    (λ h. let same : h.0 ≡ t = let e : PlainInsert t ≡ PlainInsert h.0 = h.1 in cc in subst (λ (n : ℕ). IsTrue (slice_index_or avoided n false)) same h.2),
  )
  is_avoided_by PlainDelete = ((λ h. absurd (true_not_false false refl h)), (λ h. absurd (delete_no_insert h.0 h.1)))
  is_avoided_by PlainShift = ((λ h. absurd (true_not_false false refl h)), (λ h. absurd (shift_no_insert h.0 h.1)))

  -- the first step does, or the rest
  inserts_first : (x : PlainStep) (steps : List PlainStep)
      → InsertsAvoided avoided (x ∷ steps) ↔ (IsTrue (is_avoided avoided x) ⊎ InsertsAvoided avoided steps)
  inserts_first x steps = (
    (λ h.
        elim (first_or_later x steps (PlainInsert h.0) [] h.2.0 h.2.1 h.2.2) as (λ _. IsTrue (is_avoided avoided x) ⊎ InsertsAvoided avoided steps) [
          | inl here ↦ inl ((is_avoided_by x).1 (h.0, here.0, h.1))
          | inr later ↦ inr (h.0, h.1, later)
        ]),
    (λ h.
        elim h as (λ _. InsertsAvoided avoided (x ∷ steps)) [
          | inl here ↦
              let of = (is_avoided_by x).0 here in
              (of.0, of.2, ([], steps, ap (λ (y : PlainStep). y ∷ steps) of.1))
          | inr later ↦ (later.0, later.1, has_after x steps (PlainInsert later.0 ∷ []) later.2)
        ]),
  )

  pub has_avoided_by : (steps : List PlainStep) → IsTrue (has_avoided avoided steps) ↔ InsertsAvoided avoided steps
  has_avoided_by [] = ((λ h. absurd (true_not_false false refl h)), (λ h. absurd (has_none (PlainInsert h.0) [] h.2)))
  has_avoided_by (x ∷ steps) =
      let rest = has_avoided_by steps in
      let either = or_either (is_avoided avoided x) (has_avoided avoided steps) in
      let first = inserts_first x steps in (
        (λ h.
            elim (either.0 h) as (λ _. InsertsAvoided avoided (x ∷ steps)) [ inl here ↦ first.1 (inl here) | inr later ↦ first.1 (inr (rest.0 later)) ]),
        (λ h.
            elim (first.0 h) as (λ _. IsTrue (has_avoided avoided (x ∷ steps))) [
              | inl here ↦ either.1 (inl here)
              | inr later ↦ either.1 (inr (rest.1 later))
            ]),
      )

  alike_by : (xs ys : List PlainStep) → has_avoided avoided xs ≡ has_avoided avoided ys → AreAlike avoided xs ys
  alike_by xs ys same = (
    (λ h. (has_avoided_by ys).0 (sym same ∙ (has_avoided_by xs).1 h)),
    (λ h. (has_avoided_by xs).0 (same ∙ (has_avoided_by ys).1 h)),
  )

  -- the order, by these and by the numbers of steps
  pub preferred_clean : (xs ys : List PlainStep) → has_avoided avoided xs ≡ false → IsTrue (has_avoided avoided ys) → IsPreferred avoided xs ys
  preferred_clean xs ys clean other = avoids (λ h. true_not_false (has_avoided avoided xs) clean ((has_avoided_by xs).1 h)) ((has_avoided_by ys).0 other)

  pub preferred_shorter : (xs ys : List PlainStep) → has_avoided avoided xs ≡ has_avoided avoided ys → length xs < length ys → IsPreferred avoided xs ys
  preferred_shorter xs ys same less = is_shorter (alike_by xs ys same) less

  pub preferred_earlier : (xs ys : List PlainStep) → has_avoided avoided xs ≡ has_avoided avoided ys → length xs ≡ length ys → IsEarlier xs ys
      → IsPreferred avoided xs ys
  preferred_earlier xs ys same long earlier = is_earlier (alike_by xs ys same) long earlier
