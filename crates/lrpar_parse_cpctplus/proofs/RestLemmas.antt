-- The rests of repairs in a graph by numbers: they are the paths to the end that have the form, each once and in order.
use Rattle.std.proofs.Common.{◌≡◌, ◌<◌, ◌==◌, ◌∙◌, ◌↔◌, ◌&&◌, ◌||◌, inl, inr, ℕ, zero, suc, List, [], ◌∷◌, ◌++◌, Bool, true, false, IsTrue, cond, flat_map, length, map, not, refl, sym, subst, ap, arith, AllPairs}
use Rattle.std.specs.Prelude.{slice_index_or}
use Rattle.std.proofs.lemmas.Bool.{eq-eqb, eqb-true}
use Rattle.std.proofs.lemmas.List.Elements.{All-nil}
use Rattle.std.proofs.lemmas.List.Kept.{AllPairs-cons}
use Rattle.lrpar_parse_repair.specs.Sequences.{PlainStep, PlainInsert, PlainDelete, PlainShift}
use Rattle.lrpar_parse_cpctplus.specs.Forming.{allows_none, class_after, form_after, form_of}
use Rattle.lrpar_parse_cpctplus.specs.Graph.{PlainLink}
use Rattle.lrpar_parse_cpctplus.specs.Listing.{IsPreferred}
use Rattle.lrpar_parse_cpctplus.specs.Order.{IsEarlier, IsStepBefore}
use Rattle.lrpar_parse_cpctplus.specs.Rests.{in_order, rests, shorter}
use Rattle.lrpar_parse_cpctplus.specs.Ways.{FitAfter, has_avoided}
use Rattle.lrpar_parse_cpctplus.specs.declared.form.Class.{Class}
use Rattle.lrpar_parse_cpctplus.specs.declared.form.Class.TheVariants.{Clean, Avoided, Any, Nothing}
use Rattle.lrpar_parse_cpctplus.specs.declared.form.Form.{Form}
use Rattle.lrpar_parse_cpctplus.proofs.DistanceLemmas.{compare}
use Rattle.lrpar_parse_cpctplus.proofs.FirstLemmas.{image_in, in_either, in_image, in_left, in_right, pairs_between, pairs_joined}
use Rattle.lrpar_parse_cpctplus.proofs.ListingLemmas.{differ_first, differ_later}
use Rattle.lrpar_parse_cpctplus.proofs.MemberLemmas.{IsIn}
use Rattle.lrpar_parse_cpctplus.proofs.OrderLemmas.{pairs_map, pairs_none, pairs_weaker}
use Rattle.lrpar_parse_cpctplus.proofs.TakenLemmas.{both_hold, holds_both, in_part, pairs_of_parts, part_in}
use Rattle.lrpar_parse_cpctplus.proofs.WayLemmas.{preferred_clean, preferred_earlier, preferred_shorter}

-- whether a class has the sequences that insert a token to be avoided, or those that don't
abbrev pub has_class : Class → Bool → Bool
has_class Clean b = not b
has_class Avoided b = b
has_class Any b = true
has_class Nothing b = false

class_first : (class : Class) (a b : Bool) → has_class (class_after a class) b ≡ has_class class (a || b)
class_first Clean true b = refl
class_first Clean false b = refl
class_first Avoided true b = refl
class_first Avoided false b = refl
class_first Any true b = refl
class_first Any false b = refl
class_first Nothing true b = refl
class_first Nothing false b = refl

class_none : (class : Class) → allows_none class ≡ has_class class false
class_none Clean = refl
class_none Avoided = refl
class_none Any = refl
class_none Nothing = refl

not_true : ¬ (false ≡ true)
not_true e = cc

module _ (avoided : List Bool) where
  -- whether the form allows the steps
  abbrev pub are_allowed : Form → List PlainStep → Bool
  are_allowed form [] = allows_none form.class
  are_allowed form (x ∷ steps) = are_allowed (form_after avoided form x) steps

  -- it does by its class and by whether they may come next
  pub allowed_by : (class : Class) (deleted : Bool) (steps : List PlainStep)
      → IsTrue (are_allowed (form_of class deleted) steps) ↔ (IsTrue (has_class class (has_avoided avoided steps)) × FitAfter deleted steps)
  allowed_by class deleted [] = ((λ h. (sym (class_none class) ∙ h, tt)), (λ h. class_none class ∙ h.0))
  allowed_by class true (PlainInsert t ∷ steps) =
      let rest = allowed_by Nothing false steps in (
        (λ h. absurd (not_true (rest.0 h).0)),
        (λ h. let e : true ≡ false = h.1.0 in absurd (not_true (sym e))),
      )
  allowed_by class false (PlainInsert t ∷ steps) =
      let a = slice_index_or avoided t false in
      let rest = allowed_by (class_after a class) false steps in
      let same = class_first class a (has_avoided avoided steps) in (
        (λ h. let r = rest.0 h in (sym same ∙ r.0, (refl, r.1))),
        (λ h. rest.1 (same ∙ h.0, h.1.1)),
      )
  allowed_by class deleted (PlainDelete ∷ steps) =
      let rest = allowed_by class true steps in (
        (λ h. let r = rest.0 h in (r.0, (tt, r.1))),
        (λ h. rest.1 (h.0, h.1.1)),
      )
  allowed_by class deleted (PlainShift ∷ steps) =
      let rest = allowed_by class false steps in (
        (λ h. let r = rest.0 h in (r.0, (tt, r.1))),
        (λ h. rest.1 (h.0, h.1.1)),
      )

-- at the end there is the rest without steps, if it is allowed
abbrev pub at_end : Bool → List (List PlainStep)
at_end b = cond b ([] ∷ []) []

only_none : (b : Bool) (steps : List PlainStep) → IsIn steps (at_end b) → IsTrue b × (steps ≡ [])
only_none true steps m = (refl, elim m as (λ _. steps ≡ []) [ inl e ↦ e | inr none ↦ absurd none ])
only_none false steps m = absurd m

none_there : (b : Bool) → IsTrue b → IsIn [] (at_end b)
none_there true h = inl refl
none_there false h = absurd (not_true h)

one_rises : (b : Bool) → AllPairs IsEarlier (at_end b)
one_rises true = AllPairs-cons IsEarlier [] [] (All-nil (IsEarlier [])) (pairs_none IsEarlier)
one_rises false = pairs_none IsEarlier

-- the steps lead from node u to the end
abbrev pub IsPath : ℕ → (ℕ → List PlainLink) → ℕ → List PlainStep → Type 0
IsPath end next u [] = u ≡ end
IsPath end next u (x ∷ steps) = (link : PlainLink) × IsIn link (next u) × (link.step ≡ x) × IsPath end next link.to steps

module _ (avoided : List Bool) (end : ℕ) (next : ℕ → List PlainLink) where
  -- the rests after a link
  abbrev pub rests_by : ℕ → Form → PlainLink → List (List PlainStep)
  rests_by s form link = map (λ (steps : List PlainStep). link.step ∷ steps) (rests avoided end next s (form_after avoided form link.step) link.to)

  pub rests_are_paths : (s : ℕ) (form : Form) (u : ℕ) (steps : List PlainStep) → IsIn steps (rests avoided end next s form u)
      → (length steps ≡ s) × IsPath end next u steps × IsTrue (are_allowed avoided form steps)
  rests_are_paths zero form u steps m =
      let only = only_none ((u == end) && allows_none form.class) steps m in
      let both = both_hold (u == end) (allows_none form.class) only.0 in
      subst (λ (l : List PlainStep). (length l ≡ 0) × IsPath end next u l × IsTrue (are_allowed avoided form l)) (sym only.1) (refl, eqb-true u end both.0, both.1)
  rests_are_paths (suc s) form u steps m =
      let from = in_part (rests_by s form) (next u) steps m in
      let link = from.0 in
      let after = form_after avoided form link.step in
      let of = in_image (λ (rest : List PlainStep). link.step ∷ rest) (rests avoided end next s after link.to) steps from.2 in
      let more = rests_are_paths s after link.to of.0 of.2 in
      subst (λ (l : List PlainStep). (length l ≡ suc s) × IsPath end next u l × IsTrue (are_allowed avoided form l)) (sym of.1)
      (ap suc more.0, (link, from.1, refl, more.1), more.2)

  pub paths_are_rests : (steps : List PlainStep) (form : Form) (u : ℕ) → IsPath end next u steps → IsTrue (are_allowed avoided form steps)
      → IsIn steps (rests avoided end next (length steps) form u)
  paths_are_rests [] form u path allowed =
      none_there ((u == end) && allows_none form.class) (holds_both (u == end) (allows_none form.class) (eq-eqb u end path) allowed)
  paths_are_rests (x ∷ steps) form u path allowed =
      let link = path.0 in
      let after = form_after avoided form link.step in
      let here = subst (λ (y : PlainStep). IsTrue (are_allowed avoided (form_after avoided form y) steps)) (sym path.2) allowed in
      let rest = paths_are_rests steps after link.to path.3 here in
      let image = image_in (λ (l : List PlainStep). link.step ∷ l) (rests avoided end next (length steps) after link.to) steps rest in
      subst (λ (y : PlainStep). IsIn (y ∷ steps) (rests avoided end next (suc (length steps)) form u)) path.2
      (part_in (rests_by (length steps) form) (next u) link (link.step ∷ steps) path.1 image)

  -- from a node from which no rests have s steps, and so on for all nodes, none have more
  pub no_more_rests : (s : ℕ) → ((form : Form) (u : ℕ) → rests avoided end next s form u ≡ []) → (form : Form) (u : ℕ)
      → rests avoided end next (suc s) form u ≡ []
  no_more_rests s none form u = no_parts (next u)
    where
      no_parts : (links : List PlainLink) → flat_map (rests_by s form) links ≡ []
      no_parts [] = refl
      no_parts (link ∷ links) =
          ap (λ (l : List (List PlainStep)). map (λ (steps : List PlainStep). link.step ∷ steps) l ++ flat_map (rests_by s form) links)
          (none (form_after avoided form link.step) link.to) ∙ no_parts links

  -- none are meant
  pub no_rests_of_none : (s : ℕ) (deleted : Bool) (u : ℕ) → rests avoided end next s (form_of Nothing deleted) u ≡ []
  no_rests_of_none s deleted u = none_if (rests avoided end next s (form_of Nothing deleted) u) (λ steps m.
      let path = rests_are_paths s (form_of Nothing deleted) u steps m in
      not_true ((allowed_by avoided Nothing deleted steps).0 path.2).0)
    where
      none_if : (xs : List (List PlainStep)) → ((x : List PlainStep) → ¬ (IsIn x xs)) → xs ≡ []
      none_if [] none = refl
      none_if (x ∷ xs) none = absurd (none x (inl refl))

  module _ (rising : (u : ℕ) → AllPairs (λ one other. IsStepBefore one.step other.step) (next u)) where
    pub rests_rise : (s : ℕ) (form : Form) (u : ℕ) → AllPairs IsEarlier (rests avoided end next s form u)
    rests_rise zero form u = one_rises ((u == end) && allows_none form.class)
    rests_rise (suc s) form u =
        pairs_of_parts (rests_by s form) IsEarlier (λ one other. IsStepBefore one.step other.step) (next u) (rising u)
        (λ link m.
        let after = form_after avoided form link.step in
        let of = rests avoided end next s after link.to in
        pairs_map IsEarlier (λ (l : List PlainStep). link.step ∷ l) of
        (pairs_weaker IsEarlier (λ xs ys. IsEarlier (link.step ∷ xs) (link.step ∷ ys)) (λ xs ys e. differ_later link.step link.step xs ys refl e) of
        (rests_rise s after link.to)))
        (λ one other before xs ys m n.
        let x = in_image (λ (l : List PlainStep). one.step ∷ l) (rests avoided end next s (form_after avoided form one.step) one.to) xs m in
        let y = in_image (λ (l : List PlainStep). other.step ∷ l) (rests avoided end next s (form_after avoided form other.step) other.to) ys n in
        subst (λ (l : List PlainStep). IsEarlier l ys) (sym x.1)
        (subst (λ (l : List PlainStep). IsEarlier (one.step ∷ x.0) l) (sym y.1) (differ_first one.step other.step x.0 y.0 before)))

  -- those with fewer than n steps
  pub in_shorter : (class : Class) (n : ℕ) (steps : List PlainStep) → IsIn steps (shorter avoided end next class n)
      → (length steps < n) × IsPath end next 0 steps × IsTrue (are_allowed avoided (form_of class false) steps)
  in_shorter class zero steps m = absurd m
  in_shorter class (suc n) steps m =
      elim (in_either steps (shorter avoided end next class n) (rests avoided end next n (form_of class false) 0) m)
      as (λ _. (length steps < suc n) × IsPath end next 0 steps × IsTrue (are_allowed avoided (form_of class false) steps)) [
        | inl before ↦ let more = in_shorter class n steps before in (omega (arith, more.0), more.1, more.2)
        | inr last ↦ let path = rests_are_paths n (form_of class false) 0 steps last in (omega (arith, path.0), path.1, path.2)
      ]

  pub shorter_in : (class : Class) (n : ℕ) (steps : List PlainStep) → length steps < n → IsIn steps (rests avoided end next (length steps) (form_of class false) 0)
      → IsIn steps (shorter avoided end next class n)
  shorter_in class zero steps below m = absurd (omega (arith, below))
  shorter_in class (suc n) steps below m =
      let before = shorter avoided end next class n in
      let last = rests avoided end next n (form_of class false) 0 in
      elim (compare (length steps) n) as (λ _. IsIn steps (before ++ last)) [
        | inl less ↦ in_left steps before last (shorter_in class n steps less m)
        | inr other ↦ elim other as (λ _. IsIn steps (before ++ last)) [
          | inl same ↦ in_right steps before last (subst (λ (k : ℕ). IsIn steps (rests avoided end next k (form_of class false) 0)) same m)
          | inr more ↦ absurd (omega (arith, below, more))
        ]
      ]

  pub in_all : (n : ℕ) (steps : List PlainStep) → IsIn steps (in_order avoided end next n) → (length steps < n) × IsPath end next 0 steps × FitAfter false steps
  in_all n steps m =
      elim (in_either steps (shorter avoided end next Clean n) (shorter avoided end next Avoided n) m)
      as (λ _. (length steps < n) × IsPath end next 0 steps × FitAfter false steps) [
        | inl one ↦ let h = in_shorter Clean n steps one in (h.0, h.1, ((allowed_by avoided Clean false steps).0 h.2).1)
        | inr other ↦ let h = in_shorter Avoided n steps other in (h.0, h.1, ((allowed_by avoided Avoided false steps).0 h.2).1)
      ]

  all_by : (n : ℕ) (steps : List PlainStep) (b : Bool) → has_avoided avoided steps ≡ b → length steps < n → IsPath end next 0 steps → FitAfter false steps
      → IsIn steps (in_order avoided end next n)
  all_by n steps true e below path fits =
      let allowed = (allowed_by avoided Avoided false steps).1 (e, fits) in
      in_right steps (shorter avoided end next Clean n) (shorter avoided end next Avoided n)
      (shorter_in Avoided n steps below (paths_are_rests steps (form_of Avoided false) 0 path allowed))
  all_by n steps false e below path fits =
      let allowed = (allowed_by avoided Clean false steps).1 (ap not e, fits) in
      in_left steps (shorter avoided end next Clean n) (shorter avoided end next Avoided n)
      (shorter_in Clean n steps below (paths_are_rests steps (form_of Clean false) 0 path allowed))

  pub all_in : (n : ℕ) (steps : List PlainStep) → length steps < n → IsPath end next 0 steps → FitAfter false steps → IsIn steps (in_order avoided end next n)
  all_in n steps below path fits = all_by n steps (has_avoided avoided steps) refl below path fits

  clean_is : (b : Bool) → IsTrue (not b) → b ≡ false
  clean_is true h = let e : false ≡ true = h in sym e
  clean_is false h = refl

  has_none_avoided : (n : ℕ) (steps : List PlainStep) → IsIn steps (shorter avoided end next Clean n) → has_avoided avoided steps ≡ false
  has_none_avoided n steps m = clean_is (has_avoided avoided steps) ((allowed_by avoided Clean false steps).0 (in_shorter Clean n steps m).2).0

  has_one_avoided : (n : ℕ) (steps : List PlainStep) → IsIn steps (shorter avoided end next Avoided n) → has_avoided avoided steps ≡ true
  has_one_avoided n steps m = ((allowed_by avoided Avoided false steps).0 (in_shorter Avoided n steps m).2).0

  module _ (rising : (u : ℕ) → AllPairs (λ one other. IsStepBefore one.step other.step) (next u)) where
    -- those of one class are in the order that is preferred
    shorter_rise : (class : Class) (b : Bool)
        → ((n : ℕ) (steps : List PlainStep) → IsIn steps (shorter avoided end next class n) → has_avoided avoided steps ≡ b)
        → (n : ℕ) → AllPairs (IsPreferred avoided) (shorter avoided end next class n)
    shorter_rise class b alike zero = pairs_none (IsPreferred avoided)
    shorter_rise class b alike (suc n) =
        let before = shorter avoided end next class n in
        let last = rests avoided end next n (form_of class false) 0 in
        let all = shorter avoided end next class (suc n) in
        let of_last : (steps : List PlainStep) → IsIn steps last → (length steps ≡ n) × (has_avoided avoided steps ≡ b) = λ steps m. (
          (rests_are_paths n (form_of class false) 0 steps m).0,
          alike (suc n) steps (in_right steps before last m),
        ) in
        pairs_joined (IsPreferred avoided) before last (shorter_rise class b alike n)
        (pairs_between IsEarlier (IsPreferred avoided) last (rests_rise rising n (form_of class false) 0) (λ xs ys m k e.
        let x = of_last xs m in
        let y = of_last ys k in
        preferred_earlier avoided xs ys (x.1 ∙ sym y.1) (x.0 ∙ sym y.0) e))
        (λ xs ys m k.
        let y = of_last ys k in
        preferred_shorter avoided xs ys (alike n xs m ∙ sym y.1) (omega (arith, (in_shorter class n xs m).0, y.0)))

    pub all_rise : (n : ℕ) → AllPairs (IsPreferred avoided) (in_order avoided end next n)
    all_rise n =
        pairs_joined (IsPreferred avoided) (shorter avoided end next Clean n) (shorter avoided end next Avoided n)
        (shorter_rise Clean false has_none_avoided n) (shorter_rise Avoided true has_one_avoided n)
        (λ xs ys m k. preferred_clean avoided xs ys (has_none_avoided n xs m) (has_one_avoided n ys k))
