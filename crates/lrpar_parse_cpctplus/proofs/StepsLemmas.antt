-- Steps that are added to the graph one after the other: each is due when its turn comes.
use Rattle.std.proofs.Common.{◌≡◌, ◌<◌, ◌≤◌, ◌+◌, ◌∙◌, ◌⊎◌, inl, inr, ℕ, List, length, get_or, slice_get, take, Some, sym, subst, ap, arith}
use Rattle.std.specs.List.{Contains}
use Rattle.std.proofs.lemmas.Bool.{cases_lt}
use Rattle.std.proofs.lemmas.List.{take_all}
use Rattle.lrpar_parse_repair.specs.Asked.{Asked}
use Rattle.lrpar_parse_repair.specs.Sequences.{PlainStep, PlainShift}
use Rattle.lrpar_parse_cpctplus.specs.Configurations.{Configured}
use Rattle.lrpar_parse_cpctplus.specs.Graph.{PlainLink}
use Rattle.lrpar_parse_cpctplus.specs.SearchRound.{PlainAttempt, AreOnce, Grows, IsAmong, IsDue, IsGrowing, IsShiftWithin, IsThis}
use Rattle.lrpar_parse_cpctplus.proofs.AddLemmas.{attempt_with}
use Rattle.lrpar_parse_cpctplus.proofs.GrowLemmas.{grows_both, grows_none, grows_same, stays_at}
use Rattle.lrpar_parse_cpctplus.proofs.NumberLemmas.{contains_none, take_before, take_cases, take_once, take_this}

module _ {X : Type 0} (token : X → ℕ) (costs : List ℕ) (at : Asked X) (first c : ℕ) (nodes : List Configured) (links : List PlainLink) where
  -- by the first ones of the steps
  module _ (attempts : List PlainAttempt) where
    pub among_begins : IsGrowing token costs at first c nodes links
        → Grows token costs at first c (IsAmong (take 0 attempts)) nodes links nodes links
    among_begins growing =
        grows_none token costs at first c (IsAmong (take 0 attempts)) nodes links growing (λ from step h. contains_none (attempt_with from step) h)

    module _ (k : ℕ) (x : PlainAttempt) (below : k < length attempts) (is : x ≡ get_or attempts k x) (now : List Configured) (now_links : List PlainLink)
        (so_far : Grows token costs at first c (IsAmong (take k attempts)) nodes links now now_links) where
      -- the next one is due
      pub among_due : AreOnce attempts → IsDue token costs at first c nodes links x.from x.step → IsDue token costs at first c now now_links x.from x.step
      among_due once due = record {
        tail = due.tail;
        at_from = stays_at token costs at first c nodes now x.from due.tail so_far.nodes_stay due.at_from;
        distance = due.distance;
        far = due.far;
        sum = due.sum;
        fresh = λ link there from step.
            elim (so_far.links_from link there) as (λ _. link.to < first) [
              | inl old ↦ due.fresh link old from step
              | inr new ↦
                  let same : attempt_with link.from link.step ≡ x =
                  ap (λ (n : ℕ). attempt_with n link.step) from ∙ ap (λ (s : PlainStep). attempt_with x.from s) step in
                  absurd (take_once attempts k x once below is (subst (Contains (take k attempts)) same new.1))
            ];
      }

      pub among_more : (next : List Configured) (next_links : List PlainLink)
          → Grows token costs at first c (IsThis x.from x.step) now now_links next next_links
          → Grows token costs at first c (IsAmong (take (k + 1) attempts)) nodes links next next_links
      among_more next next_links own =
          grows_same token costs at first c (λ from step. IsAmong (take k attempts) from step ⊎ IsThis x.from x.step from step) (IsAmong (take (k + 1) attempts))
          nodes next links next_links
          (λ from step h.
          elim h as (λ _. IsAmong (take (k + 1) attempts) from step) [
            | inl before ↦ take_before attempts k x (attempt_with from step) below before
            | inr this ↦
                let same : x ≡ attempt_with from step =
                ap (λ (n : ℕ). attempt_with n x.step) (sym this.0) ∙ ap (λ (s : PlainStep). attempt_with from s) (sym this.1) in
                subst (Contains (take (k + 1) attempts)) same (take_this attempts k x below is)
          ])
          (λ from step h.
          elim (take_cases attempts k x (attempt_with from step) below is h) as (λ _. IsAmong (take k attempts) from step ⊎ IsThis x.from x.step from step) [
            | inl before ↦ inl before
            | inr same ↦ inr (ap (λ (y : PlainAttempt). y.from) (sym same), ap (λ (y : PlainAttempt). y.step) (sym same))
          ])
          (grows_both token costs at first c (IsAmong (take k attempts)) (IsThis x.from x.step) nodes now next links now_links next_links so_far own)

    pub among_end : (n : ℕ) (now : List Configured) (now_links : List PlainLink) → length attempts ≤ n
        → Grows token costs at first c (IsAmong (take n attempts)) nodes links now now_links
        → Grows token costs at first c (IsAmong attempts) nodes links now now_links
    among_end n now now_links past h =
        subst (λ (l : List PlainAttempt). Grows token costs at first c (IsAmong l) nodes links now now_links) (take_all n attempts past) h

  -- by the Shifts from the first numbers
  pub shifts_begin : IsGrowing token costs at first c nodes links → Grows token costs at first c (IsShiftWithin first first) nodes links nodes links
  shifts_begin growing =
      grows_none token costs at first c (IsShiftWithin first first) nodes links growing (λ from step h. omega (arith, h.0, h.1))

  module _ (k : ℕ) (low : first ≤ k) (now : List Configured) (now_links : List PlainLink)
      (so_far : Grows token costs at first c (IsShiftWithin first k) nodes links now now_links) where
    pub shift_due : (u : Configured) → slice_get now k ≡ Some u
        → ((link : PlainLink) → Contains links link → link.step ≡ PlainShift → link.to < first) → IsDue token costs at first c now now_links k PlainShift
    shift_due u is none = record {
      tail = u;
      at_from = is;
      distance = c;
      far = so_far.growing.level k u low is;
      sum = omega arith;
      fresh = λ link there from step.
          elim (so_far.links_from link there) as (λ _. link.to < first) [
            | inl old ↦ none link old step
            | inr new ↦ absurd (omega (arith, new.1.1, from))
          ];
    }

    pub shifts_more : (next : List Configured) (next_links : List PlainLink)
        → Grows token costs at first c (IsThis k PlainShift) now now_links next next_links
        → Grows token costs at first c (IsShiftWithin first (k + 1)) nodes links next next_links
    shifts_more next next_links own =
        grows_same token costs at first c (λ from step. IsShiftWithin first k from step ⊎ IsThis k PlainShift from step) (IsShiftWithin first (k + 1))
        nodes next links next_links
        (λ from step h.
        elim h as (λ _. IsShiftWithin first (k + 1) from step) [
          | inl before ↦ (before.0, omega (arith, before.1), before.2)
          | inr this ↦ (omega (arith, this.0, low), omega (arith, this.0), this.1)
        ])
        (λ from step h.
        elim (cases_lt from k) as (λ _. IsShiftWithin first k from step ⊎ IsThis k PlainShift from step) [
          | inl below ↦ inl (h.0, below, h.2)
          | inr past ↦ inr (omega (arith, past, h.1), h.2)
        ])
        (grows_both token costs at first c (IsShiftWithin first k) (IsThis k PlainShift) nodes now next links now_links next_links so_far own)

    pub shifts_end : (count : ℕ) → length now ≡ count → count ≤ k → Grows token costs at first c (IsShiftWithin first count) nodes links now now_links
    shifts_end count is past =
        grows_same token costs at first c (IsShiftWithin first k) (IsShiftWithin first count) nodes now links now_links
        (λ from step h. (h.0, omega (arith, so_far.inner from step h, is), h.2)) (λ from step h. (h.0, omega (arith, h.1, past), h.2)) so_far
