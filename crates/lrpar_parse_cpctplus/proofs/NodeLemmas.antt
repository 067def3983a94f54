-- The links of a graph by nodes: sorted by their steps and put into rows.
use Rattle.std.proofs.Common.{◌≡◌, ◌≢◌, ◌<◌, ◌≤◌, ◌==◌, ◌+◌, ◌∙◌, inl, inr, ℕ, zero, suc, List, [], ◌∷◌, ◌++◌, Bool, true, false, Vec, cond, filter, get_or, length, map, set, take, refl, sym, subst, ap, ap₂, not, ◌&&◌, nat_lt, arith, All, AllPairs, Contains}
use Rattle.std.specs.Prelude.{slice_get}
use Rattle.std.specs.Cmp.{IsStrictWeakOrder, IsTotalOrder}
use Rattle.std.specs.List.Sorted.{ties}
use Rattle.std.specs.Ordering.{is_lt, nat_cmp, ordering_then}
use Rattle.std.specs.declared.alloc.Global.{Global}
use Rattle.std.specs.declared.cmp.Ordering.{Ordering}
use Rattle.std.specs.declared.cmp.Ordering.TheVariants.{Less, Equal, Greater}
use Rattle.std.proofs.lemmas.Bool.{cases_eq, cases_lt, cond_both, eq-eqb, eqb-true, ltb-false, ne_eqb}
use Rattle.std.proofs.lemmas.Cmp.{nat_cmp_total, on_total, then_total, tied_itself}
use Rattle.std.proofs.lemmas.List.{append-nil, get_or-set_other, get_or-set_same, length-set, map-append}
use Rattle.std.proofs.lemmas.List.Elements.{filter_more}
use Rattle.std.proofs.lemmas.List.Kept.{AllPairs-filter}
use Rattle.std.proofs.lemmas.List.Sorted.{Contains-permutation, IsPermutation-sym, ranks_by, sorted_far}
use Rattle.lrpar_parse_repair.specs.PlainSteps.{plain_step}
use Rattle.lrpar_parse_repair.specs.Sequences.{PlainStep, PlainInsert, PlainDelete, PlainShift}
use Rattle.lrpar_parse_cpctplus.specs.Graph.{PlainLink}
use Rattle.lrpar_parse_cpctplus.specs.LinkView.{AreInStepOrder, AreRows, AreWithin, comes_before, froms_by_to, links_by_from, plain_link, step_rank}
use Rattle.lrpar_parse_cpctplus.specs.NodesView.{row_of}
use Rattle.lrpar_parse_cpctplus.specs.Order.{IsStepBefore}
use Rattle.lrpar_parse_cpctplus.specs.Rests.{AreByNodes, DifferInSteps}
use Rattle.lrpar_parse_cpctplus.specs.declared.link.Link.{Link}
use Rattle.lrpar_parse_cpctplus.proofs.FirstLemmas.{all_members, image_in, in_image, members_all, pairs_between}
use Rattle.lrpar_parse_cpctplus.proofs.MemberLemmas.{IsIn, contained, is_in}
use Rattle.lrpar_parse_cpctplus.proofs.OrderLemmas.{pairs_map, pairs_mapped, stable_pairs}
use Rattle.lrpar_parse_cpctplus.proofs.TakenLemmas.{in_passes, passes_in}

-- the order of numbers as a test
less_by_order : (m n : ℕ) (r : Ordering) → r ≡ nat_cmp m n → is_lt r ≡ nat_lt m n
less_by_order m n r e =
    let fact : is_lt (nat_cmp m n) ≡ nat_lt m n =
    cond_both (nat_lt m n) Less (cond (m == n) Equal Greater) (λ (o : Ordering). is_lt o ≡ nat_lt m n) (λ less. sym less)
    (λ more. cond_both (m == n) Equal Greater (λ (o : Ordering). is_lt o ≡ nat_lt m n) (λ same. sym more) (λ above. sym more)) in
    ap is_lt e ∙ fact

module _ {A : Type 0} where
  -- empty rows
  pub rows_empty : (end : ℕ) (rows : List (Vec A Global)) → length rows ≡ end + 1 → All (λ (row : Vec A Global). row.items ≡ []) rows → AreRows end (λ u. []) rows
  rows_empty end rows long all = record { len = long; each = λ u d within. all u d (omega (arith, long, within)) }

  -- one more thing in a row
  pub rows_push : (end : ℕ) (f h : ℕ → List A) (rows : List (Vec A Global)) (u : ℕ) (row more : Vec A Global) (x : A) → AreRows end f rows → u ≤ end
      → row ≡ get_or rows u row → more.items ≡ row.items ++ x ∷ [] → h u ≡ f u ++ x ∷ [] → ((v : ℕ) → v ≢ u → h v ≡ f v) → AreRows end h (set rows u more)
  rows_push end f h rows u row more x before within read pushed here others = record {
    len = length-set rows u more ∙ before.len;
    each = λ v d inside.
        let below : u < length rows = omega (arith, before.len, within) in
        elim (cases_eq v u) as (λ _. (get_or (set rows u more) v d).items ≡ h v) [
          | inl same ↦
              let was : row.items ≡ f u = ap (λ (w : Vec A Global). w.items) read ∙ before.each u row within in
              let now : (get_or (set rows u more) u d).items ≡ h u =
              ap (λ (w : Vec A Global). w.items) (get_or-set_same rows u more d below) ∙ pushed ∙ ap (λ (l : List A). l ++ x ∷ []) was ∙ sym here in
              subst (λ (n : ℕ). (get_or (set rows u more) n d).items ≡ h n) (sym same) now
          | inr other ↦ ap (λ (w : Vec A Global). w.items) (get_or-set_other rows u v more d other) ∙ before.each v d inside ∙ sym (others v other)
        ];
  }

  row_at : (P : List A → Type 0) (rows : List (Vec A Global)) (u : ℕ) → u < length rows → ((d : Vec A Global) → P (get_or rows u d).items)
      → P (row_of (slice_get rows u))
  row_at P [] u below h = absurd (omega (arith, below))
  row_at P (row ∷ rows) zero below h = h row
  row_at P (row ∷ rows) (suc u) below h = row_at P rows u (omega (arith, below)) h

  row_past : (rows : List (Vec A Global)) (u : ℕ) → length rows ≤ u → row_of (slice_get rows u) ≡ []
  row_past [] u past = refl
  row_past (row ∷ rows) zero past = absurd (omega (arith, past))
  row_past (row ∷ rows) (suc u) past = row_past rows u (omega (arith, past))

  -- what a row has
  pub row_is : (end : ℕ) (f : ℕ → List A) (rows : List (Vec A Global)) → AreRows end f rows → ((u : ℕ) → end < u → f u ≡ []) → (u : ℕ)
      → row_of (slice_get rows u) ≡ f u
  row_is end f rows h none u =
      elim (cases_lt end u) as (λ _. row_of (slice_get rows u) ≡ f u) [
        | inl past ↦ row_past rows u (omega (arith, h.len, past)) ∙ sym (none u past)
        | inr within ↦ row_at (λ (l : List A). l ≡ f u) rows u (omega (arith, h.len, within)) (λ d. h.each u d (omega (arith, within)))
      ]

  -- one more element that passes a test, or doesn't
  pub kept_more : (p : A → Bool) (xs : List A) (i : ℕ) (x : A) → i < length xs → x ≡ get_or xs i x → p x ≡ true
      → filter p (take (i + 1) xs) ≡ filter p (take i xs) ++ x ∷ []
  kept_more p xs i x below read passes =
      filter_more p xs i x below
      ∙ ap (λ (y : A). filter p (take i xs) ++ cond (p y) (y ∷ []) []) (sym read)
      ∙ ap (λ (b : Bool). filter p (take i xs) ++ cond b (x ∷ []) []) passes

  pub kept_same : (p : A → Bool) (xs : List A) (i : ℕ) (x : A) → i < length xs → x ≡ get_or xs i x → p x ≡ false
      → filter p (take (i + 1) xs) ≡ filter p (take i xs)
  kept_same p xs i x below read fails =
      filter_more p xs i x below
      ∙ ap (λ (y : A). filter p (take i xs) ++ cond (p y) (y ∷ []) []) (sym read)
      ∙ ap (λ (b : Bool). filter p (take i xs) ++ cond b (x ∷ []) []) fails
      ∙ append-nil (filter p (take i xs))

  -- no element passes
  pub none_kept : (p : A → Bool) (xs : List A) → ((x : A) → IsIn x xs → p x ≡ false) → filter p xs ≡ []
  none_kept p [] none = refl
  none_kept p (x ∷ xs) none =
      ap (λ (b : Bool). cond b (x ∷ filter p xs) (filter p xs)) (none x (inl refl)) ∙ none_kept p xs (λ y m. none y (inr m))

module _ {S : Type 0} (end : ℕ) (links : List (Link S)) (i : ℕ) (link : Link S) (below : i < length links) (read : link ≡ get_or links i link) (within : AreWithin end links) where
  pub link_within : (link.from ≤ end) × (link.to ≤ end)
  link_within = subst (λ (l : Link S). (l.from ≤ end) × (l.to ≤ end)) (sym read) (within i link below)

  -- one link more
  pub from_more : (rows : List (Vec (Link S) Global)) (row more : Vec (Link S) Global) → AreRows end (links_by_from (take i links)) rows
      → row ≡ get_or rows link.from row → more.items ≡ row.items ++ link ∷ [] → AreRows end (links_by_from (take (i + 1) links)) (set rows link.from more)
  from_more rows row more h got pushed =
      rows_push end (links_by_from (take i links)) (links_by_from (take (i + 1) links)) rows link.from row more link h link_within.0 got pushed
      (kept_more (λ (l : Link S). l.from == link.from) links i link below read (eq-eqb link.from link.from refl))
      (λ v other. kept_same (λ (l : Link S). l.from == v) links i link below read (ne_eqb link.from v (λ e. other (sym e))))

  pub to_more : (rows : List (Vec ℕ Global)) (row more : Vec ℕ Global) → AreRows end (froms_by_to (take i links)) rows
      → row ≡ get_or rows link.to row → more.items ≡ row.items ++ link.from ∷ [] → AreRows end (froms_by_to (take (i + 1) links)) (set rows link.to more)
  to_more rows row more h got pushed =
      rows_push end (froms_by_to (take i links)) (froms_by_to (take (i + 1) links)) rows link.to row more link.from h link_within.1 got pushed
      (ap (λ (l : List (Link S)). map (λ (y : Link S). y.from) l)
      (kept_more (λ (l : Link S). l.to == link.to) links i link below read (eq-eqb link.to link.to refl))
      ∙ map-append (λ (y : Link S). y.from) (filter (λ (l : Link S). l.to == link.to) (take i links)) (link ∷ []))
      (λ v other. ap (λ (l : List (Link S)). map (λ (y : Link S). y.from) l)
      (kept_same (λ (l : Link S). l.to == v) links i link below read (ne_eqb link.to v (λ e. other (sym e)))))

-- the order of steps
abbrev rank_cmp : ℕ × ℕ → ℕ × ℕ → Ordering
rank_cmp x y = ordering_then (nat_cmp x.0 y.0) (nat_cmp x.1 y.1)

rank_total : IsTotalOrder rank_cmp
rank_total = then_total (on_total (λ (x : ℕ × ℕ). x.0) nat_cmp_total) (on_total (λ (x : ℕ × ℕ). x.1) nat_cmp_total)

pub steps_order : {S : Type 0} (index : S → ℕ) → IsStrictWeakOrder (comes_before index)
steps_order {S} index = ranks_by rank_total (λ (link : Link S). step_rank (plain_step index link.step))

true_not_false : ¬ (true ≡ false)
true_not_false e = cc

step_rises : (x y : PlainStep) → is_lt (rank_cmp (step_rank y) (step_rank x)) ≡ false → x ≢ y → IsStepBefore x y
step_rises (PlainInsert t) (PlainInsert u) h apart =
    let above = ltb-false u t (sym (less_by_order u t (nat_cmp u t) refl) ∙ h) in
    let other : t ≢ u = λ e. apart (ap PlainInsert e) in
    omega (arith, above, other)
step_rises (PlainInsert t) PlainDelete h apart = tt
step_rises (PlainInsert t) PlainShift h apart = tt
step_rises PlainDelete (PlainInsert u) h apart = absurd (true_not_false h)
step_rises PlainDelete PlainDelete h apart = absurd (apart refl)
step_rises PlainDelete PlainShift h apart = tt
step_rises PlainShift (PlainInsert u) h apart = absurd (true_not_false h)
step_rises PlainShift PlainDelete h apart = absurd (true_not_false h)
step_rises PlainShift PlainShift h apart = absurd (apart refl)

module _ {S : Type 0} (index : S → ℕ) where
  abbrev plain_of : Link S → PlainStep
  plain_of link = plain_step index link.step

  same_tie : (x y : Link S) → plain_of x ≡ plain_of y → ties (comes_before index) x y ≡ true
  same_tie x y same =
      let itself : (z : PlainStep) → is_lt (rank_cmp (step_rank z) (step_rank z)) ≡ false = λ z. ap is_lt (tied_itself rank_total (step_rank z)) in
      let one : comes_before index x y ≡ false = subst (λ (z : PlainStep). is_lt (rank_cmp (step_rank (plain_of x)) (step_rank z)) ≡ false) same (itself (plain_of x)) in
      let other : comes_before index y x ≡ false = subst (λ (z : PlainStep). is_lt (rank_cmp (step_rank z) (step_rank (plain_of x))) ≡ false) same (itself (plain_of x)) in
      ap₂ (λ (a b : Bool). not a && not b) one other

  module _ (links sorted : List (Link S)) (order : AreInStepOrder index links sorted) where
    -- links from one node are in the order of their steps, if these differ
    sorted_rise : DifferInSteps (map (plain_link index) links) → AllPairs (λ x y. x.from ≡ y.from → IsStepBefore (plain_of x) (plain_of y)) sorted
    sorted_rise differ i j d less within from =
        let Differ : Link S → Link S → Type 0 = λ x y. x.from ≡ y.from → plain_of x ≢ plain_of y in
        let apart = stable_pairs Differ (comes_before index) (λ x. same_tie x x refl) links sorted
        (pairs_mapped (λ x y. x.from ≡ y.from → x.step ≢ y.step) (plain_link index) links differ) order.stable in
        let x = get_or sorted i d in
        let y = get_or sorted j d in
        let below = sorted_far (comes_before index) (steps_order index) sorted order.rising i j d (omega (arith, less)) within in
        step_rises (plain_of x) (plain_of y) below (λ same. apart i j d less within (same_tie x y same) from same)

    in_sorted : (link : Link S) → IsIn link links → IsIn link sorted
    in_sorted link m = is_in link sorted (Contains-permutation links sorted link order.same (contained link links m))

    sorted_in : (link : Link S) → IsIn link sorted → IsIn link links
    sorted_in link m = is_in link links (Contains-permutation sorted links link (IsPermutation-sym links sorted order.same) (contained link sorted m))

    module _ (end : ℕ) (within : AreWithin end links) where
      link_in : (link : Link S) → IsIn link sorted → (link.from ≤ end) × (link.to ≤ end)
      link_in link m = all_members (λ (l : Link S). (l.from ≤ end) × (l.to ≤ end)) links within link (sorted_in link m)

      pub sorted_within : AreWithin end sorted
      sorted_within = members_all (λ (l : Link S). (l.from ≤ end) × (l.to ≤ end)) sorted link_in

      no_from : (u : ℕ) → end < u → links_by_from sorted u ≡ []
      no_from u past =
          none_kept (λ (l : Link S). l.from == u) sorted (λ link m.
          ne_eqb link.from u (λ e. omega (arith, past, (link_in link m).0, e)))

      no_to : (u : ℕ) → end < u → froms_by_to sorted u ≡ []
      no_to u past =
          ap (λ (l : List (Link S)). map (λ (y : Link S). y.from) l) (none_kept (λ (l : Link S). l.to == u) sorted (λ link m.
          ne_eqb link.to u (λ e. omega (arith, past, (link_in link m).1, e))))

      module _ (out : List (Vec (Link S) Global)) (rows : AreRows end (links_by_from sorted) out) where
        of_row : (u : ℕ) (link : PlainLink) → IsIn link (map (plain_link index) (row_of (slice_get out u)))
            → (l : Link S) × (link ≡ plain_link index l) × IsIn l sorted × (l.from ≡ u)
        of_row u link m =
            let here = subst (λ (l : List (Link S)). IsIn link (map (plain_link index) l)) (row_is end (links_by_from sorted) out rows no_from u) m in
            let from = in_image (plain_link index) (links_by_from sorted u) link here in
            let passes = passes_in (λ (l : Link S). l.from == u) sorted from.0 from.2 in
            (from.0, from.1, passes.0, eqb-true from.0.from u passes.1)

        in_row : (u : ℕ) (l : Link S) → IsIn l sorted → l.from ≡ u → IsIn (plain_link index l) (map (plain_link index) (row_of (slice_get out u)))
        in_row u l m from =
            subst (λ (ls : List (Link S)). IsIn (plain_link index l) (map (plain_link index) ls)) (sym (row_is end (links_by_from sorted) out rows no_from u))
            (image_in (plain_link index) (links_by_from sorted u) l (in_passes (λ (y : Link S). y.from == u) sorted l m (eq-eqb l.from u from)))

        pub are_by_nodes : AreByNodes (map (plain_link index) links) (λ u. map (plain_link index) (row_of (slice_get out u)))
        are_by_nodes = record {
          exact = λ u link. (
            (λ c.
                let of = of_row u link (is_in link (map (plain_link index) (row_of (slice_get out u))) c) in
                let there = image_in (plain_link index) links of.0 (sorted_in of.0 of.2) in (
                  contained link (map (plain_link index) links) (subst (λ (l : PlainLink). IsIn l (map (plain_link index) links)) (sym of.1) there),
                  ap (λ (l : PlainLink). l.from) of.1 ∙ of.3,
                )),
            (λ c.
                let of = in_image (plain_link index) links link (is_in link (map (plain_link index) links) c.0) in
                let from : of.0.from ≡ u = ap (λ (l : PlainLink). l.from) (sym of.1) ∙ c.1 in
                contained link (map (plain_link index) (row_of (slice_get out u)))
                (subst (λ (l : PlainLink). IsIn l (map (plain_link index) (row_of (slice_get out u)))) (sym of.1) (in_row u of.0 (in_sorted of.0 of.2) from))),
          );
          rising = λ differ u.
              let kept = links_by_from sorted u in
              let Rise : Link S → Link S → Type 0 = λ x y. x.from ≡ y.from → IsStepBefore (plain_of x) (plain_of y) in
              let rise = pairs_between Rise (λ x y. IsStepBefore (plain_of x) (plain_of y)) kept
              (AllPairs-filter Rise (λ (l : Link S). l.from == u) sorted (sorted_rise differ))
              (λ x y m n before.
              let one = eqb-true x.from u (passes_in (λ (l : Link S). l.from == u) sorted x m).1 in
              let other = eqb-true y.from u (passes_in (λ (l : Link S). l.from == u) sorted y n).1 in
              before (one ∙ sym other)) in
              subst (λ (l : List (Link S)). AllPairs (λ one other. IsStepBefore one.step other.step) (map (plain_link index) l))
              (sym (row_is end (links_by_from sorted) out rows no_from u))
              (pairs_map (λ (one other : PlainLink). IsStepBefore one.step other.step) (plain_link index) kept rise);
        }

        pub lead_back : (into : List (Vec ℕ Global)) → AreRows end (froms_by_to sorted) into → (u : ℕ) (link : PlainLink)
            → Contains (map (plain_link index) (row_of (slice_get out u))) link → Contains (row_of (slice_get into link.to)) u
        lead_back into back u link c =
            let of = of_row u link (is_in link (map (plain_link index) (row_of (slice_get out u))) c) in
            let to : of.0.to ≡ link.to = ap (λ (l : PlainLink). l.to) (sym of.1) in
            let there = image_in (λ (l : Link S). l.from) (filter (λ (l : Link S). l.to == link.to) sorted) of.0
            (in_passes (λ (l : Link S). l.to == link.to) sorted of.0 of.2 (eq-eqb of.0.to link.to to)) in
            let here = subst (λ (n : ℕ). IsIn n (froms_by_to sorted link.to)) of.3 there in
            contained u (row_of (slice_get into link.to))
            (subst (λ (l : List ℕ). IsIn u l) (sym (row_is end (froms_by_to sorted) into back no_to link.to)) here)
