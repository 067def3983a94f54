-- Cores with the runs of their lookaheads, and the items that these are.
use Rattle.std.proofs.Common.{◌≡◌, ◌<◌, ◌≤◌, ◌+◌, ◌++◌, ◌↔◌, ◌∙◌, ℕ, zero, suc, List, [], ◌∷◌, All, drop, length, map, set, slice_index_or, subst, ap, refl, sym, arith, inl, inr, Result, Ok, Err, IfOk}
use Rattle.std.specs.List.{AllByRecursion, AllZip, Contains}
use Rattle.std.specs.List.Sorted.{IsStrictlySortedBy}
use Rattle.std.specs.Ordering.{nat_cmp, ordering_then}
use Rattle.std.specs.declared.cmp.Ordering.{Ordering}
use Rattle.std.specs.declared.cmp.Ordering.TheVariants.{Less, Equal}
use Rattle.std.specs.declared.vec.Vec.{Vec}
use Rattle.std.proofs.lemmas.Cmp.{nat_cmp_total, tied_itself}
use Rattle.std.proofs.lemmas.List.{append-nil, append_assoc, drop_all, length-map, map-append}
use Rattle.std.proofs.lemmas.List.Elements.{Contains-append_cases, Contains-append_left, Contains-append_right, Contains-push, Contains-push_cases, recursion_from_All, All-head, All-push, All-tail, length_all_zip}
use Rattle.lrpar_grammar_places.specs.declared.span.PIdx.{PIdx}
use Rattle.lrpar_grammar_places.specs.declared.span.TIdx.{TIdx}
use Rattle.lrpar_table_rows.specs.Ascending.{HaveSame, IsOnlyIndex}
use Rattle.lrpar_table_rows.specs.Graph.{ItemOf, core_cmp, item_at, item_cmp}
use Rattle.lrpar_table_rows.specs.PlainItems.{AreCoresOf, core_of, item_of}
use Rattle.lrpar_table_rows.specs.Runs.{core_items, items_left, items_of_rows, run_items, tokens_of, with_core}
use Rattle.lrpar_table_rows.proofs.ItemLemmas.{Contains-image, Contains-preimage, HaveSame-map, item_by_numbers, sorted_image}

-- nothing is in an empty list
none_in : {X : Type 0} (x : X) → Contains [] x → ⊥
none_in x h = omega (arith, h.1)

-- with one more first element
one_more : {X : Type 0} (y : X) (xs : List X) (x : X) → Contains xs x → Contains (y ∷ xs) x
one_more y xs x h = (suc h.0, omega (arith, h.1), h.2)

-- lists with the same elements, joined
pub same_append : {X : Type 0} (xs ys us vs : List X) → HaveSame xs ys → HaveSame us vs → HaveSame (xs ++ us) (ys ++ vs)
same_append xs ys us vs same other x = (
  λ h.
      elim (Contains-append_cases xs us x h) as (λ _. Contains (ys ++ vs) x) [
        | inl here ↦ Contains-append_left ys vs x ((same x).0 here)
        | inr there ↦ Contains-append_right ys vs x ((other x).0 there)
      ],
  λ h.
      elim (Contains-append_cases ys vs x h) as (λ _. Contains (xs ++ us) x) [
        | inl here ↦ Contains-append_left xs us x ((same x).1 here)
        | inr there ↦ Contains-append_right xs us x ((other x).1 there)
      ],
)

pub same_self : {X : Type 0} (xs : List X) → HaveSame xs xs
same_self xs x = (λ h. h, λ h. h)

pub same_trans : {X : Type 0} (xs ys zs : List X) → HaveSame xs ys → HaveSame ys zs → HaveSame xs zs
same_trans xs ys zs first second x = (λ h. (second x).0 ((first x).0 h), λ h. (first x).1 ((second x).1 h))

-- the last two parts of a list in the other order
same_swapped : {X : Type 0} (xs ys zs : List X) → HaveSame ((xs ++ ys) ++ zs) ((xs ++ zs) ++ ys)
same_swapped {X} xs ys zs =
    let one = swapped xs ys zs in
    let other = swapped xs zs ys in
    λ x. (one x, other x)
  where
    swapped : (ps qs rs : List X) (x : X) → Contains ((ps ++ qs) ++ rs) x → Contains ((ps ++ rs) ++ qs) x
    swapped ps qs rs x h =
        elim (Contains-append_cases (ps ++ qs) rs x h) as (λ _. Contains ((ps ++ rs) ++ qs) x) [
          | inl front ↦
              elim (Contains-append_cases ps qs x front) as (λ _. Contains ((ps ++ rs) ++ qs) x) [
                | inl first ↦ Contains-append_left (ps ++ rs) qs x (Contains-append_left ps rs x first)
                | inr second ↦ Contains-append_right (ps ++ rs) qs x second
              ]
          | inr last ↦ Contains-append_left (ps ++ rs) qs x (Contains-append_right ps rs x last)
        ]

-- an item of a core has this core, and one of its lookaheads
record IsItemOf {S : Type 0} (core : PIdx S × ℕ) (tokens : List (TIdx S)) (p : PIdx S) (k : ℕ) (t : TIdx S) : Type 0 where
  pub is : core ≡ (p, k)
  pub among : Contains tokens t

item_of_core : {S : Type 0} (core : PIdx S × ℕ) (tokens : List (TIdx S)) (p : PIdx S) (k : ℕ) (t : TIdx S)
    → Contains (core_items core tokens) (p, k, t) → IsItemOf core tokens p k t
item_of_core {S} core tokens p k t h =
    let u = Contains-preimage (with_core core) tokens (p, k, t) h in
    let prod : core.0 ≡ p = ap (λ (x : PIdx S × ℕ × TIdx S). x.0) u.2 in
    let dot : core.1 ≡ k = ap (λ (x : PIdx S × ℕ × TIdx S). x.1) u.2 in
    let token : u.0 ≡ t = ap (λ (x : PIdx S × ℕ × TIdx S). x.2) u.2 in
    record { is = let both : (core.0, core.1) ≡ (p, k) = cc in both; among = subst (Contains tokens) token u.1 }

core_of_item : {S : Type 0} (core : PIdx S × ℕ) (tokens : List (TIdx S)) (p : PIdx S) (k : ℕ) (t : TIdx S) → core ≡ (p, k)
    → Contains tokens t → Contains (core_items core tokens) (p, k, t)
core_of_item {S} core tokens p k t is h =
    subst (λ (c : PIdx S × ℕ). Contains (core_items core tokens) (c.0, c.1, t)) is
    (Contains-image (with_core core) tokens t h)

-- an item's core is one of the cores
pub core_from_items : {S : Type 0} (cores : List (PIdx S × ℕ)) (runs : List (List (TIdx S))) (p : PIdx S) (k : ℕ) (t : TIdx S)
    → Contains (run_items cores runs) (p, k, t) → Contains cores (p, k)
core_from_items [] runs p k t h = absurd (omega (arith, h.1))
core_from_items (core ∷ cores) [] p k t h = absurd (omega (arith, h.1))
core_from_items (core ∷ cores) (run ∷ runs) p k t h =
    elim (Contains-append_cases (core_items core run) (run_items cores runs) (p, k, t) h) as (λ _. Contains (core ∷ cores) (p, k)) [
      | inl here ↦ (0, omega arith, (item_of_core core run p k t here).is)
      | inr later ↦ one_more core cores (p, k) (core_from_items cores runs p k t later)
    ]

-- an item's lookahead is in the run of its core, if the core is at one place alone
run_has : {S : Type 0} (cores : List (PIdx S × ℕ)) (runs : List (List (TIdx S))) (place : ℕ) (p : PIdx S) (k : ℕ) (t : TIdx S)
    → ((i : ℕ) → i < length cores → slice_index_or cores i (p, k) ≡ (p, k) → i ≡ place)
    → Contains (run_items cores runs) (p, k, t) → Contains (slice_index_or runs place []) t
run_has [] runs place p k t only h = absurd (omega (arith, h.1))
run_has (core ∷ cores) [] place p k t only h = absurd (omega (arith, h.1))
run_has (core ∷ cores) (run ∷ runs) zero p k t only h =
    elim (Contains-append_cases (core_items core run) (run_items cores runs) (p, k, t) h) as (λ _. Contains run t) [
      | inl here ↦ (item_of_core core run p k t here).among
      | inr later ↦
          let at = core_from_items cores runs p k t later in
          let no : suc at.0 ≡ 0 = only (suc at.0) (omega (arith, at.1)) at.2 in absurd (omega (arith, no))
    ]
run_has (core ∷ cores) (run ∷ runs) (suc place) p k t only h =
    elim (Contains-append_cases (core_items core run) (run_items cores runs) (p, k, t) h) as (λ _. Contains (slice_index_or runs place []) t) [
      | inl here ↦ let no : 0 ≡ suc place = only 0 (omega arith) (item_of_core core run p k t here).is in absurd (omega (arith, no))
      | inr later ↦
          run_has cores runs place p k t (λ i below is. let next = only (suc i) (omega (arith, below)) is in omega (arith, next)) later
    ]

-- conversely, at any place of the core
has_run : {S : Type 0} (cores : List (PIdx S × ℕ)) (runs : List (List (TIdx S))) (place : ℕ) (p : PIdx S) (k : ℕ) (t : TIdx S)
    → place < length cores → slice_index_or cores place (p, k) ≡ (p, k) → Contains (slice_index_or runs place []) t
    → Contains (run_items cores runs) (p, k, t)
has_run [] runs place p k t below is h = absurd (omega (arith, below))
has_run (core ∷ cores) [] place p k t below is h = absurd (omega (arith, h.1))
has_run (core ∷ cores) (run ∷ runs) zero p k t below is h = Contains-append_left (core_items core run) (run_items cores runs) (p, k, t) (core_of_item core run p k t is h)
has_run (core ∷ cores) (run ∷ runs) (suc place) p k t below is h =
    Contains-append_right (core_items core run) (run_items cores runs) (p, k, t) (has_run cores runs place p k t (omega (arith, below)) is h)

-- the lookaheads of a core that is at one place are its run there
pub run_at : {S : Type 0} (cores : List (PIdx S × ℕ)) (runs : List (List (TIdx S))) (place : ℕ) (p : PIdx S) (k : ℕ) (t : TIdx S)
    → IsOnlyIndex cores (p, k) place → Contains (slice_index_or runs place []) t ↔ Contains (run_items cores runs) (p, k, t)
run_at cores runs place p k t at = (has_run cores runs place p k t at.within at.is, run_has cores runs place p k t at.only)

-- the same by numbers
module _ {S : Type 0} (index : S → ℕ) (exact : (x y : S) → index x ≡ index y → x ≡ y) (cores : List (PIdx S × ℕ)) (runs : List (List (TIdx S))) (p : PIdx S) (k : ℕ) where
  pub lookaheads_by_numbers : (run : List (TIdx S)) → ((t : TIdx S) → Contains run t ↔ Contains (run_items cores runs) (p, k, t)) → (t : ℕ)
      → Contains (map (λ (token : TIdx S). index token.0) run) t ↔ Contains (map (item_of index) (run_items cores runs)) (item_at (index p.0) k t)
  lookaheads_by_numbers run same t = (
    λ h.
        let u = Contains-preimage (λ (token : TIdx S). index token.0) run t h in
        let has = (item_by_numbers index exact (run_items cores runs) p k u.0).0 ((same u.0).0 u.1) in
        subst (λ (n : ℕ). Contains (map (item_of index) (run_items cores runs)) (item_at (index p.0) k n)) u.2 has,
    λ h.
        let x = Contains-preimage (item_of index) (run_items cores runs) (item_at (index p.0) k t) h in
        let token : index x.0.2.0 ≡ t = ap (λ (i : ItemOf). i.token) x.2 in
        let there = subst (λ (n : ℕ). Contains (map (item_of index) (run_items cores runs)) (item_at (index p.0) k n)) (sym token) h in
        let has = (same x.0.2).1 ((item_by_numbers index exact (run_items cores runs) p k x.0.2).1 there) in
        subst (Contains (map (λ (u : TIdx S). index u.0) run)) token (Contains-image (λ (u : TIdx S). index u.0) run x.0.2 has),
  )

  -- a core that isn't among the cores has no lookaheads
  pub no_lookaheads : ¬ (Contains cores (p, k)) → (t : TIdx S) → Contains [] t ↔ Contains (run_items cores runs) (p, k, t)
  no_lookaheads none t = (λ h. absurd (none_in t h), λ h. absurd (none (core_from_items cores runs p k t h)))

-- lookaheads that are added to a run add their items
put_at : {S Z : Type 0} (cores : List (PIdx S × ℕ)) (runs : List (Vec (TIdx S) Z)) (place : ℕ) (core : PIdx S × ℕ) (new d : Vec (TIdx S) Z) (tokens : List (TIdx S))
    → length runs ≡ length cores → place < length cores → slice_index_or cores place core ≡ core → new.items ≡ (slice_index_or runs place d).items ++ tokens
    → HaveSame (run_items cores (tokens_of (set runs place new))) (run_items cores (tokens_of runs) ++ core_items core tokens)
put_at [] runs place core new d tokens paired below is grown = absurd (omega (arith, below))
put_at (c ∷ cores) [] place core new d tokens paired below is grown = absurd (omega (arith, paired))
put_at {S} (c ∷ cores) (run ∷ runs) zero core new d tokens paired below is grown =
    let rest = run_items cores (tokens_of runs) in
    let f = with_core c in
    let items : core_items c new.items ≡ core_items c run.items ++ core_items core tokens =
    ap (core_items c) grown ∙ map-append f run.items tokens ∙ ap (λ (x : PIdx S × ℕ). core_items c run.items ++ core_items x tokens) is in
    subst (λ (xs : List (PIdx S × ℕ × TIdx S)). HaveSame (xs ++ rest) ((core_items c run.items ++ rest) ++ core_items core tokens)) (sym items)
    (same_swapped (core_items c run.items) (core_items core tokens) rest)
put_at {S} (c ∷ cores) (run ∷ runs) (suc place) core new d tokens paired below is grown =
    let rest = run_items cores (tokens_of runs) in
    let more = core_items core tokens in
    let later = put_at cores runs place core new d tokens (omega (arith, paired)) (omega (arith, below)) is grown in
    subst (HaveSame (core_items c run.items ++ run_items cores (tokens_of (set runs place new)))) (sym (append_assoc (core_items c run.items) rest more))
    (same_append (core_items c run.items) (core_items c run.items) (run_items cores (tokens_of (set runs place new))) (rest ++ more) (same_self (core_items c run.items)) later)

pub put_same : {S Z : Type 0} (cores : List (PIdx S × ℕ)) (runs : List (Vec (TIdx S) Z)) (place : ℕ) (core : PIdx S × ℕ) (new d : Vec (TIdx S) Z) (tokens : List (TIdx S))
    → length runs ≡ length cores → IsOnlyIndex cores core place → new.items ≡ (slice_index_or runs place d).items ++ tokens
    → HaveSame (run_items cores (tokens_of (set runs place new))) (run_items cores (tokens_of runs) ++ core_items core tokens)
put_same cores runs place core new d tokens paired at grown = put_at cores runs place core new d tokens paired at.within at.is grown

-- no lookaheads add no items
pub put_none : {S : Type 0} (items : List (PIdx S × ℕ × TIdx S)) (core : PIdx S × ℕ) (tokens : List (TIdx S)) → ¬ (0 < length tokens)
    → HaveSame items (items ++ core_items core tokens)
put_none {S} items core [] none = subst (HaveSame items) (sym (append-nil items)) (same_self items)
put_none items core (t ∷ ts) none = absurd (none (omega arith))

-- one more empty run
pub empty_more : {S Z : Type 0} (runs : List (Vec (TIdx S) Z)) (run : Vec (TIdx S) Z) → All (λ (r : Vec (TIdx S) Z). r.items ≡ []) runs → run.items ≡ []
    → All (λ (r : Vec (TIdx S) Z). r.items ≡ []) (runs ++ run ∷ [])
empty_more {S} {Z} runs run all none = All-push (λ (r : Vec (TIdx S) Z). r.items ≡ []) runs run all none

-- empty runs have no items
pub empty_runs : {S Z : Type 0} (cores : List (PIdx S × ℕ)) (runs : List (Vec (TIdx S) Z)) → All (λ (run : Vec (TIdx S) Z). run.items ≡ []) runs
    → (x : PIdx S × ℕ × TIdx S) → ¬ (Contains (run_items cores (tokens_of runs)) x)
empty_runs [] runs none x h = none_in x h
empty_runs (core ∷ cores) [] none x h = none_in x h
empty_runs {S} {Z} (core ∷ cores) (run ∷ runs) none x h =
    let Empty : Vec (TIdx S) Z → Type 0 = λ r. r.items ≡ [] in
    elim (Contains-append_cases (core_items core run.items) (run_items cores (tokens_of runs)) x h) as (λ _. ⊥) [
      | inl here ↦ none_in x (subst (λ (ts : List (TIdx S)). Contains (core_items core ts) x) (All-head Empty run runs none) here)
      | inr later ↦ empty_runs cores runs (All-tail Empty run runs none) x later
    ]

-- runs with the same lookaheads have the same items
pub same_runs : {S : Type 0} (cores : List (PIdx S × ℕ)) (xs ys : List (List (TIdx S))) → AllZip HaveSame xs ys → HaveSame (run_items cores xs) (run_items cores ys)
same_runs [] xs ys all = λ x. (λ h. h, λ h. h)
same_runs (core ∷ cores) [] [] all = λ x. (λ h. h, λ h. h)
same_runs (core ∷ cores) [] (y ∷ ys) all = absurd all
same_runs (core ∷ cores) (x ∷ xs) [] all = absurd all
same_runs {S} (core ∷ cores) (x ∷ xs) (y ∷ ys) all =
    same_append (core_items core x) (core_items core y) (run_items cores xs) (run_items cores ys)
    (HaveSame-map (with_core core) x y all.0) (same_runs cores xs ys all.1)

-- cores of items are those of any list with the same items
pub cores_of_same : {S : Type 0} (xs ys : List (PIdx S × ℕ × TIdx S)) (cores : List (PIdx S × ℕ)) → HaveSame xs ys → AreCoresOf ys cores → AreCoresOf xs cores
cores_of_same xs ys cores same are p k = (
  λ h. let t = (are p k).0 h in (t.0, (same (p, k, t.0)).1 t.1),
  λ h. (are p k).1 (h.0, (same (p, k, h.0)).0 h.1),
)

-- the core of an item is among the cores of the items
pub core_known : {S : Type 0} (items : List (PIdx S × ℕ × TIdx S)) (cores : List (PIdx S × ℕ)) → AreCoresOf items cores → (i : ℕ) (item : PIdx S × ℕ × TIdx S)
    → i < length items → item ≡ slice_index_or items i item → Contains cores (item.0, item.1)
core_known {S} items cores are i item below is = (are item.0 item.1).1 (item.2, (i, below, sym is))

-- a sorted list after another one whose elements all come before its own
sorted_append : {X : Type 0} (R : X → X → Ordering) (xs ys : List X) → IsStrictlySortedBy R xs → IsStrictlySortedBy R ys
    → AllByRecursion (λ x. AllByRecursion (λ y. R x y ≡ Less) ys) xs → IsStrictlySortedBy R (xs ++ ys)
unfolding IsStrictlySortedBy
sorted_append R [] ys first second before = second
sorted_append R (x ∷ xs) ys first second before = (all_append (λ y. R x y ≡ Less) xs ys first.0 before.0, sorted_append R xs ys first.1 second before.1)
  where
    all_append : {Y : Type 0} (P : Y → Type 0) (ps qs : List Y) → AllByRecursion P ps → AllByRecursion P qs → AllByRecursion P (ps ++ qs)
    all_append P [] qs h k = k
    all_append P (p ∷ ps) qs h k = (h.0, all_append P ps qs h.1 k)

-- one core with ascending lookaheads has ascending items
core_sorted : (p k : ℕ) (ts : List ℕ) → IsStrictlySortedBy nat_cmp ts → IsStrictlySortedBy item_cmp (map (item_at p k) ts)
core_sorted p k ts sorted =
    let prod : nat_cmp p p ≡ Equal = tied_itself nat_cmp_total p in
    let dot : nat_cmp k k ≡ Equal = tied_itself nat_cmp_total k in
    sorted_image nat_cmp item_cmp (item_at p k)
    (λ a b. sym (ap (λ (o : Ordering). ordering_then (ordering_then o (nat_cmp k k)) (nat_cmp a b)) prod
    ∙ ap (λ (o : Ordering). ordering_then (ordering_then Equal o) (nat_cmp a b)) dot))
    ts sorted

module _ {S : Type 0} (index : S → ℕ) where
  -- the items of a core by numbers
  core_numbers : (core : PIdx S × ℕ) (tokens : List (TIdx S)) → map (item_of index) (core_items core tokens) ≡ map (item_at (index core.0.0) core.1) (map (λ (token : TIdx S). index token.0) tokens)
  core_numbers core [] = refl
  core_numbers core (t ∷ ts) = ap (λ (xs : List ItemOf). item_at (index core.0.0) core.1 (index t.0) ∷ xs) (core_numbers core ts)

  -- a core before all cores comes before each of their items
  before_run : (core other : PIdx S × ℕ) (t : ℕ) (tokens : List (TIdx S)) → core_cmp (core_of index core) (core_of index other) ≡ Less
      → AllByRecursion (λ y. item_cmp (item_at (index core.0.0) core.1 t) y ≡ Less) (map (item_of index) (core_items other tokens))
  before_run core other t [] less = tt
  before_run core other t (u ∷ us) less =
      let first : ordering_then (core_cmp (core_of index core) (core_of index other)) (nat_cmp t (index u.0)) ≡ Less =
      ap (λ (o : Ordering). ordering_then o (nat_cmp t (index u.0))) less in
      (first, before_run core other t us less)

  before_items : (core : PIdx S × ℕ) (t : ℕ) (cores : List (PIdx S × ℕ)) (runs : List (List (TIdx S)))
      → AllByRecursion (λ c. core_cmp (core_of index core) c ≡ Less) (map (core_of index) cores)
      → AllByRecursion (λ y. item_cmp (item_at (index core.0.0) core.1 t) y ≡ Less) (map (item_of index) (run_items cores runs))
  before_items core t [] runs less = tt
  before_items core t (c ∷ cores) [] less = tt
  before_items core t (c ∷ cores) (run ∷ runs) less =
      subst (AllByRecursion (λ y. item_cmp (item_at (index core.0.0) core.1 t) y ≡ Less)) (sym (map-append (item_of index) (core_items c run) (run_items cores runs)))
      (both (λ y. item_cmp (item_at (index core.0.0) core.1 t) y ≡ Less) (map (item_of index) (core_items c run)) (map (item_of index) (run_items cores runs))
      (before_run core c t run less.0) (before_items core t cores runs less.1))
    where
      both : {Y : Type 0} (P : Y → Type 0) (ps qs : List Y) → AllByRecursion P ps → AllByRecursion P qs → AllByRecursion P (ps ++ qs)
      both P [] qs h k = k
      both P (p ∷ ps) qs h k = (h.0, both P ps qs h.1 k)

  each_before : (core : PIdx S × ℕ) (tokens : List (TIdx S)) (cores : List (PIdx S × ℕ)) (runs : List (List (TIdx S)))
      → AllByRecursion (λ c. core_cmp (core_of index core) c ≡ Less) (map (core_of index) cores)
      → AllByRecursion (λ x. AllByRecursion (λ y. item_cmp x y ≡ Less) (map (item_of index) (run_items cores runs))) (map (item_of index) (core_items core tokens))
  each_before core [] cores runs less = tt
  each_before core (t ∷ ts) cores runs less = (before_items core (index t.0) cores runs less, each_before core ts cores runs less)

  -- ascending cores with ascending runs have ascending items
  sorted_each : (cores : List (PIdx S × ℕ)) (runs : List (List (TIdx S))) → IsStrictlySortedBy core_cmp (map (core_of index) cores)
      → AllByRecursion (λ (run : List (TIdx S)). IsStrictlySortedBy nat_cmp (map (λ (token : TIdx S). index token.0) run)) runs
      → IsStrictlySortedBy item_cmp (map (item_of index) (run_items cores runs))
  unfolding IsStrictlySortedBy
  sorted_each [] runs order each = tt
  sorted_each (core ∷ cores) [] order each = tt
  sorted_each (core ∷ cores) (run ∷ runs) order each =
      subst (IsStrictlySortedBy item_cmp) (sym (map-append (item_of index) (core_items core run) (run_items cores runs)))
      (sorted_append item_cmp (map (item_of index) (core_items core run)) (map (item_of index) (run_items cores runs))
      (subst (IsStrictlySortedBy item_cmp) (sym (core_numbers core run)) (core_sorted (index core.0.0) core.1 (map (λ (token : TIdx S). index token.0) run) each.0))
      (sorted_each cores runs order.1 each.1) (each_before core run cores runs order.0))

  pub items_sorted : (cores : List (PIdx S × ℕ)) (runs : List (List (TIdx S))) → IsStrictlySortedBy core_cmp (map (core_of index) cores)
      → All (λ (run : List (TIdx S)). IsStrictlySortedBy nat_cmp (map (λ (token : TIdx S). index token.0) run)) runs → IsStrictlySortedBy item_cmp (map (item_of index) (run_items cores runs))
  items_sorted cores runs order each =
      sorted_each cores runs order (recursion_from_All (λ (run : List (TIdx S)). IsStrictlySortedBy nat_cmp (map (λ (token : TIdx S). index token.0) run)) runs each)

-- at the start all items are left
pub left_first : {S : Type 0} (cores : List (PIdx S × ℕ)) (runs : List (List (TIdx S))) → items_left cores runs 0 0 ≡ run_items cores runs
left_first [] runs = refl
left_first (core ∷ cores) [] = refl
left_first (core ∷ cores) (run ∷ runs) = refl

-- and after the last run none
pub left_none : {S : Type 0} (cores : List (PIdx S × ℕ)) (runs : List (List (TIdx S))) (place token : ℕ) → length runs ≤ place → items_left cores runs place token ≡ []
left_none [] runs place token past = refl
left_none (core ∷ cores) [] place token past = refl
left_none (core ∷ cores) (run ∷ runs) zero token past = absurd (omega (arith, past))
left_none (core ∷ cores) (run ∷ runs) (suc place) token past = left_none cores runs place token (omega (arith, past))

-- after the last lookahead of a run comes the next one
pub left_next : {S : Type 0} (cores : List (PIdx S × ℕ)) (runs : List (List (TIdx S))) (place token : ℕ) → length (slice_index_or runs place []) ≤ token
    → items_left cores runs place token ≡ items_left cores runs (place + 1) 0
left_next [] runs place token past = refl
left_next (core ∷ cores) [] place token past = refl
left_next {S} (core ∷ cores) (run ∷ runs) zero token past =
    ap (λ (ts : List (TIdx S)). core_items core ts ++ run_items cores runs) (drop_all token run past) ∙ sym (left_first cores runs)
left_next (core ∷ cores) (run ∷ runs) (suc place) token past =
    let same : suc place + 1 ≡ suc (place + 1) = omega arith in
    left_next cores runs place token past ∙ ap (λ n. items_left (core ∷ cores) (run ∷ runs) n 0) (sym same)

-- one item fewer
drop_one : {X : Type 0} (xs : List X) (i : ℕ) (x : X) → i < length xs → x ≡ slice_index_or xs i x → drop i xs ≡ x ∷ drop (i + 1) xs
drop_one [] i x below is = absurd (omega (arith, below))
drop_one {X} (y ∷ ys) zero x below is = ap (λ (z : X). z ∷ ys) (sym is)
drop_one {X} (y ∷ ys) (suc i) x below is =
    let same : suc i + 1 ≡ suc (i + 1) = omega arith in
    drop_one ys i x (omega (arith, below)) is ∙ ap (λ n. x ∷ drop n (y ∷ ys)) (sym same)

pub left_one : {S : Type 0} (cores : List (PIdx S × ℕ)) (runs : List (List (TIdx S))) (place token : ℕ) (core : PIdx S × ℕ) (t : TIdx S)
    → length runs ≡ length cores → place < length runs → token < length (slice_index_or runs place []) → core ≡ slice_index_or cores place core
    → t ≡ slice_index_or (slice_index_or runs place []) token t
    → items_left cores runs place token ≡ (core.0, core.1, t) ∷ items_left cores runs place (token + 1)
left_one [] runs place token core t paired below within is at = absurd (omega (arith, paired, below))
left_one (c ∷ cores) [] place token core t paired below within is at = absurd (omega (arith, below))
left_one {S} (c ∷ cores) (run ∷ runs) zero token core t paired below within is at =
    let first : (c.0, c.1, t) ≡ (core.0, core.1, t) = ap (λ (x : PIdx S × ℕ). with_core x t) (sym is) in
    ap (λ (ts : List (TIdx S)). core_items c ts ++ run_items cores runs) (drop_one run token t within at)
    ∙ ap (λ (x : PIdx S × ℕ × TIdx S). x ∷ (core_items c (drop (token + 1) run) ++ run_items cores runs)) first
left_one (c ∷ cores) (run ∷ runs) (suc place) token core t paired below within is at =
    left_one cores runs place token core t (omega (arith, paired)) (omega (arith, below)) within is at

-- one more row
pub row_more : {S Z : Type 0} (rows : List (PIdx S × ℕ × Vec (TIdx S) Z)) (row : PIdx S × ℕ × Vec (TIdx S) Z)
    → items_of_rows (rows ++ row ∷ []) ≡ items_of_rows rows ++ core_items (row.0, row.1) row.2.items
row_more [] row = append-nil (core_items (row.0, row.1) row.2.items)
row_more {S} (r ∷ rows) row =
    ap (λ (xs : List (PIdx S × ℕ × TIdx S)). core_items (r.0, r.1) r.2.items ++ xs) (row_more rows row)
    ∙ sym (append_assoc (core_items (r.0, r.1) r.2.items) (items_of_rows rows) (core_items (row.0, row.1) row.2.items))

-- a list that isn't empty has an element
some_in : {X : Type 0} (xs : List X) → 0 < length xs → (x : X) × Contains xs x
some_in [] some = absurd (omega arith)
some_in (x ∷ xs) some = (x, (0, omega arith, refl))

-- a row with lookaheads adds its core
pub cores_more : {S : Type 0} (items : List (PIdx S × ℕ × TIdx S)) (cores : List (PIdx S × ℕ)) (core : PIdx S × ℕ) (tokens : List (TIdx S))
    → AreCoresOf items cores → 0 < length tokens → AreCoresOf (items ++ core_items core tokens) (cores ++ core ∷ [])
cores_more {S} items cores core tokens are some p k = (
  λ h.
      elim (Contains-push_cases cores core (p, k) h) as (λ _. (t : TIdx S) × Contains (items ++ core_items core tokens) (p, k, t)) [
        | inl before ↦ let t = (are p k).0 before in (t.0, Contains-append_left items (core_items core tokens) (p, k, t.0) t.1)
        | inr is ↦
            let t = some_in tokens some in
            (t.0, Contains-append_right items (core_items core tokens) (p, k, t.0) (core_of_item core tokens p k t.0 is t.1))
      ],
  λ h.
      elim (Contains-append_cases items (core_items core tokens) (p, k, h.0) h.1) as (λ _. Contains (cores ++ core ∷ []) (p, k)) [
        | inl before ↦ Contains-append_left cores (core ∷ []) (p, k) ((are p k).1 (h.0, before))
        | inr now ↦ subst (Contains (cores ++ core ∷ [])) (item_of_core core tokens p k h.0 now).is (Contains-push cores core)
      ],
)

-- one without lookaheads adds none
pub cores_no_more : {S : Type 0} (items : List (PIdx S × ℕ × TIdx S)) (cores : List (PIdx S × ℕ)) (core : PIdx S × ℕ) (tokens : List (TIdx S))
    → AreCoresOf items cores → length tokens ≡ 0 → AreCoresOf (items ++ core_items core tokens) cores
cores_no_more items cores core [] are none = subst (λ xs. AreCoresOf xs cores) (sym (append-nil items)) are
cores_no_more items cores core (t ∷ ts) are none = absurd (omega (arith, none))

-- the core of a row with lookaheads is among the cores of the rows
pub row_known : {S Z : Type 0} (rows : List (PIdx S × ℕ × Vec (TIdx S) Z)) (cores : List (PIdx S × ℕ)) (i : ℕ) (row : PIdx S × ℕ × Vec (TIdx S) Z)
    → AreCoresOf (items_of_rows rows) cores → i < length rows → row ≡ slice_index_or rows i row → 0 < length row.2.items → Contains cores (row.0, row.1)
row_known {S} {Z} rows cores i row are below is some =
    let t = some_in row.2.items some in
    (are row.0 row.1).1 (t.0, among rows i below is t.0 t.1)
  where
    among : (rs : List (PIdx S × ℕ × Vec (TIdx S) Z)) (j : ℕ) → j < length rs → row ≡ slice_index_or rs j row → (t : TIdx S) → Contains row.2.items t
        → Contains (items_of_rows rs) (row.0, row.1, t)
    among [] j low at t h = absurd (omega (arith, low))
    among (r ∷ rs) zero low at t h =
        Contains-append_left (core_items (r.0, r.1) r.2.items) (items_of_rows rs) (row.0, row.1, t)
        (subst (λ (x : PIdx S × ℕ × Vec (TIdx S) Z). Contains (core_items (x.0, x.1) x.2.items) (row.0, row.1, t)) at
        (core_of_item (row.0, row.1) row.2.items row.0 row.1 t refl h))
    among (r ∷ rs) (suc j) low at t h =
        Contains-append_right (core_items (r.0, r.1) r.2.items) (items_of_rows rs) (row.0, row.1, t) (among rs j (omega (arith, low)) at t h)

-- one more list of items on each side
pub same_more : {X : Type 0} (xs ys zs more : List X) → HaveSame xs ys → HaveSame zs (xs ++ more) → HaveSame zs (ys ++ more)
same_more xs ys zs more same pushed = same_trans zs (xs ++ more) (ys ++ more) pushed (same_append xs ys more more same (same_self more))

-- no lookahead and no item is there
pub no_tokens_there : (t : ℕ) (x : ItemOf) → Contains [] t ↔ Contains [] x
no_tokens_there t x = (λ h. absurd (none_in t h), λ h. absurd (none_in x h))

-- an empty list ascends
pub none_sorted : {X : Type 0} (R : X → X → Ordering) → IsStrictlySortedBy R []
unfolding IsStrictlySortedBy
none_sorted R = tt

-- a set that was made of items has those of any list with the same
pub made_same : {E : Type 0} (made : Result (List ItemOf) E) (xs ys : List ItemOf) → IfOk made (λ set. set ≡ xs) → HaveSame xs ys
    → IfOk made (λ set. HaveSame set ys)
made_same (Ok set) xs ys is same = subst (λ (items : List ItemOf). HaveSame items ys) (sym is) same
made_same (Err fault) xs ys is same = tt

-- runs with the same lookaheads, of as many cores, have the same items
pub runs_made : {S Z Y : Type 0} (cores : List (PIdx S × ℕ)) (runs : Vec (Vec (TIdx S) Z) Y) (made : List (List (TIdx S))) (items : List (PIdx S × ℕ × TIdx S))
    → AllZip HaveSame made (tokens_of runs.items) → length runs.items ≡ length cores → HaveSame (run_items cores (tokens_of runs.items)) items
    → (length made ≡ length cores) × HaveSame (run_items cores made) items
runs_made cores runs made items all paired same = (
  length_all_zip HaveSame made (tokens_of runs.items) all ∙ length-map runs.items (λ run. run.items) ∙ paired,
  same_trans (run_items cores made) (run_items cores (tokens_of runs.items)) items (same_runs cores made (tokens_of runs.items) all) same,
)
