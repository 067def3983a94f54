-- Lookaheads that are passed on from state to state: one kernel, those of a row, and all that a state passes on.
use Rattle.std.proofs.Common.{Vec, ◌≡◌, ◌≢◌, ◌<◌, ◌+◌, ◌||◌, ◌⊎◌, ◌∙◌, refl, sym, ap, subst, inl, inr, arith, ℕ, Bool, true, false, IsTrue, List, [], Option, Some, get_or, length, map, set}
use Rattle.std.specs.Bool.{OnFalse}
use Rattle.std.proofs.lemmas.Bool.{cases_Bool, cases_eq, cases_lt, false≢true}
use Rattle.std.proofs.lemmas.List.{get_or-set_other, get_or-set_same, get_or_past, length-map}
use Rattle.lrpar_grammar.specs.Tokens.{has}
use Rattle.lrpar_table_rows.specs.Graph.{ItemOf}
use Rattle.lrpar_table_items.specs.Cores.{CoreSet, IsAmong, core_set}
use Rattle.lrpar_table_items.specs.declared.cores.CoreItems.{CoreItems}
use Rattle.lrpar_table_items.specs.Next.{kernel_at, kernel_rows}
use Rattle.lrpar_table_items.proofs.CoreLemmas.{among_nil}
use Rattle.lrpar_table_merge.specs.PassedOn.{IsPassedTo, all_missing}
use Rattle.lrpar_table_merge.specs.Propagated.{AreAdded, AreAlike, ArePassedAlong, HasGrown, IsMarkedIf, IsPassedAlong, step_at}
use Rattle.lrpar_table_merge.proofs.PassLemmas.{kernel_value}

-- a list of cores that isn't empty
pub some_cores : {S : Type 0} (index : S → ℕ) (cores : List (CoreItems S)) → length cores ≢ 0 → 0 < length (map (core_set index) cores)
some_cores index cores some = let count = length-map cores (core_set index) in omega (arith, some, count)

-- a kernel with an item is in range
pub among_low : (kernels : List (List CoreSet)) (s : ℕ) (x : ItemOf) → IsAmong (kernel_at kernels s) x → s < length kernels
among_low kernels s x h =
    elim (cases_lt s (length kernels)) [
      | inl low ↦ low
      | inr past ↦ absurd (among_nil x (subst (λ kernel. IsAmong kernel x) (get_or_past kernels s [] past) h))
    ]

-- the kernel at a place of a list of values
pub value_at : {S A : Type 0} (index : S → ℕ) (kernels : List (Vec (CoreItems S) A)) (n : ℕ) (kernel : Vec (CoreItems S) A) (lent : List (CoreItems S))
    → n < length kernels → kernel ≡ get_or kernels n kernel → lent ≡ kernel.items → kernel_at (kernel_rows index kernels) n ≡ map (core_set index) lent
value_at index kernels n kernel lent low is value =
    kernel_value index kernels n kernel low ∙ ap (λ (k : Vec (CoreItems _) _). map (core_set index) k.items) (sym is) ∙ ap (map (core_set index)) (sym value)

pub own_at : {S A : Type 0} (index : S → ℕ) (kernels : List (Vec (CoreItems S) A)) (n : ℕ) (d : Vec (CoreItems S) A) (lent : List (CoreItems S))
    → n < length kernels → lent ≡ (get_or kernels n d).items → kernel_at (kernel_rows index kernels) n ≡ map (core_set index) lent
own_at index kernels n d lent low value = kernel_value index kernels n d low ∙ ap (map (core_set index)) (sym value)

module _ (before after : List (List CoreSet)) (state : ℕ) (next : List CoreSet) (passed : IsPassedTo before state next after) where
  -- what was passed to a state was passed along the step to it
  pub passed_along : (step : Option ℕ) → step ≡ Some state → IsPassedAlong step next before after
  passed_along step is = record {
    came = λ s x h.
        elim ((passed.items s x).0 h) [
          | inl own ↦ inl own
          | inr came ↦ inr (is ∙ ap (λ (n : ℕ). Some n) (sym came.0), came.1)
        ];
    there = λ x h. (state, is, (passed.items state x).1 (inr (refl, h)));
  }

  -- the state was marked as waiting
  pub added_marked : (waited : List Bool) → state < length waited → AreAdded before waited after (set waited state true)
  added_marked waited low = record {
    alike = record { len = passed.len; cores = passed.cores };
    kept = λ s x h. (passed.items s x).1 (inl h);
    still = λ s h.
        elim (cases_eq s state) [
          | inl is ↦ subst (λ n. IsTrue (has (set waited state true) n)) (sym is) (get_or-set_same waited state true false low)
          | inr other ↦ get_or-set_other waited state s true false other ∙ h
        ];
    marked = λ s off x h.
        elim ((passed.items s x).0 h) [
          | inl own ↦ own
          | inr came ↦
              let on : has (set waited state true) s ≡ true = ap (has (set waited state true)) came.0 ∙ get_or-set_same waited state true false low in
              absurd (false≢true (sym off ∙ on))
        ];
  }

pub alike_itself : (kernels : List (List CoreSet)) → AreAlike kernels kernels
alike_itself kernels = record { len = refl; cores = λ s. refl }

pub alike_on : (first before after : List (List CoreSet)) → AreAlike first before → AreAlike before after → AreAlike first after
alike_on first before after one two = record { len = two.len ∙ one.len; cores = λ s. two.cores s ∙ one.cores s }

pub added_itself : (kernels : List (List CoreSet)) (waits : List Bool) → AreAdded kernels waits kernels waits
added_itself kernels waits = record { alike = alike_itself kernels; kept = λ s x h. h; still = λ s h. h; marked = λ s off x h. h }

-- a kernel was passed to a state, which was marked if its kernel grew
module _ (before after : List (List CoreSet)) (state : ℕ) (waited waits : List Bool) where
  pub added_if : (next : List CoreSet) → IsPassedTo before state next after → state < length waited → (grown : Bool)
      → OnFalse grown (after ≡ before) → IsMarkedIf grown state waited waits → AreAdded before waited after waits
  added_if next passed low true same marked = subst (AreAdded before waited after) (sym marked.0) (added_marked before after state next passed waited low)
  added_if next passed low false same marked =
      subst (λ marks. AreAdded before waited after marks) (sym marked.1)
      (subst (λ kernels. AreAdded before waited kernels waited) (sym same) (added_itself before waited))

-- a state that doesn't wait didn't, if those that waited still do
pub off_before : (waited waits : List Bool) (s : ℕ) → (IsTrue (has waited s) → IsTrue (has waits s)) → has waits s ≡ false → has waited s ≡ false
off_before waited waits s still off =
    elim (cases_Bool (has waited s)) [
      | inl on ↦ absurd (false≢true (sym off ∙ still on))
      | inr was ↦ was
    ]

-- one addition after another
pub added_on : (first before after : List (List CoreSet)) (marks waited waits : List Bool) → AreAdded first marks before waited
    → AreAdded before waited after waits → AreAdded first marks after waits
added_on first before after marks waited waits one two = record {
  alike = alike_on first before after one.alike two.alike;
  kept = λ s x h. two.kept s x (one.kept s x h);
  still = λ s h. two.still s (one.still s h);
  marked = λ s off x h. one.marked s (off_before waited waits s (two.still s) off) x (two.marked s off x h);
}

pub grown_on : (first before after : List (List CoreSet)) (marks waited waits : List Bool) (was more : Bool) → HasGrown first marks before waited was
    → HasGrown before waited after waits more → HasGrown first marks after waits (was || more)
grown_on first before after marks waited waits true true one two = let less = one.0 in let fewer = two.0 in (omega (arith, less, fewer), tt)
grown_on first before after marks waited waits true false one two = (subst (λ kernels. all_missing kernels < all_missing first) (sym two.1.0) one.0, tt)
grown_on first before after marks waited waits false true one two = (subst (λ kernels. all_missing after < all_missing kernels) one.1.0 two.0, tt)
grown_on first before after marks waited waits false false one two = (tt, (two.1.0 ∙ one.1.0, two.1.1 ∙ one.1.1))

-- whether something grew so far, or now
pub grown_result : (was more grown : Bool) → ((was ≡ true) × (grown ≡ true)) ⊎ ((was ≡ false) × (grown ≡ more)) → (was || more) ≡ grown
grown_result was more grown cases =
    elim cases [
      | inl held ↦ ap (λ (b : Bool). b || more) held.0 ∙ sym held.1
      | inr fell ↦ ap (λ (b : Bool). b || more) fell.0 ∙ sym fell.1
    ]

-- no kernel was passed along a row yet
pub passed_none : (row : List (Option ℕ)) (nexts kernels : List (List CoreSet)) → ArePassedAlong row nexts 0 kernels kernels
passed_none row nexts kernels = record { came = λ s x h. inl h; there = λ i low. absurd (omega (arith, low)) }

-- one more was
pub passed_more : (row : List (Option ℕ)) (nexts : List (List CoreSet)) (n : ℕ) (first before after : List (List CoreSet)) (step : Option ℕ) (next : List CoreSet)
    → step ≡ step_at row n → kernel_at nexts n ≡ next → ((s : ℕ) (x : ItemOf) → IsAmong (kernel_at before s) x → IsAmong (kernel_at after s) x)
    → ArePassedAlong row nexts n first before → IsPassedAlong step next before after → ArePassedAlong row nexts (n + 1) first after
passed_more row nexts n first before after step next is at kept so_far one = record {
  came = λ s x h.
      elim (one.came s x h) [
        | inl own ↦ so_far.came s x own
        | inr came ↦ inr (n, sym is ∙ came.0, subst (λ kernel. IsAmong kernel x) (sym at) came.1)
      ];
  there = λ i low x h.
      elim (cases_eq i n) [
        | inl same ↦
            let here : IsAmong next x = subst (λ kernel. IsAmong kernel x) (ap (kernel_at nexts) same ∙ at) h in
            let to = one.there x here in (to.0, ap (step_at row) same ∙ sym is ∙ to.1, to.2)
        | inr other ↦
            let early : i < n = omega (arith, low, other) in
            let to = so_far.there i early x h in (to.0, to.1, kept to.0 x to.2)
      ];
}
