-- Rounds over the states, until none waits.
use Rattle.std.proofs.Common.{Vec, ◌≡◌, ◌≢◌, ◌<◌, ◌+◌, ◌||◌, ◌∙◌, refl, sym, ap, subst, inl, inr, arith, ℕ, Bool, true, false, List, Some, length, set}
use Rattle.std.proofs.lemmas.Bool.{cases_eq, cases_lt, false≢true}
use Rattle.std.proofs.lemmas.List.{get_or-set_other, get_or-set_same, get_or_past}
use Rattle.lrpar_grammar.specs.Grammar.{Grammar, GrammarSymbol}
use Rattle.lrpar_grammar.specs.Tokens.{has}
use Rattle.lrpar_table_rows.specs.Graph.{ItemOf, item_at}
use Rattle.lrpar_table_items.specs.Canonical.{AreSame}
use Rattle.lrpar_table_items.specs.Cores.{CoreSet, IsAmong}
use Rattle.lrpar_table_items.specs.ItemSets.{IsInClosure, IsStartItem}
use Rattle.lrpar_table_items.specs.Next.{kernel_at, kernel_rows}
use Rattle.lrpar_table_items.specs.declared.cores.CoreItems.{CoreItems}
use Rattle.lrpar_table_build.proofs.SetLemmas.{closure_more}
use Rattle.lrpar_table_merge.specs.Held.{GoesBy, IsHeld, Starts, TransitionsOf, next_of, transitions_at}
use Rattle.lrpar_table_merge.specs.MergedStates.{all_transitions}
use Rattle.lrpar_table_merge.specs.PassedOn.{AreBeginnings, IsPassedTo, all_missing}
use Rattle.lrpar_table_merge.specs.Passing.{HasPassedOn, IsUnderWay}
use Rattle.lrpar_table_merge.specs.Propagated.{AreAdded, ArePropagated, DoesWait, HasGrown, EndsWaiting, HaveBegun, IsPassedFrom, IsRoundTo, LeadOn, PassesOn}
use Rattle.lrpar_table_merge.specs.StoredKernels.{AreKernelsIfFilled}
use Rattle.lrpar_table_merge.specs.declared.held.Transitions.{Transitions}
use Rattle.lrpar_table_merge.proofs.HeldLemmas.{advanced_held, all_held, closure_held}
use Rattle.lrpar_table_merge.proofs.PropagateLemmas.{among_low, off_before}
use Rattle.lrpar_table_merge.proofs.WithinLemmas.{closure_root}

-- the start item was passed to state 0, which waits
pub begun_by : (g : Grammar) (before after : List (List CoreSet)) (next : List CoreSet) (waits : List Bool)
    → ((s : ℕ) (x : ItemOf) → IsAmong (kernel_at before s) x → ⊥) → IsPassedTo before 0 next after → AreSame (IsAmong next) (IsStartItem g)
    → AreBeginnings g after → DoesWait waits 0 → HaveBegun g after waits
begun_by g before after next waits none passed start beginnings wait = record {
  beginnings = beginnings;
  items = λ s x. (
    λ h. elim ((passed.items s x).0 h) [
      | inl own ↦ absurd (none s x own)
      | inr came ↦ (came.0, (start x).0 came.1)
    ],
    λ h. (passed.items s x).1 (inr (h.0, (start x).1 h.1)),
  );
  wait = wait;
}

pub propagated_begun : (g : Grammar) (goes : ℕ → GrammarSymbol → ℕ → Type 0) (kernels : List (List CoreSet)) (waits : List Bool)
    → HaveBegun g kernels waits → ArePropagated g goes kernels waits
propagated_begun g goes kernels waits begun = record {
  beginnings = begun.beginnings;
  start = λ x is. (begun.items 0 x).1 (refl, is);
  held = λ s x h. let is = (begun.items s x).0 h in subst (λ (n : ℕ). IsHeld g goes n x) (sym is.0) (Starts x is.1);
  passed = λ s off symbol x h.
      let root = closure_root g (IsAmong (kernel_at kernels s)) h.0 h.1 in
      let is = (begun.items s root.0).0 root.1 in absurd (false≢true (sym off ∙ ap (has waits) is.0 ∙ begun.wait));
}

module _ (g : Grammar) (goes : ℕ → GrammarSymbol → ℕ → Type 0) (state : ℕ) (before after : List (List CoreSet)) (waited waits : List Bool)
    (so_far : ArePropagated g goes before waited) (from : IsPassedFrom g goes state before after)
    (added : AreAdded before (set waited state false) after waits) where
  -- a state that doesn't wait passes on what it did before
  passes_back : (s : ℕ) → has waits s ≡ false → (symbol : GrammarSymbol) (x : ItemOf) → PassesOn g after s symbol x → PassesOn g before s symbol x
  passes_back s off symbol x h =
      (h.0, closure_more g (IsAmong (kernel_at after s)) (IsAmong (kernel_at before s)) (added.marked s off) h.0 h.1, h.2, h.3)

  off_other : (s : ℕ) → s ≢ state → has waits s ≡ false → has waited s ≡ false
  off_other s other off =
      sym (get_or-set_other waited state s false false other) ∙ off_before (set waited state false) waits s (added.still s) off

  -- one more state was passed on
  pub propagated_more : AreBeginnings g after → ArePropagated g goes after waits
  propagated_more beginnings = record {
    beginnings = beginnings;
    start = λ x is. added.kept 0 x (so_far.start x is);
    held = λ s x h.
        elim (from.came s x h) [
          | inl own ↦ so_far.held s x own
          | inr came ↦ advanced_held g goes (λ n. IsAmong (kernel_at before n)) so_far.held state s came.0 x came.1 came.2
        ];
    passed = λ s off symbol x h.
        let back = passes_back s off symbol x h in
        elim (cases_eq s state) [
          | inl is ↦
              let to = from.there symbol x (subst (λ n. PassesOn g before n symbol x) is back) in
              (to.0, subst (λ n. goes n symbol to.0) (sym is) to.1, to.2)
          | inr other ↦ let to = so_far.passed s (off_other s other off) symbol x back in (to.0, to.1, added.kept to.0 x to.2)
        ];
  }

-- whether anything grew, as a state was passed on that waited
pub ends : (state : ℕ) (before after : List (List CoreSet)) (waited waits : List Bool) (grown : Bool) → state < length waited
    → HasGrown before (set waited state false) after waits grown → EndsWaiting state before waited after waits grown
ends state before after waited waits true low grows = (grows.0, tt)
ends state before after waited waits false low grows =
    let is = grows.1.1 in (
      tt,
      (
        grows.1.0,
        ap (λ bits. has bits state) is ∙ get_or-set_same waited state false false low,
        λ s off.
            ap (λ bits. has bits s) is
            ∙ elim (cases_eq s state) as (λ _. has (set waited state false) s ≡ false) [
              | inl same ↦ ap (has (set waited state false)) same ∙ get_or-set_same waited state false false low
              | inr other ↦ get_or-set_other waited state s false false other ∙ off
            ],
      ),
    )

-- so propagation went on
pub passed_on : {S A : Type 0} (index : S → ℕ) (g : Grammar) (all : List Transitions) (state : ℕ) (old new : List (Vec (CoreItems S) A))
    (waited waits : List Bool) (grown : Bool) → state < length waited → IsUnderWay index g all old waited
    → IsPassedFrom g (GoesBy (all_transitions all)) state (kernel_rows index old) (kernel_rows index new)
    → AreAdded (kernel_rows index old) (set waited state false) (kernel_rows index new) waits → AreKernelsIfFilled index g new
    → HasGrown (kernel_rows index old) (set waited state false) (kernel_rows index new) waits grown
    → HasPassedOn index g all state old waited new waits grown
passed_on index g all state old new waited waits grown low so_far from added filled growth =
    let before = kernel_rows index old in
    let after = kernel_rows index new in record {
      goes_on = record {
        alike = added.alike;
        propagated = propagated_more g (GoesBy (all_transitions all)) state before after waited waits so_far from added filled;
      };
      ends = ends state before after waited waits grown low growth;
    }

-- a round over one more state
pub round_more : (first before after : List (List CoreSet)) (waited waits : List Bool) (n : ℕ) (was more : Bool) → IsRoundTo first before waited n was
    → EndsWaiting n before waited after waits more → IsRoundTo first after waits (n + 1) (was || more)
round_more first before after waited waits n true true one two = let less = one.0 in let fewer = two.0 in (omega (arith, less, fewer), tt)
round_more first before after waited waits n true false one two = (subst (λ kernels. all_missing kernels < all_missing first) (sym two.1.0) one.0, tt)
round_more first before after waited waits n false true one two = (subst (λ kernels. all_missing after < all_missing kernels) one.1.0 two.0, tt)
round_more first before after waited waits n false false one two = (
  tt,
  (
    two.1.0 ∙ one.1.0,
    λ s low.
        elim (cases_eq s n) as (λ _. has waits s ≡ false) [
          | inl is ↦ ap (has waits) is ∙ two.1.1
          | inr other ↦ two.1.2 s (one.1.1 s (omega (arith, low, other)))
        ],
  ),
)

-- if none of the states in range waits, none does
pub none_waits : (waits : List Bool) (n : ℕ) → length waits ≡ n → ((s : ℕ) → s < n → has waits s ≡ false) → (s : ℕ) → has waits s ≡ false
none_waits waits n count none s =
    elim (cases_lt s n) [
      | inl low ↦ none s low
      | inr past ↦ get_or_past waits s false (omega (arith, past, count))
    ]

module _ (g : Grammar) (all : List TransitionsOf) (kernels : List (List CoreSet)) (waits : List Bool)
    (done : ArePropagated g (GoesBy all) kernels waits) (none : (s : ℕ) → has waits s ≡ false) where
  -- what a state passes on is where a transition leads
  came_to : (s n : ℕ) (symbol : GrammarSymbol) (x : ItemOf) → GoesBy all s symbol n → PassesOn g kernels s symbol x → IsAmong (kernel_at kernels n) x
  came_to s n symbol x go h =
      let to = done.passed s (none s) symbol x h in
      let one : next_of (transitions_at all s) symbol ≡ Some to.0 = to.1 in
      let two : next_of (transitions_at all s) symbol ≡ Some n = go in
      let same : to.0 ≡ n = cc in subst (λ m. IsAmong (kernel_at kernels m) x) same to.2

  all_same : (s : ℕ) (x : ItemOf) → IsHeld g (GoesBy all) s x → IsInClosure g (IsAmong (kernel_at kernels s)) x
  all_same = all_held g (GoesBy all) (λ s. IsAmong (kernel_at kernels s)) done.start came_to

  -- if no state waits, the closures of the kernels are what the states hold
  pub held_exactly : (s : ℕ) → AreSame (IsInClosure g (IsAmong (kernel_at kernels s))) (IsHeld g (GoesBy all) s)
  held_exactly s x = (closure_held g (GoesBy all) (λ n. IsAmong (kernel_at kernels n)) done.held s x, all_same s x)

  -- and the transitions lead on
  pub lead_on : LeadOn g (GoesBy all) (length kernels)
  lead_on s symbol after =
      let x = after.0 in
      let y = item_at x.prod (x.dot + 1) x.token in
      let to = done.passed s (none s) symbol y (x, all_same s x after.1, after.2, refl) in (to.0, among_low kernels to.0 y to.2, to.1)
