-- Kernels that get numbers, one after the other.
use Rattle.std.proofs.Common.{◌≡◌, ◌≢◌, ◌<◌, ◌≤◌, ◌==◌, ◌∙◌, refl, sym, ap, subst, inl, inr, arith, ℕ, true, false, List, [], ◌∷◌, ◌++◌, Option, Some, None, length, map}
use Rattle.std.proofs.lemmas.Bool.{cases_lt, eq-eqb, eqb-true, false≢true}
use Rattle.std.proofs.lemmas.List.{get_or_append_left, get_or_push, length-map, length_push}
use Rattle.std.proofs.lemmas.List.Elements.{All-cons, All-nil}
use Rattle.lrpar_grammar.specs.Grammar.{Grammar, GrammarSymbol, IsWellFormed, end_token, start_prod}
use Rattle.lrpar_table_rows.specs.Graph.{item_at}
use Rattle.lrpar_table_items.specs.Canonical.{AreSame, ReachesMore}
use Rattle.lrpar_table_items.specs.Cores.{CoreSet, IsAmong, IsCoreOf}
use Rattle.lrpar_table_items.specs.ItemSets.{IsAdvanced, IsInClosure, IsReachedBy, IsStartItem}
use Rattle.lrpar_table_items.specs.CoreOrder.{AreCores, ComesBefore, IsBegun, IsFilled, IsKernel, IsStartCore}
use Rattle.lrpar_table_items.specs.Kernels.{AreKept, AreKernels, GoesTo, IsReachedKernel, path_at}
use Rattle.lrpar_table_items.specs.Next.{kernel_at, next_kernel}
use Rattle.lrpar_table_items.specs.Numbers.{AreNumbered, IsFaultOfStates, IsNumberFault, IsNumberOf, IsStepFault, IsStepTo}
use Rattle.lrpar_table_items.specs.KernelMap.{IsFound, IsFresh}
use Rattle.lrpar_table_items.specs.States.{AreExpanded, AreSteps, IsExpanded, StartsRight, StateOf, state_at}
use Rattle.lrpar_table_items.specs.declared.fault.BuildFault.{BuildFault}
use Rattle.lrpar_table_items.specs.declared.fault.BuildFault.TheVariants.{AcceptReduceConflict, Memory, StorageTooSmall, TooManyStates}
use Rattle.lrpar_table_items.proofs.CoreLemmas.{among_cons, among_nil}
use Rattle.lrpar_table_items.proofs.NextLemmas.{next_has_after_dot, next_is, next_kernel_is, next_some}
use Rattle.lrpar_table_items.proofs.StatesLemmas.{advanced_same, closure_same, reaches_more, same_via}

-- a test whether a list is empty
pub none_tested : {X Y : Type 0} (f : X → Y) (xs : List X) (len : ℕ) → length xs ≡ len → (len == 0) ≡ true → length (map f xs) ≡ 0
none_tested f xs len is tested =
    let count = length-map xs f in
    let none = eqb-true len 0 tested in omega (arith, count, is, none)

pub some_tested : {X Y : Type 0} (f : X → Y) (xs : List X) (len : ℕ) → length xs ≡ len → (len == 0) ≡ false → 0 < length (map f xs)
some_tested f xs len is tested =
    let count = length-map xs f in
    elim (cases_lt 0 len) [
      | inl some ↦ omega (arith, count, is, some)
      | inr none ↦ let zero_len : len ≡ 0 = omega (arith, none) in absurd (false≢true (sym tested ∙ eq-eqb len 0 zero_len))
    ]

-- the kernels are kept as they are, and when one is appended
pub kept_itself : (kernels : List (List CoreSet)) → AreKept kernels kernels
kept_itself kernels = record { len = omega arith; same = λ s low. refl }

pub kept_push : (kernels : List (List CoreSet)) (kernel : List CoreSet) → AreKept kernels (kernels ++ kernel ∷ [])
kept_push kernels kernel = record {
  len = let len = length_push kernels kernel in omega (arith, len);
  same = λ s low. get_or_append_left kernels (kernel ∷ []) [] s low;
}

pub kept_twice : (first second third : List (List CoreSet)) → AreKept first second → AreKept second third → AreKept first third
kept_twice first second third early late =
    let one = early.len in
    let two = late.len in record {
      len = omega (arith, one, two);
      same = λ s low. late.same s (omega (arith, one, low)) ∙ early.same s low;
    }

module _ (g : Grammar) where
  -- each is still there once, and reached
  pub kernels_push : (kernels : List (List CoreSet)) (kernel : List CoreSet) (path : List GrammarSymbol) → AreKernels g kernels → IsKernel g kernel
      → IsReachedKernel g kernel path → ((s : ℕ) → s < length kernels → kernel_at kernels s ≢ kernel) → AreKernels g (kernels ++ kernel ∷ [])
  kernels_push kernels kernel path are is reached fresh =
      let all = kernels ++ kernel ∷ [] in
      let paths = are.paths ++ path ∷ [] in
      let len = length_push kernels kernel in
      let count = length_push are.paths path in
      let same_len = are.len in
      let early = λ (s : ℕ) (low : s < length kernels). get_or_append_left kernels (kernel ∷ []) [] s low in
      let early_path = λ (s : ℕ) (low : s < length kernels). get_or_append_left are.paths (path ∷ []) [] s (omega (arith, low, same_len)) in
      let last = get_or_push kernels kernel [] (length kernels) refl in
      let last_path = get_or_push are.paths path [] (length kernels) same_len in record {
        paths = paths;
        len = omega (arith, len, count, same_len);
        each = λ s low.
            elim (cases_lt s (length kernels)) [
              | inl before ↦ subst (IsKernel g) (sym (early s before)) (are.each s before)
              | inr past ↦
                  let at : s ≡ length kernels = omega (arith, past, low, len) in subst (IsKernel g) (sym (ap (kernel_at all) at ∙ last)) is
            ];
        reached = λ s low.
            elim (cases_lt s (length kernels)) [
              | inl before ↦
                  subst (λ k. IsReachedKernel g k (path_at paths s)) (sym (early s before))
                  (subst (IsReachedKernel g (kernel_at kernels s)) (sym (early_path s before)) (are.reached s before))
              | inr past ↦
                  let at : s ≡ length kernels = omega (arith, past, low, len) in
                  subst (λ k. IsReachedKernel g k (path_at paths s)) (sym (ap (kernel_at all) at ∙ last))
                  (subst (IsReachedKernel g kernel) (sym (ap (path_at paths) at ∙ last_path)) reached)
            ];
        once = λ s other low below same.
            elim (cases_lt s (length kernels)) [
              | inl before ↦
                  elim (cases_lt other (length kernels)) [
                    | inl also ↦ are.once s other before also (sym (early s before) ∙ same ∙ early other also)
                    | inr past ↦
                        let at : other ≡ length kernels = omega (arith, past, below, len) in
                        absurd (fresh s before (sym (early s before) ∙ same ∙ ap (kernel_at all) at ∙ last))
                  ]
              | inr late ↦
                  let here : s ≡ length kernels = omega (arith, late, low, len) in
                  elim (cases_lt other (length kernels)) [
                    | inl also ↦ absurd (fresh other also (sym (early other also) ∙ sym same ∙ ap (kernel_at all) here ∙ last))
                    | inr past ↦ omega (arith, past, below, len, here)
                  ]
            ];
      }

  -- the transitions of cores stay
  pub goes_kept : (before after : List (List CoreSet)) (cores : List CoreSet) (symbol : GrammarSymbol) (next : Option ℕ) → AreKept before after
      → GoesTo g before cores symbol next → GoesTo g after cores symbol next
  goes_kept before after cores symbol None kept goes = goes
  goes_kept before after cores symbol (Some next) kept goes =
      let low = goes.1 in
      let len = kept.len in (
        goes.0,
        omega (arith, low, len),
        subst (λ k. AreSame (IsAmong k) (IsAdvanced g (IsAmong cores) symbol)) (sym (kept.same next goes.1)) goes.2,
      )

  pub steps_kept : (before after : List (List CoreSet)) (cores : List CoreSet) (symbol : ℕ → GrammarSymbol) (rows : List (ℕ × ℕ)) → AreKept before after
      → AreSteps g before cores symbol rows → AreSteps g after cores symbol rows
  steps_kept before after cores symbol rows kept steps = record {
    ascend = steps.ascend;
    goes = λ n. goes_kept before after cores (symbol n) _ kept (steps.goes n);
  }

  pub expanded_kept : (before after : List (List CoreSet)) (kernel : List CoreSet) (state : StateOf) → AreKept before after
      → IsExpanded g before kernel state → IsExpanded g after kernel state
  expanded_kept before after kernel state kept is = record {
    items = is.items;
    cores = is.cores;
    gotos = steps_kept before after state.cores _ state.gotos kept is.gotos;
    shifts = steps_kept before after state.cores _ state.shifts kept is.shifts;
  }

-- if the next kernel is empty, the cores have no transition by the symbol
pub goes_nowhere : (g : Grammar) (kernels : List (List CoreSet)) (cores : List CoreSet) (symbol : GrammarSymbol) → length (next_kernel g symbol cores) ≡ 0
    → GoesTo g kernels cores symbol None
goes_nowhere g kernels cores symbol none after_dot = let some = next_some g symbol cores after_dot in omega (arith, some, none)

-- a kernel of a set that gotos reach gets a number
module _ (g : Grammar) (well : IsWellFormed g) (max limit : ℕ) (kernels : List (List CoreSet)) (numbered : AreNumbered g max limit kernels)
    (kernel : List CoreSet) (is : IsKernel g kernel) (path : List GrammarSymbol) (reached : IsReachedKernel g kernel path) where
  pushed : IsFresh kernels kernel → AreKernels g (kernels ++ kernel ∷ [])
  pushed fresh = kernels_push g kernels kernel path numbered.are is reached fresh

  too_many : (n : ℕ) → IsFresh kernels kernel → n ≤ length kernels → ReachesMore g n
  too_many n fresh full =
      let len = length_push kernels kernel in reaches_more g well (kernels ++ kernel ∷ []) (pushed fresh) n (omega (arith, len, full))

  pub number_fault : (fault : BuildFault) → IsNumberFault max limit kernels kernel fault → IsFaultOfStates g max limit fault
  number_fault TooManyStates h = too_many max h.0 h.1
  number_fault (AcceptReduceConflict s) h = h
  number_fault StorageTooSmall h = too_many limit h.0 h.1
  number_fault Memory h = h

  pub number_numbered : (n : ℕ) (after : List (List CoreSet)) → IsNumberOf max limit kernels kernel n after → AreNumbered g max limit after
  number_numbered n after number =
      elim number.kernels [
        | inl same ↦ subst (AreNumbered g max limit) (sym same) numbered
        | inr new ↦
            let len = length_push kernels kernel in
            let room = new.room in
            let fits = new.fits in
            let all : AreNumbered g max limit (kernels ++ kernel ∷ []) =
            record { are = pushed new.fresh; room = omega (arith, len, room); fits = omega (arith, len, fits) } in
            subst (AreNumbered g max limit) (sym new.is) all
      ]

pub number_kept : (max limit : ℕ) (kernels : List (List CoreSet)) (kernel : List CoreSet) (n : ℕ) (after : List (List CoreSet))
    → IsNumberOf max limit kernels kernel n after → AreKept kernels after
number_kept max limit kernels kernel n after number =
    elim number.kernels [
      | inl same ↦ subst (AreKept kernels) (sym same) (kept_itself kernels)
      | inr new ↦ subst (AreKept kernels) (sym new.is) (kept_push kernels kernel)
    ]

-- so does the next kernel of cores that are reached
module _ (g : Grammar) (well : IsWellFormed g) (max limit : ℕ) (kernels : List (List CoreSet)) (numbered : AreNumbered g max limit kernels)
    (cores : List CoreSet) (are : AreCores g cores) (path : List GrammarSymbol) (reached : AreSame (IsAmong cores) (IsReachedBy g path))
    (symbol : GrammarSymbol) (kernel : List CoreSet) (next : kernel ≡ next_kernel g symbol cores) (some : 0 < length kernel) where
  some_next : 0 < length (next_kernel g symbol cores)
  some_next = subst (λ k. 0 < length k) next some

  is_kernel : IsKernel g kernel
  is_kernel = subst (IsKernel g) (sym next) (next_kernel_is g symbol cores are some_next)

  is_reachable : IsReachedKernel g kernel (symbol ∷ path)
  is_reachable =
      let own = next_kernel g symbol cores in
      let here = IsAdvanced g (IsAmong cores) symbol in
      let there = IsAdvanced g (IsReachedBy g path) symbol in
      subst (λ k. IsReachedKernel g k (symbol ∷ path)) (sym next)
      (closure_same g (IsAmong own) there
      (same_via (IsAmong own) here there (next_is g symbol cores) (advanced_same g (IsAmong cores) (IsReachedBy g path) symbol reached)))

  step_fault : (fault : BuildFault) → IsNumberFault max limit kernels kernel fault → IsFaultOfStates g max limit fault
  step_fault = number_fault g well max limit kernels numbered kernel is_kernel (symbol ∷ path) is_reachable

  module _ (n : ℕ) (after : List (List CoreSet)) (number : IsNumberOf max limit kernels kernel n after) where
    step_numbered : AreNumbered g max limit after
    step_numbered = number_numbered g well max limit kernels numbered kernel is_kernel (symbol ∷ path) is_reachable n after number

    step_goes : GoesTo g after cores symbol (Some n)
    step_goes = (
      next_has_after_dot g symbol cores are some_next,
      number.found.within,
      subst (λ k. AreSame (IsAmong k) (IsAdvanced g (IsAmong cores) symbol)) (sym (number.found.is ∙ next)) (next_is g symbol cores),
    )

-- one transition of cores: the kernels are numbered and kept, and the transition leads to one of them
pub record IsStepDone (g : Grammar) (max limit : ℕ) (before : List (List CoreSet)) (cores : List CoreSet) (symbol : GrammarSymbol) (to : Option ℕ)
    (after : List (List CoreSet)) : Type 0 where
  pub numbered : AreNumbered g max limit after
  pub kept : AreKept before after
  pub goes : GoesTo g after cores symbol to

module _ (g : Grammar) (well : IsWellFormed g) (max limit : ℕ) (kernels : List (List CoreSet)) (numbered : AreNumbered g max limit kernels)
    (cores : List CoreSet) (are : AreCores g cores) (path : List GrammarSymbol) (reached : AreSame (IsAmong cores) (IsReachedBy g path))
    (symbol : GrammarSymbol) (kernel : List CoreSet) (next : kernel ≡ next_kernel g symbol cores) where
  pub step_done : (to : Option ℕ) (after : List (List CoreSet)) → IsStepTo max limit kernels kernel to after
      → IsStepDone g max limit kernels cores symbol to after
  step_done None after step = record {
    numbered = subst (AreNumbered g max limit) (sym step.1) numbered;
    kept = subst (AreKept kernels) (sym step.1) (kept_itself kernels);
    goes = goes_nowhere g after cores symbol (sym (ap (λ (cs : List CoreSet). length cs) next) ∙ step.0);
  }
  step_done (Some n) after step = record {
    numbered = step_numbered g well max limit kernels numbered cores are path reached symbol kernel next step.0 n after step.1;
    kept = number_kept max limit kernels kernel n after step.1;
    goes = step_goes g well max limit kernels numbered cores are path reached symbol kernel next step.0 n after step.1;
  }

  pub step_failed : (fault : BuildFault) → IsStepFault max limit kernels kernel fault → IsFaultOfStates g max limit fault
  step_failed fault step = step_fault g well max limit kernels numbered cores are path reached symbol kernel next step.0 fault step.1

-- the kernel of the start item
pub none_numbered : (g : Grammar) (max limit : ℕ) → AreNumbered g max limit []
none_numbered g max limit = record {
  are = record {
    paths = [];
    len = refl;
    each = λ s low. absurd (omega (arith, low));
    reached = λ s low. absurd (omega (arith, low));
    once = λ s other low below same. absurd (omega (arith, low));
  };
  room = omega arith;
  fits = omega arith;
}

-- the number of a kernel that is new
pub pushed_number : (max limit : ℕ) (before : List (List CoreSet)) (kernel : List CoreSet) (n : ℕ) (after : List (List CoreSet)) → IsFresh before kernel
    → n ≡ length before → length before < max → length before < limit → after ≡ before ++ kernel ∷ [] → IsNumberOf max limit before kernel n after
pushed_number max limit before kernel n after fresh next room fits is =
    let count = length_push before kernel in
    let found : IsFound (before ++ kernel ∷ []) kernel n =
    record { within = omega (arith, count, next); is = get_or_push before kernel [] n (sym next) } in
    record {
      found = subst (λ ks. IsFound ks kernel n) (sym is) found;
      kernels = inr (record { fresh = fresh; room = room; fits = fits; is = is });
    }

-- the first number is 0
pub first_number : (max limit : ℕ) (kernel : List CoreSet) (n : ℕ) (after : List (List CoreSet)) → IsNumberOf max limit [] kernel n after → IsFound after kernel 0
first_number max limit kernel n after number =
    elim number.kernels [
      | inl same ↦
          let low = number.found.within in
          let none : length after ≡ 0 = ap length same in absurd (omega (arith, low, none))
      | inr new ↦ subst (λ ks. IsFound ks kernel 0) (sym new.is) (record { within = omega arith; is = refl })
    ]

module _ (g : Grammar) (core : CoreSet) (start : IsStartCore g core) where
  -- the start item's core is a kernel
  pub start_kernel_is : IsKernel g (core ∷ [])
  start_kernel_is =
      let prod = start.production in
      let known = start.known in
      let dot = start.at_start in record {
        cores = record {
          in_order = (All-nil (ComesBefore g core), tt);
          of_grammar = All-cons (IsCoreOf g) core [] (record { prod = omega (arith, prod, known); dot = omega (arith, dot); wide = start.wide }) (All-nil (IsCoreOf g));
          filled = All-cons IsFilled core [] (end_token g, start.only_end (end_token g) ∙ eq-eqb (end_token g) (end_token g) refl) (All-nil IsFilled);
        };
        begun = All-cons (IsBegun g) core [] (inr prod) (All-nil (IsBegun g));
        some = omega arith;
      }

  pub start_items : AreSame (IsAmong (core ∷ [])) (IsStartItem g)
  start_items x = (
    λ h. elim ((among_cons core [] x).0 h) [
      | inl of ↦
          let token : x.token ≡ end_token g = eqb-true x.token (end_token g) (sym (start.only_end x.token) ∙ of.2) in
          ap (λ p. item_at p x.dot x.token) (sym of.0 ∙ start.production) ∙ ap (λ k. item_at (start_prod g) k x.token) (sym of.1 ∙ start.at_start)
          ∙ ap (item_at (start_prod g) 0) token
      | inr none ↦ absurd (among_nil x none)
    ],
    λ h.
        let end_is = start.only_end (end_token g) ∙ eq-eqb (end_token g) (end_token g) refl in
        let first : IsAmong (core ∷ []) (item_at (start_prod g) 0 (end_token g)) =
        (among_cons core [] (item_at (start_prod g) 0 (end_token g))).1 (inl (start.production, start.at_start, end_is)) in
        subst (IsAmong (core ∷ [])) (sym h) first,
  )

-- its closure is reached by the empty path
pub start_reached : (g : Grammar) (kernel : List CoreSet) → AreSame (IsAmong kernel) (IsStartItem g) → IsReachedKernel g kernel []
start_reached g kernel same = closure_same g (IsAmong kernel) (IsStartItem g) same

-- if gotos reach the closure of a kernel, they reach cores with that closure
pub cores_reached : (g : Grammar) (kernel cores others : List CoreSet) (path : List GrammarSymbol) → others ≡ cores
    → AreSame (IsAmong cores) (IsInClosure g (IsAmong kernel)) → IsReachedKernel g kernel path → AreSame (IsAmong others) (IsReachedBy g path)
cores_reached g kernel cores others path is same reached =
    subst (λ cs. AreSame (IsAmong cs) (IsReachedBy g path)) (sym is)
    (same_via (IsAmong cores) (IsInClosure g (IsAmong kernel)) (IsReachedBy g path) same reached)

-- the first kernel stays
pub starts_kept : (g : Grammar) (before after : List (List CoreSet)) → AreKept before after → StartsRight g before → StartsRight g after
starts_kept g before after kept starts =
    let some = starts.some in
    let len = kept.len in record {
      some = omega (arith, some, len);
      is = subst (λ k. AreSame (IsAmong k) (IsStartItem g)) (sym (kept.same 0 some)) starts.is;
    }

-- the state of one more kernel
pub expanded_more : (g : Grammar) (before after : List (List CoreSet)) (states : List StateOf) (state : StateOf) → AreKept before after
    → length states < length before → AreExpanded g before states → IsExpanded g after (kernel_at before (length states)) state
    → AreExpanded g after (states ++ state ∷ [])
expanded_more g before after states state kept below expanded new s low =
    let all = states ++ state ∷ [] in
    let count = length_push states state in
    elim (cases_lt s (length states)) [
      | inl early ↦
          let here : state_at all s ≡ state_at states s = get_or_append_left states (state ∷ []) _ s early in
          let under : s < length before = omega (arith, early, below) in
          subst (λ x. IsExpanded g after (kernel_at after s) x) (sym here)
          (subst (λ k. IsExpanded g after k (state_at states s)) (sym (kept.same s under))
          (expanded_kept g before after (kernel_at before s) (state_at states s) kept (expanded s early)))
      | inr late ↦
          let at : s ≡ length states = omega (arith, late, low, count) in
          let last : state_at all s ≡ state = get_or_push states state _ s (sym at) in
          let kernel : kernel_at after s ≡ kernel_at before (length states) = ap (kernel_at after) at ∙ kept.same (length states) below in
          subst (λ x. IsExpanded g after (kernel_at after s) x) (sym last) (subst (λ k. IsExpanded g after k state) (sym kernel) new)
    ]
