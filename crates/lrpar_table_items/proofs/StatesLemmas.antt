-- The states that are built of all kernels are the canonical collection.
use Rattle.std.proofs.Common.{◌≡◌, ◌<◌, ◌⊎◌, ◌∙◌, sym, ap, subst, inl, inr, arith, ℕ, List, [], ◌∷◌, All, Option, Some, None, length, nat_eq, slice_index_or}
use Rattle.std.specs.Map.{lookup}
use Rattle.std.proofs.lemmas.List.Elements.{All-contains}
use Rattle.std.proofs.lemmas.List.{get_or_default}
use Rattle.lrpar_grammar.specs.Grammar.{Grammar, GrammarSymbol, IsWellFormed, Nonterminal, Terminal, rule_of, start_prod}
use Rattle.lrpar_table_rows.specs.Graph.{ItemOf}
use Rattle.lrpar_table_items.specs.Canonical.{AreCanonical, AreSame, IsTransition, ReachesMore}
use Rattle.lrpar_table_items.specs.Cores.{CoreSet, IsAmong}
use Rattle.lrpar_table_items.specs.ItemSets.{IsAdvanced, IsInClosure, Own, Added, IsReachedBy, IsStartItem}
use Rattle.lrpar_table_items.specs.CoreOrder.{IsBegun, IsKernel}
use Rattle.lrpar_table_items.specs.Kernels.{AreKernels, GoesTo, path_at}
use Rattle.lrpar_table_items.specs.Next.{kernel_at}
use Rattle.lrpar_table_items.specs.States.{AreStates, IsExpanded, StateOf, sets_at, state_at}
use Rattle.lrpar_table_items.proofs.AddedLemmas.{rule_after_listed}
use Rattle.lrpar_table_items.proofs.KernelLemmas.{once_in_order, one_kernel}
use Rattle.lrpar_table_items.proofs.NextLemmas.{some_item}

-- two sets that are the same as a third are the same
pub same_via : (items others more : ItemOf → Type 0) → AreSame items others → AreSame others more → AreSame items more
same_via items others more first second x = (λ h. (second x).0 ((first x).0 h), λ h. (first x).1 ((second x).1 h))

pub same_back : (items others : ItemOf → Type 0) → AreSame items others → AreSame others items
same_back items others same x = ((same x).1, (same x).0)

module _ (g : Grammar) where
  -- the closure is monotone: more items have a greater closure
  pub closure_to : (items others : ItemOf → Type 0) → ((x : ItemOf) → items x → others x) → (x : ItemOf) → IsInClosure g items x → IsInClosure g others x
  closure_to items others to x (Own y h) = Own y (to y h)
  closure_to items others to x (Added y z h adds) = Added y z (closure_to items others to y h) adds

  pub closure_same : (items others : ItemOf → Type 0) → AreSame items others → AreSame (IsInClosure g items) (IsInClosure g others)
  closure_same items others same x = (closure_to items others (λ y. (same y).0) x, closure_to others items (λ y. (same y).1) x)

  pub advanced_same : (items others : ItemOf → Type 0) (symbol : GrammarSymbol) → AreSame items others
      → AreSame (IsAdvanced g items symbol) (IsAdvanced g others symbol)
  advanced_same items others symbol same x = (λ h. (h.0, (same h.0).0 h.1, h.2, h.3), λ h. (h.0, (same h.0).1 h.1, h.2, h.3))

  -- if a closure has an item, so has the set of items that it is the closure of
  pub closure_of_some : (items : ItemOf → Type 0) (x : ItemOf) → IsInClosure g items x → (y : ItemOf) × items y
  closure_of_some items x (Own y h) = (y, h)
  closure_of_some items x (Added y z h adds) = closure_of_some items y h

  module _ (well : IsWellFormed g) where
    -- an item of a closure whose dot isn't at the start, or which is of the start production, isn't added
    pub own_of_begun : (items : ItemOf → Type 0) (x : ItemOf) → IsInClosure g items x → (0 < x.dot) ⊎ (x.prod ≡ start_prod g) → items x
    own_of_begun items x (Own y h) begun = h
    own_of_begun items x (Added y z h adds) begun =
        elim begun as (λ _. items z) [
          | inl front ↦ let zero_dot = adds.fresh in absurd (omega (arith, front, zero_dot))
          | inr start ↦
              let zero_rule : adds.rule ≡ 0 = sym adds.of_rule ∙ ap (rule_of g) start ∙ well.last_rule in
              let listed = rule_after_listed g well y.prod y.dot adds.rule adds.rest adds.before in absurd (omega (arith, zero_rule, listed))
        ]

    begun_item : (kernel : List CoreSet) → All (IsBegun g) kernel → (x : ItemOf) → IsAmong kernel x → (0 < x.dot) ⊎ (x.prod ≡ start_prod g)
    begun_item kernel begun x h =
        elim (All-contains (IsBegun g) kernel h.0 begun h.1) [
          | inl front ↦ inl (subst (λ n. 0 < n) h.2.1 front)
          | inr start ↦ inr (sym h.2.0 ∙ start)
        ]

    -- so kernels with the same closure have the same items, and are the same
    kernel_to : (kernel other : List CoreSet) → All (IsBegun g) kernel → AreSame (IsInClosure g (IsAmong kernel)) (IsInClosure g (IsAmong other))
        → (x : ItemOf) → IsAmong kernel x → IsAmong other x
    kernel_to kernel other begun same x h = own_of_begun (IsAmong other) x ((same x).0 (Own x h)) (begun_item kernel begun x h)

    pub kernel_of_closure : (kernel other : List CoreSet) → IsKernel g kernel → IsKernel g other
        → AreSame (IsInClosure g (IsAmong kernel)) (IsInClosure g (IsAmong other)) → kernel ≡ other
    kernel_of_closure kernel other is others same =
        let back = same_back (IsInClosure g (IsAmong kernel)) (IsInClosure g (IsAmong other)) same in
        one_kernel g kernel other is.cores others.cores
        (λ x. (kernel_to kernel other is.begun same x, kernel_to other kernel others.begun back x))

    module _ (kernels : List (List CoreSet)) (are : AreKernels g kernels) where
      pub kernel_number : (s other : ℕ) → s < length kernels → other < length kernels
          → AreSame (IsInClosure g (IsAmong (kernel_at kernels s))) (IsInClosure g (IsAmong (kernel_at kernels other))) → s ≡ other
      kernel_number s other low below same =
          are.once s other low below (kernel_of_closure (kernel_at kernels s) (kernel_at kernels other) (are.each s low) (are.each other below) same)

      -- the closure of each kernel has an item
      pub kernel_some : (s : ℕ) → s < length kernels → (x : ItemOf) × IsInClosure g (IsAmong (kernel_at kernels s)) x
      kernel_some s low =
          let is = are.each s low in
          let item = some_item (kernel_at kernels s) is.cores.filled is.some in (item.0, Own item.0 item.1)

      -- gotos reach as many sets as there are kernels
      pub reaches_more : (n : ℕ) → n < length kernels → ReachesMore g n
      reaches_more n less =
          let len = are.len in
          record {
            paths = are.paths;
            more = omega (arith, len, less);
            some = λ k d low.
                let low' : k < length kernels = omega (arith, len, low) in
                let item = kernel_some k low' in
                let at : slice_index_or are.paths k d ≡ path_at are.paths k = get_or_default are.paths k d [] low in
                (item.0, subst (λ path. IsReachedBy g path item.0) (sym at) ((are.reached k low' item.0).0 item.1));
            once = λ s other low below same.
                let in_kernels : s < length kernels = omega (arith, len, low) in
                let also : other < length kernels = omega (arith, len, below) in
                let closure = λ (m : ℕ). IsInClosure g (IsAmong (kernel_at kernels m)) in
                let reached = λ (m : ℕ). IsReachedBy g (path_at are.paths m) in
                kernel_number s other in_kernels also
                (same_via (closure s) (reached s) (closure other) (are.reached s in_kernels)
                (same_via (reached s) (reached other) (closure other) same (same_back (closure other) (reached other) (are.reached other also))));
          }

  module _ (well : IsWellFormed g) (kernels : List (List CoreSet)) (are : AreKernels g kernels) (some : 0 < length kernels)
      (start : AreSame (IsAmong (kernel_at kernels 0)) (IsStartItem g)) (states : List StateOf) (len : length states ≡ length kernels)
      (expanded : (s : ℕ) → s < length states → IsExpanded g kernels (kernel_at kernels s) (state_at states s)) where
    -- the closure of a kernel, and its state's set
    abbrev closure_at : ℕ → ItemOf → Type 0
    closure_at s = IsInClosure g (IsAmong (kernel_at kernels s))

    set_is : (s : ℕ) → s < length kernels → AreSame (sets_at states s) (closure_at s)
    set_is s low = let below : s < length states = omega (arith, low, len) in (expanded s below).items

    -- a state's transition by a symbol is that of its item set
    step_is : (s : ℕ) (symbol : GrammarSymbol) (next : Option ℕ) → GoesTo g kernels (state_at states s).cores symbol next
        → IsTransition g (length states) (sets_at states) s symbol next
    step_is s symbol None goes = goes
    step_is s symbol (Some next) goes =
        let advanced = IsAdvanced g (sets_at states s) symbol in (
          goes.0,
          (let low = goes.1 in omega (arith, low, len)),
          same_via (sets_at states next) (closure_at next) (IsInClosure g advanced) (set_is next goes.1)
              (closure_same (IsAmong (kernel_at kernels next)) advanced goes.2),
        )

    steps_of : (s : ℕ) → s < length states → (symbol : GrammarSymbol)
        → (next : Option ℕ) × IsTransition g (length states) (sets_at states) s symbol next
    steps_of s low (Nonterminal r) =
        (lookup (nat_eq r) (state_at states s).gotos, step_is s (Nonterminal r) (lookup (nat_eq r) (state_at states s).gotos) ((expanded s low).gotos.goes r))
    steps_of s low (Terminal t) =
        (lookup (nat_eq t) (state_at states s).shifts, step_is s (Terminal t) (lookup (nat_eq t) (state_at states s).shifts) ((expanded s low).shifts.goes t))

    start_is : AreSame (sets_at states 0) (IsReachedBy g [])
    start_is =
        same_via (sets_at states 0) (closure_at 0) (IsReachedBy g []) (set_is 0 some)
        (closure_same (IsAmong (kernel_at kernels 0)) (IsStartItem g) start)

    -- each set that a path reaches is some state's: along the path, from the start on
    step_reached : (path : List GrammarSymbol) (symbol : GrammarSymbol) (s : ℕ) → AreSame (sets_at states s) (IsReachedBy g path)
        → (next : Option ℕ) → IsTransition g (length states) (sets_at states) s symbol next → (x : ItemOf) → IsReachedBy g (symbol ∷ path) x
        → (t : ℕ) × (t < length states) × AreSame (sets_at states t) (IsReachedBy g (symbol ∷ path))
    step_reached path symbol s same None step x h =
        let before = closure_of_some (IsAdvanced g (IsReachedBy g path) symbol) x h in
        let item = before.1 in absurd (step (item.0, (same item.0).1 item.1, item.2))
    step_reached path symbol s same (Some next) step x h =
        let advanced = IsAdvanced g (sets_at states s) symbol in
        let others = IsAdvanced g (IsReachedBy g path) symbol in (
          next,
          step.1,
          same_via (sets_at states next) (IsInClosure g advanced) (IsInClosure g others) step.2
              (closure_same advanced others (advanced_same (sets_at states s) (IsReachedBy g path) symbol same)),
        )

    all_reached : (path : List GrammarSymbol) (x : ItemOf) → IsReachedBy g path x
        → (s : ℕ) × (s < length states) × AreSame (sets_at states s) (IsReachedBy g path)
    all_reached [] x h = (0, omega (arith, some, len), start_is)
    all_reached (symbol ∷ path) x h =
        let before = closure_of_some (IsAdvanced g (IsReachedBy g path) symbol) x h in
        let from = all_reached path before.1.0 before.1.1 in
        let step = steps_of from.0 from.1 symbol in step_reached path symbol from.0 from.2 step.0 step.1 x h

    pub canonical : AreCanonical g (length states) (sets_at states)
    canonical = record {
      start = start_is;
      some = λ s low.
          let below : s < length kernels = omega (arith, low, len) in
          let item = kernel_some well kernels are s below in (item.0, (set_is s below item.0).1 item.1);
      reached = λ s low.
          let below : s < length kernels = omega (arith, low, len) in
          (path_at are.paths s, same_via (sets_at states s) (closure_at s) (IsReachedBy g (path_at are.paths s)) (set_is s below) (are.reached s below));
      all = all_reached;
      once = λ s other low also same.
          let below : s < length kernels = omega (arith, low, len) in
          let under : other < length kernels = omega (arith, also, len) in
          kernel_number well kernels are s other below under
          (same_via (closure_at s) (sets_at states s) (closure_at other) (same_back (sets_at states s) (closure_at s) (set_is s below))
          (same_via (sets_at states s) (sets_at states other) (closure_at other) same (set_is other under)));
    }

    pub are_states : AreStates g states
    are_states =
        let cores = λ (s : ℕ) (low : s < length states). (expanded s low).cores in
        let steps = λ (s : ℕ) (low : s < length states). expanded s low in record {
          canonical = canonical;
          cores = λ s low. (cores s low).of_grammar;
          once = λ s low. once_in_order g (state_at states s).cores (cores s low).in_order;
          gotos_ascend = λ s low. (steps s low).gotos.ascend;
          shifts_ascend = λ s low. (steps s low).shifts.ascend;
          gotos = λ s r low. step_is s (Nonterminal r) (lookup (nat_eq r) (state_at states s).gotos) ((steps s low).gotos.goes r);
          shifts = λ s t low. step_is s (Terminal t) (lookup (nat_eq t) (state_at states s).shifts) ((steps s low).shifts.goes t);
        }
