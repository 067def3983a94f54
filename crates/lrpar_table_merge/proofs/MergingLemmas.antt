-- While states are merged, each of them has a kernel.
use Rattle.std.proofs.Common.{Global, Vec, ◌≡◌, ◌<◌, ◌≤◌, ◌∙◌, sym, ap, subst, arith, ℕ, List, [], ◌∷◌, ◌++◌, All, drop, get_or, length, map, set, take}
use Rattle.std.proofs.lemmas.List.{get_or-map, get_or_default, length-map, length-set, length_push, map-set, map_push}
use Rattle.std.proofs.Math.Seq.{take-append_seam}
use Rattle.std.proofs.lemmas.List.Elements.{All-get_or, All-push, All-set}
use Rattle.lrpar_grammar.specs.Grammar.{Grammar, GrammarSymbol, prods_len}
use Rattle.lrpar_grammar_places.proofs.ListLemmas.{All-map-at}
use Rattle.lrpar_table_items.specs.Canonical.{AreSame}
use Rattle.lrpar_table_items.specs.CoreOrder.{AreCores, IsKernel}
use Rattle.lrpar_table_items.specs.Cores.{CoreSet, IsAmong, IsCoreOf, core_set}
use Rattle.lrpar_table_items.specs.ItemSets.{IsInClosure}
use Rattle.lrpar_table_items.specs.declared.cores.CoreItems.{CoreItems}
use Rattle.lrpar_table_items.specs.Next.{AreNext, kernel_at, kernel_rows, next_kernel}
use Rattle.lrpar_table_items.proofs.NextLemmas.{next_begun, next_cores}
use Rattle.lrpar_table_merge.specs.Compatible.{HaveSameCores, lr0_core}
use Rattle.lrpar_table_merge.specs.Merging.{AreCoreRows, AreKernelsOrEmpty, AreRegistered, AreMadeOrEmpty, AreMerging, AreSplit, Goes, HaveOrigins, IsMade, MergesMore, NoneIsCompatible, Unites, first_prod, kernels_of, numbers_for}
use Rattle.lrpar_table_merge.specs.StoredKernels.{AreMadeOf}
use Rattle.lrpar_table_merge.specs.United.{AreUnited, rooms_of}
use Rattle.lrpar_table_merge.specs.declared.merge.MergedState.{MergedState}
use Rattle.lrpar_table_merge.specs.declared.merge.Merging.{Merging}
use Rattle.lrpar_table_merge.proofs.AmongLemmas.{same_rooms}
use Rattle.lrpar_table_merge.proofs.KernelLemmas.{image_len}
use Rattle.lrpar_table_merge.proofs.ListedLemmas.{listed_push, listed_set}
use Rattle.lrpar_table_merge.proofs.OriginLemmas.{merges_more, no_origins, origins_push, origins_set}
use Rattle.lrpar_table_merge.proofs.SplitLemmas.{split_none, split_push, split_set}
use Rattle.lrpar_table_merge.proofs.UniteLemmas.{map_set_same}

-- the kernels to which cores go, apart from those without cores
next_kernels : (g : Grammar) (cores : List CoreSet) (symbol : ℕ → GrammarSymbol) (kernels : List (List CoreSet)) → AreCores g cores
    → AreNext g cores symbol kernels → AreKernelsOrEmpty g kernels
next_kernels g cores symbol kernels are next k d low some =
    let at : get_or kernels k d ≡ next_kernel g (symbol k) cores = get_or_default kernels k d [] low ∙ next k low in
    subst (IsKernel g) (sym at)
    (record { cores = next_cores g (symbol k) cores are; begun = next_begun g (symbol k) cores; some = subst (λ kernel. 0 < length kernel) at some })

-- merging can make them, if it can make the kernel whose closure goes to them
next_made : (g : Grammar) (kernel cores : List CoreSet) (symbol : ℕ → GrammarSymbol) (kernels : List (List CoreSet)) → IsMade g kernel
    → AreCores g cores → AreSame (IsAmong cores) (IsInClosure g (IsAmong kernel)) → AreNext g cores symbol kernels → AreMadeOrEmpty g kernels
next_made g kernel cores symbol kernels made are items next k d low some =
    let at : get_or kernels k d ≡ next_kernel g (symbol k) cores = get_or_default kernels k d [] low ∙ next k low in
    subst (IsMade g) (sym at) (Goes kernel cores (symbol k) made are items)

-- they are kernels that merging can make, apart from those without cores
pub made_kernels : {S A : Type 0} (index : S → ℕ) (g : Grammar) (kernel cores : List CoreSet) (symbol : ℕ → GrammarSymbol)
    (kernels : List (Vec (CoreItems S) A)) → IsMade g kernel → AreCores g cores → AreSame (IsAmong cores) (IsInClosure g (IsAmong kernel))
    → AreNext g cores symbol (kernel_rows index kernels) → AreMadeOf index g kernels
made_kernels index g kernel cores symbol kernels made are items next = record {
  are = next_kernels g cores symbol (kernel_rows index kernels) are next;
  made = next_made g kernel cores symbol (kernel_rows index kernels) made are items next;
}

-- a list that was lent and written back
pub written_back : {X : Type 0} (items lent new : List X) (len : ℕ) → length items ≡ len → lent ≡ items → length new ≡ length lent
    → take len (new ++ drop (length new) items) ≡ new
written_back items lent new len held value same =
    let long : len ≡ length new = sym held ∙ sym (ap length value) ∙ sym same in
    ap (λ n. take n (new ++ drop (length new) items)) long ∙ take-append_seam new (drop (length new) items)

-- kernels with the same cores have as much room
pub kernel_rooms : (g : Grammar) (kernel other : List CoreSet) → HaveSameCores kernel other → IsKernel g kernel → IsKernel g other
    → rooms_of kernel ≡ rooms_of other
kernel_rooms g kernel other same is others =
    same_rooms g kernel other (image_len lr0_core kernel other same) is.cores.of_grammar others.cores.of_grammar

module _ {S : Type 0} (index : S → ℕ) where
  abbrev kernel_of : MergedState S → List CoreSet
  kernel_of state = map (core_set index) state.kernel.items

  -- the kernel of a state
  pub state_value : (states : List (MergedState S)) (s : ℕ) (d : MergedState S) → s < length states
      → kernel_at (kernels_of index states) s ≡ map (core_set index) (get_or states s d).kernel.items
  state_value states s d low = get_or-map kernel_of states s d [] low

  pub states_len : (states : List (MergedState S)) → length (kernels_of index states) ≡ length states
  states_len states = length-map states kernel_of

  -- a state is changed, and keeps its kernel
  pub kernel_set : (states : List (MergedState S)) (s : ℕ) (state d : MergedState S) → s < length states
      → kernel_of state ≡ kernel_of (get_or states s d) → kernels_of index (set states s state) ≡ kernels_of index states
  kernel_set states s state d low same = map_set_same kernel_of states s state d low same

  -- a state that is read has a kernel
  pub kernel_read : (g : Grammar) (states : List (MergedState S)) (s : ℕ) (state : MergedState S) → s < length states → state ≡ get_or states s state
      → All (IsKernel g) (kernels_of index states) → IsKernel g (map (core_set index) state.kernel.items)
  kernel_read g states s state low is all =
      subst (λ read. IsKernel g (kernel_of read)) (sym is) (All-map-at (IsKernel g) kernel_of states all s state low)

  -- the production of a kernel's first core is one of the grammar's
  pub first_low : (g : Grammar) (kernel : List (CoreItems S)) (d : CoreItems S) → IsKernel g (map (core_set index) kernel)
      → index (get_or kernel 0 d).prod.0 < prods_len g
  first_low g kernel d has =
      let some = has.some in
      let low : 0 < length kernel = omega (arith, some, length-map kernel (core_set index)) in
      (All-map-at (IsCoreOf g) (core_set index) kernel has.cores.of_grammar 0 d low).prod

  pub some_cores_of : (g : Grammar) (kernel : List (CoreItems S)) → IsKernel g (map (core_set index) kernel) → 0 < length kernel
  some_cores_of g kernel has = let some = has.some in omega (arith, some, length-map kernel (core_set index))

  -- a kernel that is read, if it has cores
  pub kernel_or_empty : {A : Type 0} (g : Grammar) (kernels : List (Vec (CoreItems S) A)) (i : ℕ) (kernel : Vec (CoreItems S) A) → i < length kernels
      → kernel ≡ get_or kernels i kernel → AreKernelsOrEmpty g (kernel_rows index kernels) → 0 < length kernel.items
      → IsKernel g (map (core_set index) kernel.items)
  kernel_or_empty g kernels i kernel low is all some =
      let read = All-map-at (λ (cores : List CoreSet). 0 < length cores → IsKernel g cores) (λ (v : Vec (CoreItems S) _). map (core_set index) v.items)
      kernels all i kernel low in
      let one : 0 < length (map (core_set index) kernel.items) → IsKernel g (map (core_set index) kernel.items) =
      subst (λ (v : Vec (CoreItems S) _). 0 < length (map (core_set index) v.items) → IsKernel g (map (core_set index) v.items)) (sym is) read in
      one (omega (arith, some, length-map kernel.items (core_set index)))

  -- merging can make it
  pub made_or_empty : {A : Type 0} (g : Grammar) (kernels : List (Vec (CoreItems S) A)) (i : ℕ) (kernel : Vec (CoreItems S) A) → i < length kernels
      → kernel ≡ get_or kernels i kernel → AreMadeOrEmpty g (kernel_rows index kernels) → 0 < length kernel.items
      → IsMade g (map (core_set index) kernel.items)
  made_or_empty g kernels i kernel low is all some =
      let read = All-map-at (λ (cores : List CoreSet). 0 < length cores → IsMade g cores) (λ (v : Vec (CoreItems S) _). map (core_set index) v.items)
      kernels all i kernel low in
      let one : 0 < length (map (core_set index) kernel.items) → IsMade g (map (core_set index) kernel.items) =
      subst (λ (v : Vec (CoreItems S) _). 0 < length (map (core_set index) v.items) → IsMade g (map (core_set index) v.items)) (sym is) read in
      one (omega (arith, some, length-map kernel.items (core_set index)))

  -- the made kernel of a state
  pub made_read : (g : Grammar) (states : List (MergedState S)) (s : ℕ) (state : MergedState S) → s < length states → state ≡ get_or states s state
      → All (IsMade g) (kernels_of index states) → IsMade g (map (core_set index) state.kernel.items)
  made_read g states s state low is all =
      subst (λ read. IsMade g (kernel_of read)) (sym is) (All-map-at (IsMade g) kernel_of states all s state low)

  -- one more list of cores
  pub rows_push : {A : Type 0} (g : Grammar) (kernels more : List (Vec (CoreItems S) A)) (kernel : Vec (CoreItems S) A) → more ≡ kernels ++ kernel ∷ []
      → AreCoreRows g (kernel_rows index kernels) → All (IsCoreOf g) (map (core_set index) kernel.items) → AreCoreRows g (kernel_rows index more)
  rows_push g kernels more kernel is rows one =
      let all = ap (kernel_rows index) is ∙ map_push (λ (v : Vec (CoreItems S) _). map (core_set index) v.items) kernels kernel in
      subst (AreCoreRows g) (sym all)
      (All-push (All (IsCoreOf g)) (kernel_rows index kernels) (map (core_set index) kernel.items) rows one)

  -- nothing is merged at first
  pub merging_none : (g : Grammar) (max limit : ℕ) (merging : Merging S) → merging.states.items ≡ [] → length merging.by_prod.items ≡ prods_len g
      → AreMerging index g max limit merging
  merging_none g max limit merging none prods =
      let len = ap length none in record {
        kernels = subst (λ states. All (IsKernel g) (kernels_of index states)) (sym none) (λ k d low. absurd (omega (arith, low)));
        made = subst (λ states. All (IsMade g) (kernels_of index states)) (sym none) (λ k d low. absurd (omega (arith, low)));
        origins = subst (λ states. HaveOrigins g (kernels_of index states)) (sym none) (no_origins g);
        split = subst (λ states. AreSplit g (kernels_of index states)) (sym none) (split_none g);
        listed = subst (λ states. AreRegistered merging.by_prod.items (kernels_of index states)) (sym none) (λ s low. absurd (omega (arith, low)));
        room = omega (arith, len);
        fits = omega (arith, len);
        prods = prods;
      }

  module _ (g : Grammar) (max limit : ℕ) (before : Merging S) (are : AreMerging index g max limit before) (after : Merging S) where
    count : length (kernels_of index before.states.items) ≡ length before.states.items
    count = length-map before.states.items kernel_of

    -- a state is changed, and keeps its kernel
    pub merging_same : (s : ℕ) (state d : MergedState S) → s < length before.states.items → after.states.items ≡ set before.states.items s state
        → after.by_prod.items ≡ before.by_prod.items → kernel_of state ≡ kernel_of (get_or before.states.items s d) → AreMerging index g max limit after
    merging_same s state d low is lists kernel =
        let same : kernels_of index after.states.items ≡ kernels_of index before.states.items =
        ap (kernels_of index) is ∙ map_set_same kernel_of before.states.items s state d low kernel in
        let len = ap length is ∙ length-set before.states.items s state in
        let room = are.room in
        let fits = are.fits in record {
          kernels = subst (All (IsKernel g)) (sym same) are.kernels;
          made = subst (All (IsMade g)) (sym same) are.made;
          origins = subst (HaveOrigins g) (sym same) are.origins;
          split = subst (AreSplit g) (sym same) are.split;
          listed = subst (λ kernels. AreRegistered after.by_prod.items kernels) (sym same) (subst (λ l. AreRegistered l (kernels_of index before.states.items)) (sym lists) are.listed);
          room = omega (arith, len, room);
          fits = omega (arith, len, fits);
          prods = ap length lists ∙ are.prods;
        }

    -- a state's kernel gets the lookaheads of another one
    pub merging_united : (s : ℕ) (state d : MergedState S) (next : List CoreSet) → s < length before.states.items
        → after.states.items ≡ set before.states.items s state → after.by_prod.items ≡ before.by_prod.items
        → HaveSameCores (kernel_of (get_or before.states.items s d)) next → AreUnited (kernel_of (get_or before.states.items s d)) next (kernel_of state)
        → IsKernel g (kernel_of state) → IsMade g next → AreMerging index g max limit after
    merging_united s state d next low is lists cores united kernel made =
        let kernels = kernels_of index before.states.items in
        let within : s < length kernels = omega (arith, low, count) in
        let own : kernel_at kernels s ≡ kernel_of (get_or before.states.items s d) = state_value before.states.items s d low in
        let unites : AreUnited (kernel_at kernels s) next (kernel_of state) = subst (λ k. AreUnited k next (kernel_of state)) (sym own) united in
        let both : HaveSameCores (kernel_at kernels s) next = subst (λ k. HaveSameCores k next) (sym own) cores in
        let all : kernels_of index after.states.items ≡ set kernels s (kernel_of state) = ap (kernels_of index) is ∙ map-set kernel_of before.states.items s state in
        let len = ap length is ∙ length-set before.states.items s state in
        let room = are.room in
        let fits = are.fits in record {
          kernels = subst (All (IsKernel g)) (sym all) (All-set (IsKernel g) kernels s (kernel_of state) kernel are.kernels);
          made =
              subst (All (IsMade g)) (sym all)
              (All-set (IsMade g) kernels s (kernel_of state)
              (Unites (kernel_at kernels s) next (kernel_of state) (All-get_or (IsMade g) kernels s [] within are.made) made both unites) are.made);
          origins = subst (HaveOrigins g) (sym all) (origins_set g kernels are.origins s next (kernel_of state) within unites);
          split = subst (AreSplit g) (sym all) (split_set g kernels are.split s next (kernel_of state) within unites);
          listed =
              subst (λ rows. AreRegistered after.by_prod.items rows) (sym all)
              (subst (λ l. AreRegistered l (set kernels s (kernel_of state))) (sym lists)
              (listed_set before.by_prod.items kernels are.listed s (kernel_of state) within unites.same));
          room = omega (arith, len, room);
          fits = omega (arith, len, fits);
          prods = ap length lists ∙ are.prods;
        }

    -- a state is added for a kernel with which no other one is weakly compatible
    pub merging_push : (state : MergedState S) (p number : ℕ) (list : Vec ℕ Global) → after.states.items ≡ before.states.items ++ state ∷ []
        → p < length before.by_prod.items → after.by_prod.items ≡ set before.by_prod.items p list → number ≡ length before.states.items
        → list.items ≡ numbers_for before.by_prod.items p ++ number ∷ [] → first_prod (kernel_of state) ≡ p → IsKernel g (kernel_of state)
        → IsMade g (kernel_of state) → NoneIsCompatible (kernels_of index before.states.items) (kernel_of state)
        → length before.states.items < max → length before.states.items < limit → AreMerging index g max limit after
    merging_push state p number list is low lists at items begins kernel made fresh room fits =
        let kernels = kernels_of index before.states.items in
        let all : kernels_of index after.states.items ≡ kernels ++ kernel_of state ∷ [] = ap (kernels_of index) is ∙ map_push kernel_of before.states.items state in
        let len = ap length is ∙ length_push before.states.items state in record {
          kernels = subst (All (IsKernel g)) (sym all) (All-push (IsKernel g) kernels (kernel_of state) are.kernels kernel);
          made = subst (All (IsMade g)) (sym all) (All-push (IsMade g) kernels (kernel_of state) are.made made);
          origins = subst (HaveOrigins g) (sym all) (origins_push g kernels are.origins (kernel_of state) kernel made fresh);
          split = subst (AreSplit g) (sym all) (split_push g kernels are.split (kernel_of state) are.made made fresh);
          listed =
              subst (λ rows. AreRegistered after.by_prod.items rows) (sym all)
              (listed_push before.by_prod.items kernels are.listed after.by_prod.items (kernel_of state) p number list low lists (at ∙ sym count) items begins);
          room = omega (arith, len, room);
          fits = omega (arith, len, fits);
          prods = ap length lists ∙ length-set before.by_prod.items p list ∙ are.prods;
        }

  -- if there are as many states as are allowed, merging can make more kernels
  pub too_many : (g : Grammar) (max limit n : ℕ) (merging : Merging S) → AreMerging index g max limit merging → (kernel : List CoreSet)
      → IsKernel g kernel → IsMade g kernel → NoneIsCompatible (kernels_of index merging.states.items) kernel → n ≤ length merging.states.items
      → MergesMore g n
  too_many g max limit n merging are kernel is made fresh full =
      let len = length-map merging.states.items kernel_of in
      merges_more g (kernels_of index merging.states.items) are.origins kernel is made fresh n (omega (arith, full, len))
