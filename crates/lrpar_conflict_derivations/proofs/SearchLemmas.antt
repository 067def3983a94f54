-- What a search has tried, step by step.
use Rattle.std.proofs.Common.{◌≡◌, ◌+◌, ◌∙◌, ◌↔◌, ap, inl, inr, arith, ℕ, Bool, true, false, IsTrue, List, [], ◌∷◌, ◌++◌, map}
use Rattle.std.proofs.lemmas.List.{map-append}
use Rattle.lrpar_conflict_derivations.specs.Example.{ExampleOf, HasSearched, after_search}
use Rattle.lrpar_conflict_derivations.specs.Queue.{HasItems, KeepsItems}
use Rattle.lrpar_conflict_derivations.specs.Search.{EndsWithin, IsOver, KeepsStart, LooksFirst, StartsAt, TriesEnd, state_of, tried_in}
use Rattle.lrpar_conflict_derivations.specs.declared.access_paths.AccessPaths.{AccessPaths}
use Rattle.lrpar_conflict_derivations.specs.declared.access_paths.End.{End}
use Rattle.lrpar_conflict_derivations.specs.declared.priority_queue.PriorityQueue.{PriorityQueue}
use Rattle.lrpar_conflict_derivations.specs.declared.search.Search.{Search}

-- the first end is still there when one is appended
pub start_pushed : {S : Type 0} (index : S → ℕ) (old new : List (End S)) (x : End S) → new ≡ old ++ x ∷ []
    → (state : ℕ) → (more : List ℕ) × (map (state_of index) old ≡ state ∷ more) → (more : List ℕ) × (map (state_of index) new ≡ state ∷ more)
start_pushed index old new x put state start =
    let last = state_of index x ∷ [] in
    (start.0 ++ last, ap (map (state_of index)) put ∙ map-append (state_of index) old (x ∷ []) ∙ ap (λ xs. xs ++ last) start.1)

-- a turn that has tried one counts as one
pub one_more : {S : Type 0} (index : S → ℕ) (state n : ℕ) (old new : Search S) → tried_in new ≡ tried_in old + 1 → KeepsStart index old.paths new.paths
    → StartsAt index state old.paths → tried_in old ≡ n → StartsAt index state new.paths × (tried_in new ≡ n + 1)
one_more index state n old new turned keeps start tried = (keeps state start, turned ∙ ap (λ m. m + 1) tried)

-- the counterexample of a search that has ended tells so
pub search_told : {S : Type 0} (bound tried : ℕ) (complete : Bool) (search : Search S) (x : ExampleOf) → EndsWithin bound search → tried ≡ tried_in search
    → IsTrue complete ↔ IsOver search → HasSearched bound (after_search x tried complete)
search_told bound tried complete search x (inl all) same over = inr (inl (same ∙ all))
search_told bound tried complete search x (inr nothing) same over = inr (inr (over.1 nothing))

-- the list of ends to which one was added first begins with its state
pub start_first : {S : Type 0} (index : S → ℕ) (old new : List (End S)) (x : End S) → old ≡ [] → new ≡ old ++ x ∷ []
    → (more : List ℕ) × (map (state_of index) new ≡ state_of index x ∷ more)
start_first index old new x none put = ([], ap (map (state_of index)) (put ∙ ap (λ xs. xs ++ x ∷ []) none))

-- both kinds are left, so whichever is looked at first is
pub looks_first : {S : Type 0} (search : Search S) (first : Bool) → HasItems search.paths.queue → HasItems search.queue → LooksFirst search first
looks_first search true ends items = ends
looks_first search false ends items = λ none. absurd (omega (arith, items, none))

-- an end was tried, and then a configuration may have been added
pub end_tried : {S : Type 0} (index : S → ℕ) (old : Search S) (paths : AccessPaths S) (queue : PriorityQueue) → HasItems old.paths.queue
    → TriesEnd old.paths paths → KeepsStart index old.paths paths → KeepsItems old.queue queue
    → (paths.queue.popped + queue.popped ≡ tried_in old + 1) × KeepsStart index old.paths paths
end_tried index old paths queue left tries keeps kept = let tried = tries left in (omega (arith, tried, kept), keeps)
