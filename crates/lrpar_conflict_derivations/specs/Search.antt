-- How the search for a unifying counterexample ends without one. It comes to ends of access paths of the conflict's state, and to
-- configurations of two derivations after them. Each waits in a queue until a turn of the search takes it out and tries it.
use Rattle.std.specs.Prelude.{◌≡◌, ◌≤◌, ◌+◌, ◌⊎◌, ℕ, Bool, IsTrue, IfSome, List, ◌∷◌, map, MatchBool, MatchOption, Option}
use Rattle.lrpar_grammar_places.specs.declared.span.StIdx.{StIdx}
use Rattle.lrpar_conflict_derivations.specs.Example.{ExampleOf}
use Rattle.lrpar_conflict_derivations.specs.Queue.{HasItems, HasOne, IsEmptied, IsNew}
use Rattle.lrpar_conflict_derivations.specs.declared.access_paths.AccessPaths.{AccessPaths}
use Rattle.lrpar_conflict_derivations.specs.declared.access_paths.End.{End}
use Rattle.lrpar_conflict_derivations.specs.declared.configurations.Conflict.{Conflict}
use Rattle.lrpar_conflict_derivations.specs.declared.search.Search.{Search}
use Rattle.lrpar_conflict_derivations.specs.declared.search.Turn.{Turn}
use Rattle.lrpar_conflict_derivations.specs.declared.search.Turn.TheVariants.{Found, Further, Over}

-- if there is a counterexample, both of its derivations have one text
abbrev pub IfUnifying : Option ExampleOf → Type 0
IfUnifying found = IfSome found (λ x. IsTrue x.ambiguous)

-- the states of the ends, in order
abbrev pub state_of : {S : Type 0} → (S → ℕ) → End S → ℕ
state_of index x = index x.state.0

abbrev pub states_of : {S : Type 0} → (S → ℕ) → AccessPaths S → List ℕ
states_of index paths = map (state_of index) paths.ends.items

-- how many ends and configurations a search has tried
abbrev pub tried_in : {S : Type 0} → Search S → ℕ
tried_in search = search.paths.queue.popped + search.queue.popped

-- each end and each configuration that the search has come to was tried
abbrev pub IsOver : {S : Type 0} → Search S → Type 0
IsOver search = IsEmptied search.paths.queue × IsEmptied search.queue

-- the first end is this state
abbrev pub StartsAt : {S : Type 0} → (S → ℕ) → ℕ → AccessPaths S → Type 0
StartsAt index state paths = (more : List ℕ) × (states_of index paths ≡ state ∷ more)

-- the first end stays the same
abbrev pub KeepsStart : {S : Type 0} → (S → ℕ) → AccessPaths S → AccessPaths S → Type 0
KeepsStart index old new = (state : ℕ) → StartsAt index state old → StartsAt index state new

-- an end was tried, if one was left
abbrev pub TriesEnd : {S : Type 0} → AccessPaths S → AccessPaths S → Type 0
TriesEnd old new = HasItems old.queue → new.queue.popped ≡ old.queue.popped + 1

-- the search begins at this state, and has come to nothing else and tried nothing
abbrev pub IsNewSearch : {S : Type 0} → (S → ℕ) → StIdx S → Search S → Type 0
IsNewSearch index state search = StartsAt index (index state.0) search.paths × HasOne search.paths.queue × IsNew search.queue

-- an end is left; or none is left, if no configuration is
abbrev pub LooksFirst : {S : Type 0} → Search S → Bool → Type 0
LooksFirst search first = MatchBool first (HasItems search.paths.queue) (IsEmptied search.queue → IsEmptied search.paths.queue)

-- a turn has tried one end or configuration; or nothing is left, and it has tried none
abbrev pub HasTurned : {S : Type 0} → Search S → Search S → Turn → Type 0
HasTurned old new (Found n) = tried_in new ≡ tried_in old + 1
HasTurned old new Further = tried_in new ≡ tried_in old + 1
HasTurned old new Over = IsOver new × (tried_in new ≡ tried_in old)

-- a turn has ended so, and the search still begins at the same state
abbrev pub EndsTurn : {S : Type 0} → (S → ℕ) → Search S → Search S → Turn → Type 0
EndsTurn index old new turn = HasTurned old new turn × KeepsStart index old.paths new.paths

-- a search has tried as much as the bound allows, or all that it has come to
abbrev pub EndsWithin : {S : Type 0} → ℕ → Search S → Type 0
EndsWithin bound search = (tried_in search ≡ bound) ⊎ IsOver search

-- the search from the conflict's state has tried no more than the bound allows. It has a counterexample whose derivations have one text,
-- or it has ended without one
abbrev pub FindsFor : {S : Type 0} → (S → ℕ) → Conflict S → ℕ → Option ExampleOf × Search S → Type 0
FindsFor index conflict bound found =
    StartsAt index (index conflict.state.0) found.1.paths × (tried_in found.1 ≤ bound)
    × MatchOption found.0 (EndsWithin bound found.1) (λ x. IsTrue x.ambiguous)
