-- What is found of a state, when nothing is left out for which there is room.
use Rattle.std.specs.Prelude.{◌≡◌, ◌⊎◌, ◌<◌, ℕ, suc, Bool, IsTrue, List, length}
use Rattle.lrpar_grammar.specs.Grammar.{Grammar, end_token, tokens_len}
use Rattle.lrpar_grammar.specs.Tokens.{has}
use Rattle.lrpar_table_rows.specs.Graph.{Graph, HasCore}
use Rattle.lrpar_table_pops.specs.Closed.{IsBackIn, IsIncluded}
use Rattle.lrpar_table_pops.specs.Growth.{HasWay, HaveRoom, HaveRoomFor, KeepRoom}
use Rattle.lrpar_table_pops.specs.Pops.{Control, Done, Dropping, Reading}
use Rattle.lrpar_table_pops.specs.Sets.{tokens_by}
use Rattle.lrpar_table_pops.specs.declared.exits.Exit.{Exit}
use Rattle.lrpar_table_pops.specs.declared.exits.Way.{Way}
use Rattle.lrpar_table_pops.specs.declared.exits.Way.TheVariants.{Acceptance, Reduction}
use Rattle.lrpar_table_pops.specs.declared.found.Found.{Found}

-- the exits are those of state s, one for each core with a symbol before the dot, and one for a run that has accepted, with room for all
-- tokens
pub record AreExitsFor (g : Grammar) (graph : Graph) (s : ℕ) (exits : List Exit) : Type 0 where
  pub cores : (p left : ℕ) → HasCore graph s p (suc left) → HasWay exits (Reduction p left)
  pub accepted : HasWay exits Acceptance
  pub room : HaveRoom (tokens_len g) exits

-- there is room for all that is found of state s
pub record HasRoomFor (g : Grammar) (graph : Graph) (s : ℕ) (found : Found) : Type 0 where
  pub exits : AreExitsFor g graph s found.exits
  pub reduced : HaveRoomFor g found.reduced.items
  pub followed : HaveRoomFor g found.followed.items

-- the control is found
abbrev pub IsFoundIn : Grammar → Found → Control → Type 0
IsFoundIn g found q = IsIncluded g found.exits found.reduced.items q

-- what was found is kept, and so is the room; and each control with Q is found that has its place in the state
pub record FindsAll (g : Grammar) (Q : Control → Type 0) (old new : Found) : Type 0 where
  pub room : (graph : Graph) (s : ℕ) → HasRoomFor g graph s old → HasRoomFor g graph s new
  pub kept : (q : Control) → IsFoundIn g old q → IsFoundIn g new q
  pub more : (graph : Graph) (s : ℕ) (q : Control) → HasRoomFor g graph s old → Q q → IsBackIn g graph s q → IsFoundIn g new q

-- the sets of each rule are kept, with as much room; and each token with P for which there is room is one of its rule's
pub record SetsGrowBy (P : ℕ → ℕ → Type 0) (old new : List (List Bool)) : Type 0 where
  pub room : KeepRoom old new
  pub kept : (r t : ℕ) → IsTrue (has (tokens_by old r) t) → IsTrue (has (tokens_by new r) t)
  pub more : (r t : ℕ) → P r t → t < length (tokens_by old r) → IsTrue (has (tokens_by new r) t)

-- the goto of the rule was followed at the token, if the rule is reduced at it
abbrev pub IsDone : Found → ℕ → ℕ → Type 0
IsDone found rule t =
    IsTrue (has (tokens_by found.reduced.items rule) t) → t < length (tokens_by found.followed.items rule) → IsTrue (has (tokens_by found.followed.items rule) t)

-- the gotos that were followed are the old ones; or this one, at this token, too
abbrev pub FollowsOnly : ℕ → ℕ → Found → Found → Type 0
FollowsOnly rule token old new =
    (r t : ℕ) → IsTrue (has (tokens_by new.followed.items r) t) → IsTrue (has (tokens_by old.followed.items r) t) ⊎ ((r ≡ rule) × (t ≡ token))

-- the control is that of a run that leaves a state so, at this lookahead, with P; a run that has accepted has the end token as lookahead
abbrev pub IsAmong : Grammar → (Way → ℕ → Type 0) → Control → Type 0
IsAmong g P (Reading t) = ⊥
IsAmong g P (Dropping p left t) = P (Reduction p left) t
IsAmong g P Done = P Acceptance (end_token g)

-- nothing was added
abbrev pub IsUnchanged : Found → Found → Type 0
IsUnchanged old new = (new.exits ≡ old.exits) × (new.reduced.items ≡ old.reduced.items) × (new.followed.items ≡ old.followed.items)
