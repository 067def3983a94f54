-- How much room there still is for tokens and exits, before and after some are added.
use Rattle.std.specs.Prelude.{◌≡◌, ◌<◌, ◌≤◌, Bool, List}
use Rattle.std.specs.Bool.{OnFalse, OnTrue}
use Rattle.std.specs.declared.alloc.Global.{Global}
use Rattle.std.specs.declared.vec.Vec.{Vec}
use Rattle.lrpar_grammar.specs.Tokens.{missing}
use Rattle.lrpar_grammar.specs.declared.token_set.TokenSet.{TokenSet}
use Rattle.lrpar_table_pops.specs.Exits.{room_left}
use Rattle.lrpar_table_pops.specs.Growth.{KeepRoom}
use Rattle.lrpar_table_pops.specs.Sets.{room_in}
use Rattle.lrpar_table_pops.specs.StoredPops.{room_at, room_of}
use Rattle.lrpar_table_pops.specs.declared.exits.Exit.{Exit}
use Rattle.lrpar_table_pops.specs.declared.found.Found.{Found}
use Rattle.lrpar_table_pops.specs.declared.pops.StateExits.{StateExits}

-- if the result is true, the set has room for fewer tokens than before
abbrev pub GainsToken : List Bool → List Bool → Bool → Type 0
GainsToken old new result = OnTrue result (missing new < missing old)

-- if the result is true, the exits have room for fewer lookaheads than before
abbrev pub GainsLookahead : List Exit → List Exit → Bool → Type 0
GainsLookahead old new result = OnTrue result (room_left new < room_left old)

-- if the result is true, there is room for fewer exits of states than before
abbrev pub LosesRoom : List StateExits → List StateExits → Bool → Type 0
LosesRoom old new result = OnTrue result (room_of new < room_of old)

-- there is room for no more exits of states than before
abbrev pub HasNoMoreRoom : List StateExits → List StateExits → Type 0
HasNoMoreRoom old new = room_of new ≤ room_of old

-- if the result is true, there is room for fewer exits of the state than before
abbrev pub LosesRoomAt : StateExits → StateExits → Bool → Type 0
LosesRoomAt old new result = OnTrue result (room_at new < room_at old)

-- if the result is true, gotos are left to follow at fewer tokens than before
abbrev pub FollowsMore : Found → Found → Bool → Type 0
FollowsMore old new result = OnTrue result (room_in new.followed.items < room_in old.followed.items)

-- gotos are left to follow at no more tokens than before
abbrev pub FollowsNoLess : Found → Found → Type 0
FollowsNoLess old new = room_in new.followed.items ≤ room_in old.followed.items

-- the set of each rule is for as many tokens as before; no more tokens are missing in the sets, and fewer if the result is true; if it is
-- false, the sets are equal to the old ones
pub record SetsGrow (result : Bool) (old new : Vec TokenSet Global) : Type 0 where
  pub keeps_room : KeepRoom old.items new.items
  pub same : OnFalse result (new.items ≡ old.items)
  pub room : room_in new.items ≤ room_in old.items
  pub grown : OnTrue result (room_in new.items < room_in old.items)

-- the exits that are found, and the tokens of reductions, are kept
abbrev pub KeepsFound : Found → Found → Type 0
KeepsFound old new = (new.exits ≡ old.exits) × (new.reduced ≡ old.reduced)

-- the tokens of reductions, and those at which gotos were followed, are kept
abbrev pub KeepsSets : Found → Found → Type 0
KeepsSets old new = (new.reduced ≡ old.reduced) × (new.followed ≡ old.followed)

-- the sets of tokens of reductions, and of tokens at which gotos were followed, have as much room as before
abbrev pub KeepsSetRoom : Found → Found → Type 0
KeepsSetRoom old new = KeepRoom old.reduced.items new.reduced.items × KeepRoom old.followed.items new.followed.items
