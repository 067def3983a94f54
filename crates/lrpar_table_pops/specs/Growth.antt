-- How sets of tokens, and exits, grow: what there is stays, and nothing is left out for which there is room.
use Rattle.std.specs.Prelude.{◌≡◌, ◌<◌, ℕ, Bool, Contains, IsTrue, List, Some, length, map, slice_get, take}
use Rattle.lrpar_grammar.specs.Grammar.{Grammar, end_token, rules_len, tokens_len}
use Rattle.lrpar_grammar.specs.Tokens.{has}
use Rattle.lrpar_table_pops.specs.Exits.{IsIndexOf}
use Rattle.lrpar_table_pops.specs.Pops.{Control, Done, Dropping, Reading}
use Rattle.lrpar_table_pops.specs.Sets.{tokens_by}
use Rattle.lrpar_table_pops.specs.declared.exits.Exit.{Exit}
use Rattle.lrpar_table_pops.specs.declared.exits.Way.{Way}
use Rattle.lrpar_table_pops.specs.declared.exits.Way.TheVariants.{Acceptance, Reduction}

-- the tokens are kept, with as much room; and each token with P for which there is room is one of them
pub record AddsAll (P : ℕ → Type 0) (old new : List Bool) : Type 0 where
  pub room : length new ≡ length old
  pub kept : (t : ℕ) → IsTrue (has old t) → IsTrue (has new t)
  pub more : (t : ℕ) → P t → t < length old → IsTrue (has new t)

-- the sets have room for each token of the grammar, for each of its rules
abbrev pub HaveRoomFor : Grammar → List (List Bool) → Type 0
HaveRoomFor g sets = (r : ℕ) → r < rules_len g → length (tokens_by sets r) ≡ tokens_len g

-- the set of each rule has as much room
abbrev pub KeepRoom : List (List Bool) → List (List Bool) → Type 0
KeepRoom old new = (r : ℕ) → length (tokens_by new r) ≡ length (tokens_by old r)

-- one of the exits is this way
abbrev pub HasWay : List Exit → Way → Type 0
HasWay exits way = (exit : Exit) × Contains exits exit × (exit.way ≡ way)

-- each exit has room for this number of tokens
abbrev pub HaveRoom : ℕ → List Exit → Type 0
HaveRoom n exits = (exit : Exit) → Contains exits exit → length exit.tokens ≡ n

-- the exits are this way and that, with room, as before
pub record KeepsWays (old new : List Exit) : Type 0 where
  pub ways : (way : Way) → HasWay old way → HasWay new way
  pub rooms : (n : ℕ) → HaveRoom n old → HaveRoom n new

-- the first exit this way has the lookahead; a state has one exit a way
abbrev pub HasLookahead : List Exit → Way → ℕ → Type 0
HasLookahead exits way t =
    (place : ℕ) × (exit : Exit) × (slice_get exits place ≡ Some exit) × (exit.way ≡ way) × ¬ (HasWay (take place exits) way) × IsTrue (has exit.tokens t)

-- at this place is the first exit this way
abbrev pub IsFirstOf : List Exit → Way → ℕ → Type 0
IsFirstOf exits way place = IsIndexOf exits way place × ¬ (HasWay (take place exits) way)

-- the tokens are all lookaheads of the first exit this way
abbrev pub AreLookaheadsOf : List Exit → Way → List Bool → Type 0
AreLookaheadsOf exits way tokens = (t : ℕ) → HasLookahead exits way t → IsTrue (has tokens t)

-- some exit this way has the lookahead
abbrev pub SomeHasLookahead : List Exit → Way → ℕ → Type 0
SomeHasLookahead exits way t = (exit : Exit) × Contains exits exit × (exit.way ≡ way) × IsTrue (has exit.tokens t)

-- the control of a run that leaves the state by one of the exits; a run that has accepted has the end token as lookahead
abbrev pub IsStored : Grammar → List Exit → Control → Type 0
IsStored g exits (Reading t) = ⊥
IsStored g exits (Dropping p left t) = HasLookahead exits (Reduction p left) t
IsStored g exits Done = HasLookahead exits Acceptance (end_token g)

-- the exits are kept, with their ways and their room; and each lookahead with Q is one of its way's, if there are this way and room
pub record GrowsBy (Q : Way → ℕ → Type 0) (old new : List Exit) : Type 0 where
  pub ways : (way : Way) → HasWay old way → HasWay new way
  pub rooms : (n : ℕ) → HaveRoom n old → HaveRoom n new
  pub kept : (way : Way) (t : ℕ) → HasLookahead old way t → HasLookahead new way t
  pub more : (way : Way) (t n : ℕ) → Q way t → HasWay old way → HaveRoom n old → t < n → HasLookahead new way t

-- the ways of the exits
abbrev pub ways_of : List Exit → List Way
ways_of exits = map (λ exit. exit.way) exits
