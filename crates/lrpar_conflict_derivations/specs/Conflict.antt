-- Conflicts of a state between two moves, and their counterexamples.
use Rattle.std.specs.Prelude.{◌≡◌, ◌≢◌, ◌<◌, ℕ}
use Rattle.lrpar_grammar.specs.Grammar.{Grammar, Terminal}
use Rattle.lrpar_table_rows.specs.Graph.{Graph, graph_len}
use Rattle.lrpar_table_rows.specs.Table.{ReduceReduce, ShiftReduce}
use Rattle.lrpar_table_first.specs.FirstRows.{dummy_lookahead}
use Rattle.lrpar_table_items.specs.Canonical.{HasAfterDot, HasReduce, sets_of}
use Rattle.lrpar_table_sentences.specs.Moves.{Makes, MoveOf, Takes, move_of}
use Rattle.lrpar_conflict_derivations.specs.Example.{ExampleOf, IsExample}
use Rattle.lrpar_conflict_derivations.specs.declared.configurations.Conflict.{Conflict}

-- a conflict: its state, its token, and the moves by which the two derivations go on
pub record ConflictOf : Type 0 where
  pub state : ℕ
  pub token : ℕ
  pub one : MoveOf
  pub other : MoveOf

-- a conflict as it is stored, with numbers for its state, its token and its moves
abbrev pub conflict_of : {S : Type 0} → (S → ℕ) → Conflict S → ConflictOf
conflict_of index x = record { state = index x.state.0; token = index x.token.0; one = move_of index x.one; other = move_of index x.other }

-- a reduce/reduce conflict: both derivations reduce
abbrev pub between_reductions : ReduceReduce → ConflictOf
between_reductions x = record { state = x.state; token = x.token; one = Makes x.first; other = Makes x.second }

-- a shift/reduce conflict: one derivation reduces, the other shifts the token
abbrev pub with_shift : ShiftReduce → ConflictOf
with_shift x = record { state = x.state; token = x.token; one = Makes x.prod; other = Takes x.token }

-- a counterexample of the conflict
abbrev pub IsExampleOf : Grammar → Graph → ConflictOf → ExampleOf → Type 0
IsExampleOf g graph conflict = IsExample g graph conflict.state conflict.token conflict.one conflict.other

-- a counterexample of a reduce/reduce conflict, and of a shift/reduce conflict
abbrev pub IsReduceReduceExample : Grammar → Graph → ReduceReduce → ExampleOf → Type 0
IsReduceReduceExample g graph x = IsExampleOf g graph (between_reductions x)

abbrev pub IsShiftReduceExample : Grammar → Graph → ShiftReduce → ExampleOf → Type 0
IsShiftReduceExample g graph x = IsExampleOf g graph (with_shift x)

-- an item of the state calls for the move at the token: a complete one for a reduction, one with the token after its dot for a shift
abbrev pub CallsFor : Grammar → Graph → ℕ → ℕ → MoveOf → Type 0
CallsFor g graph s token (Makes p) = HasReduce g (sets_of graph) s token p
CallsFor g graph s token (Takes t) = (t ≡ token) × HasAfterDot g (sets_of graph) s (Terminal token)

-- items of the state call for both moves at the token, and the moves differ
pub record IsConflict (g : Grammar) (graph : Graph) (conflict : ConflictOf) : Type 0 where
  pub state : conflict.state < graph_len graph
  pub token : conflict.token < dummy_lookahead g
  pub one : CallsFor g graph conflict.state conflict.token conflict.one
  pub other : CallsFor g graph conflict.state conflict.token conflict.other
  pub apart : conflict.one ≢ conflict.other
