-- The lines before `%%`, which declare start states.
use Rattle.std.specs.Prelude.{◌==◌, ◌||◌, Bool, true, false, not, List, [], ◌∷◌, ◌++◌, length, Option, Some, None, is_some, is_none, option_map, Result, Ok, Err, codes, bytes_eq, if◌then◌else◌, Vec}
use Rattle.lrpar_lexer_lrlex.specs.declared.fault.LrlexFault.{LrlexFault}
use Rattle.lrpar_lexer_lrlex.specs.declared.fault.LrlexFault.TheVariants.{Declaration, NoRules, RepeatedState, StateName}
use Rattle.lrpar_lexer_lrlex.specs.declared.part.Part as code
use Rattle.lrpar_lexer_lrlex.specs.declared.states.StateName as code_state
use Rattle.lrpar_lexer_lrlex.specs.Faults.{◌>>=◌, Keeps}
use Rattle.lrpar_lexer_lrlex.specs.Parts.{Part, after_cut, after_word, before_cut, is_comment, pieces_left, placed, span_of, trimmed}
use Rattle.lrpar_lexer_lrlex.specs.States as states
use Rattle.lrpar_lexer_lrlex.specs.States.{is_state_name, plain_names, state_named}

-- the states after one more with that name; an empty name says nothing
abbrev pub declare_one : List states.StateName → Part → Bool → Result (List states.StateName) LrlexFault
declare_one states name exclusive =
    if length name.bytes == 0 then Ok states
    else if not (is_state_name name.bytes) then Err (StateName (span_of name))
    else if is_some (state_named states name.bytes) then Err (RepeatedState (span_of name))
    else Ok (states ++ record { name = name.bytes; exclusive = exclusive } ∷ [])

abbrev pub declare_each : List states.StateName → List Part → Bool → Result (List states.StateName) LrlexFault
declare_each states [] exclusive = Ok states
declare_each states (name ∷ names) exclusive = declare_one states (trimmed name) exclusive >>= λ states. declare_each states names exclusive

-- the states after those of a line, whose names come after a space, with spaces between them
abbrev pub declare_all : List states.StateName → Part → Part → Bool → Result (List states.StateName) LrlexFault
declare_all states line names exclusive =
    if not (length (before_cut 32 names).bytes == 0) || is_none (after_cut 32 names) then Err (Declaration (span_of line))
    else declare_each states (pieces_left 32 (after_cut 32 names)) exclusive

-- the states after a line: `%x NAMES` declares exclusive ones, `%s NAMES` inclusive ones; an empty line and a comment say nothing
abbrev pub declare_by : List states.StateName → Part → Option Part → Option Part → Result (List states.StateName) LrlexFault
declare_by states line (Some names) other = declare_all states line names true
declare_by states line None (Some names) = declare_all states line names false
declare_by states line None None = Err (Declaration (span_of line))

abbrev pub declare : List states.StateName → Part → Result (List states.StateName) LrlexFault
declare states line =
    if length line.bytes == 0 || is_comment line then Ok states
    else declare_by states line (after_word (codes "%x") line) (after_word (codes "%s") line)

-- the line ends the declarations
abbrev pub is_rules_sign : Part → Bool
is_rules_sign line = bytes_eq line.bytes (codes "%%")

-- the states after these lines up to the first line `%%`, and the lines after that
abbrev pub declared : List states.StateName → List Part → Result (List states.StateName × List Part) LrlexFault
declared states [] = Err NoRules
declared states (line ∷ lines) =
    if is_rules_sign (trimmed line) then Ok (states, lines)
    else declare states (trimmed line) >>= λ states. declared states lines

-- the state `INITIAL` and the states that a text's lines declare, up to the first line `%%`; and the lines after that
abbrev pub declarations : List Part → Result (List states.StateName × List Part) LrlexFault
declarations lines = declared (record { name = codes "INITIAL"; exclusive = false } ∷ []) lines

abbrev pub plain_declared : {Z : Type 0} → Vec code_state.StateName Z × Option code.Part → List states.StateName × List Part
plain_declared (states, rest) = (plain_names states.items, pieces_left 10 (option_map (λ p. placed p) rest))

module _ {T Z : Type 0} (old : Vec code_state.StateName Z) where
  -- the states that a line declares were added, or this is its fault; the fault may also be `Memory`
  abbrev pub AddsStates : code.Part → Vec code_state.StateName Z → Result T LrlexFault → Type 0
  AddsStates line new result = Keeps (plain_names new.items) (declare (plain_names old.items) (placed line)) result

  -- the states with these names, which are exclusive or not, were added, or this is their first fault; the fault may also be `Memory`
  abbrev pub AddsAllStates : code.Part → code.Part → Bool → Vec code_state.StateName Z → Result T LrlexFault → Type 0
  AddsAllStates line names exclusive new result =
      Keeps (plain_names new.items) (declare_all (plain_names old.items) (placed line) (placed names) exclusive) result

  -- the state with this name, which is exclusive or not, was added, or this is its fault; the fault may also be `Memory`
  abbrev pub AddsState : code.Part → Bool → Vec code_state.StateName Z → Result T LrlexFault → Type 0
  AddsState name exclusive new result = Keeps (plain_names new.items) (declare_one (plain_names old.items) (placed name) exclusive) result
