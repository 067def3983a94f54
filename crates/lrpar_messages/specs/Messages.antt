-- Messages for the states in which a run can stop, one for all states with the same kernel cores.
use Rattle.std.specs.Prelude.{◌≡◌, ◌<◌, ℕ, Contains, IfOk, List, MatchOption, Option, Result, Vec, get_or, length, map, string_bytes}
use Rattle.std.specs.Borrow.{Bor}
use Rattle.lrpar_grammar_places.specs.declared.span.StIdx.{StIdx}
use Rattle.lrpar_table_rows.specs.Graph.{Graph}
use Rattle.lrpar_table_check.specs.Checked.{Checked}
use Rattle.lrpar_messages.specs.Groups.{HaveSameKernel}
use Rattle.lrpar_messages.specs.declared.messages.Message.{Message}

-- a message: a state, and the text for all states with its kernel cores
pub record MessageOf : Type 0 where
  pub state : ℕ
  pub text : List ℕ

-- a message of the code
abbrev pub message_of : {S : Type 0} → (S → ℕ) → Message S → MessageOf
message_of index message = record { state = index message.state.0; text = string_bytes message.text }

-- messages of the code
abbrev pub messages_of : {S : Type 0} → (S → ℕ) → List (Message S) → List MessageOf
messages_of index messages = map (message_of index) messages

-- no message is for state s
abbrev pub HasNoMessage : Graph → List MessageOf → ℕ → Type 0
HasNoMessage graph messages s = (m : MessageOf) → Contains messages m → ¬ (HaveSameKernel graph m.state s)

-- the text is that of a message for state s
abbrev pub IsMessageFor : Graph → List MessageOf → ℕ → List ℕ → Type 0
IsMessageFor graph messages s text = (m : MessageOf) × Contains messages m × HaveSameKernel graph m.state s × (text ≡ m.text)

-- this is the text of a message for state s, and there is none only if no message is for it
abbrev pub FindsMessage : {X : Type 0} → (X → List ℕ) → Graph → List MessageOf → ℕ → Option X → Type 0
FindsMessage bytes graph messages s found = MatchOption found (HasNoMessage graph messages s) (λ text. IsMessageFor graph messages s (bytes text))

-- this is the text of a message for the state of code, and there is none only if no message is for it
abbrev pub Finds : {S : Type 0} → (S → ℕ) → Graph → List MessageOf → StIdx S → Option (Bor (List ℕ)) → Type 0
Finds index graph messages state found = FindsMessage (λ text. text.now) graph messages (index state.0) found

-- this is a message of code for the state of code, and there is none only if no message is for it
abbrev pub FindsEntry : {S : Type 0} → (S → ℕ) → Graph → List (Message S) → StIdx S → Option (Bor (Message S)) → Type 0
FindsEntry index graph messages state found =
    FindsMessage (λ message. string_bytes message.now.text) graph (messages_of index messages) (index state.0) found

-- no two messages are for states with the same kernel cores
abbrev pub AreApart : Graph → List MessageOf → Type 0
AreApart graph messages =
    (i j : ℕ) (d : MessageOf) → i < j → j < length messages → ¬ (HaveSameKernel graph (get_or messages i d).state (get_or messages j d).state)

-- no two of these messages of code are for states of the checked table with the same kernel cores
abbrev pub AreAllApart : {S A : Type 0} → (S → ℕ) → Checked → Vec (Message S) A → Type 0
AreAllApart index d messages = AreApart d.graph (messages_of index messages.items)

-- no two of the messages that come first are for states with the same kernel cores
abbrev pub AreApartBeside : {X : Type 0} → Graph → List MessageOf × X → Type 0
AreApartBeside graph checked = AreApart graph checked.0

-- if an entry made a message, none of these messages of code is for the state of that one
abbrev pub IsNew : {S E : Type 0} → (S → ℕ) → Checked → List (Message S) → Result (Message S) E → Type 0
IsNew index d messages made = IfOk made (λ message. HasNoMessage d.graph (messages_of index messages) (index message.state.0))
