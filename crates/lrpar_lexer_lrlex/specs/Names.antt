-- What the names of a line of a rule mean.
use Rattle.std.specs.Prelude.{ℕ, List, [], ◌∷◌, ◌++◌, Option, Some, None, Result, Ok, Vec, ok_or, option_map}
use Rattle.lrpar_grammar.specs.Grammar.{Grammar}
use Rattle.lrpar_grammar_places.specs.declared.span.TIdx.{TIdx}
use Rattle.lrpar_lexer.specs.RuleTexts.{first_named}
use Rattle.lrpar_lexer.specs.Rules.{number_of}
use Rattle.lrpar_lexer_lrlex.specs.declared.fault.LrlexFault.{LrlexFault}
use Rattle.lrpar_lexer_lrlex.specs.declared.fault.LrlexFault.TheVariants.{UnknownState, UnknownToken}
use Rattle.lrpar_lexer_lrlex.specs.declared.part.Part as code
use Rattle.lrpar_lexer_lrlex.specs.declared.states.StateName as code_state
use Rattle.lrpar_lexer_lrlex.specs.declared.states.Target as code_target
use Rattle.lrpar_lexer_lrlex.specs.Faults.{◌>>=◌, Gives, GivesExactly}
use Rattle.lrpar_lexer_lrlex.specs.Parts.{Part, after_byte, pieces_left, placed_if, span_of, trimmed}
use Rattle.lrpar_lexer_lrlex.specs.States.{StateName, Target, alone, plain_names, plain_target, pop, push, state_named}

-- the number of the state with that name
abbrev pub state_of : List StateName → Part → Result ℕ LrlexFault
state_of states name = ok_or (state_named states name.bytes) (UnknownState (span_of name))

-- the numbers so far, and then that of the state with this name
abbrev pub with_number_of : List StateName → List ℕ → Part → Result (List ℕ) LrlexFault
with_number_of states numbers name = state_of states name >>= λ number. Ok (numbers ++ number ∷ [])

-- the numbers so far, and then those of the states with these names
abbrev pub numbers_of : List StateName → List ℕ → List Part → Result (List ℕ) LrlexFault
numbers_of states numbers [] = Ok numbers
numbers_of states numbers (name ∷ names) = with_number_of states numbers (trimmed name) >>= λ numbers. numbers_of states numbers names

-- the numbers of the states with these names, which are between commas
abbrev pub states_of : List StateName → Option Part → Result (List ℕ) LrlexFault
states_of states names = numbers_of states [] (pieces_left 44 names)

-- what a target says: `+` in front of a state pushes it, `-` pops, and without a sign the state is left alone
abbrev pub signed : List StateName → Part → Option Part → Option Part → Result (Option Target) LrlexFault
signed states inside (Some name) minus = state_of states name >>= λ number. Ok (Some (push number))
signed states inside None (Some name) = state_of states name >>= λ number. Ok (Some pop)
signed states inside None None = state_of states inside >>= λ number. Ok (Some (alone number))

abbrev pub target_of : List StateName → Option Part → Result (Option Target) LrlexFault
target_of states None = Ok None
target_of states (Some inside) = signed states inside (after_byte 43 inside) (after_byte 45 inside)

-- the first token of the grammar with that name
abbrev pub token_of : Grammar → Option Part → Result (Option ℕ) LrlexFault
token_of grammar None = Ok None
token_of grammar (Some name) = ok_or (first_named grammar name.bytes) (UnknownToken (span_of name)) >>= λ token. Ok (Some token)

-- the numbers of the states with these names are given, or the fault of one of them; the fault may also be `Memory`
abbrev pub GivesStates : {A : Type 0} → List code_state.StateName → Option code.Part → Result (Vec ℕ A) LrlexFault → Type 0
GivesStates states names result = Gives (λ numbers. numbers.items) (states_of (plain_names states) (placed_if names)) result

-- what the target says is given, or its fault
abbrev pub GivesTarget : List code_state.StateName → Option code.Part → Result (Option code_target.Target) LrlexFault → Type 0
GivesTarget states target result = GivesExactly (option_map plain_target) (target_of (plain_names states) (placed_if target)) result

-- the token with that name is given, if there is a name, or its fault
abbrev pub GivesToken : {S : Type 0} → (S → ℕ) → Grammar → Option code.Part → Result (Option (TIdx S)) LrlexFault → Type 0
GivesToken index grammar name result = GivesExactly (number_of index) (token_of grammar (placed_if name)) result
