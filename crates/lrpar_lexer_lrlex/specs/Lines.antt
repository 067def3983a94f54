-- What a line of a rule says.
use Rattle.std.specs.Prelude.{ℕ, List, Option, option_map, Result, Ok, string_bytes}
use Rattle.lrpar_grammar.specs.Grammar.{Grammar}
use Rattle.lrpar_grammar_places.specs.declared.span.Span.{Span}
use Rattle.lrpar_lexer_lrlex.specs.declared.fault.LrlexFault.{LrlexFault}
use Rattle.lrpar_lexer_lrlex.specs.declared.line.Line as code
use Rattle.lrpar_lexer_lrlex.specs.declared.part.Part as code_part
use Rattle.lrpar_lexer_lrlex.specs.declared.states.StateName as code_state
use Rattle.lrpar_lexer_lrlex.specs.Escapes.{unescaped}
use Rattle.lrpar_lexer_lrlex.specs.Faults.{◌>>=◌, Gives}
use Rattle.lrpar_lexer_lrlex.specs.LineParts.{line_parts}
use Rattle.lrpar_lexer_lrlex.specs.Names.{states_of, target_of, token_of}
use Rattle.lrpar_lexer_lrlex.specs.Parts.{Part, placed, span_of}
use Rattle.lrpar_lexer_lrlex.specs.States.{StateName, Target, plain_names, plain_target}

-- what a line of a rule says: its pattern as `regex` gets it, and where the pattern is, the states in front, the target and the token
pub record Line : Type 0 where
  pub pattern : List ℕ
  pub place : Span
  pub states : List ℕ
  pub target : Option Target
  pub token : Option ℕ

-- what a line says, or its first fault, a refused pattern aside: its parts, then the states in front, then the target, then the name
abbrev pub read_line : Grammar → List StateName → Part → Result Line LrlexFault
read_line grammar states line =
    line_parts line >>= λ parts.
    states_of states parts.states >>= λ numbers.
    target_of states parts.target >>= λ target.
    token_of grammar parts.name >>= λ token.
    Ok (record { pattern = unescaped (parts.pattern.bytes); place = span_of parts.pattern; states = numbers; target = target; token = token })

-- what a line says, as it is stored; `index` gives the number of a value of the storage type
abbrev pub plain_line : {S : Type 0} → (S → ℕ) → code.Line S → Line
plain_line index line = record {
  pattern = string_bytes line.pattern;
  place = line.place;
  states = line.states.items;
  target = option_map plain_target line.target;
  token = option_map (λ token. index token.0) line.token;
}

-- what the line says is given, or its fault; the fault may also be `Memory`
abbrev pub GivesLine : {S : Type 0} → (S → ℕ) → Grammar → List code_state.StateName → code_part.Part → Result (code.Line S) LrlexFault → Type 0
GivesLine index grammar states line result = Gives (plain_line index) (read_line grammar (plain_names states) (placed line)) result
