-- The rules that a `.l` file gives for a grammar.
use Rattle.std.specs.Prelude.{◌≡◌, ◌≢◌, ◌⊎◌, ℕ, ◌==◌, ◌||◌, ◌&&◌, Bool, not, List, [], ◌∷◌, length, map, filter, ⊤, Option, Vec, option_map, Ok, Err}
use Rattle.regex.specs.Patterns.{Config}
use Rattle.regex.specs.Failures.{IsRightKind}
use Rattle.regex.specs.Sources.{IsRefusal}
use Rattle.regex.specs.declared.error.Error.{Error}
use Rattle.regex.specs.declared.error.Error.TheVariants.{Internal, OutOfMemory}
use Rattle.lrpar_grammar.specs.Grammar.{Grammar}
use Rattle.lrpar_grammar_places.specs.declared.span.Span.{Span}
use Rattle.lrpar_lexer.specs.Rules.{HasPatternBy, token_of}
use Rattle.lrpar_lexer.specs.declared.rule.LexRule.{LexRule}
use Rattle.lrpar_lexer_lrlex.specs.declared.fault.LrlexFault.{LrlexFault}
use Rattle.lrpar_lexer_lrlex.specs.declared.fault.LrlexFault.TheVariants.{Memory, Pattern}
use Rattle.lrpar_lexer_lrlex.specs.declared.flags.TextFlags.{TextFlags}
use Rattle.lrpar_lexer_lrlex.specs.declared.part.Part as code
use Rattle.lrpar_lexer_lrlex.specs.declared.rules.LrlexRules.{LrlexRules}
use Rattle.lrpar_lexer_lrlex.specs.declared.states.StateName as code_state
use Rattle.lrpar_lexer_lrlex.specs.declared.states.Starts.{Starts}
use Rattle.lrpar_lexer_lrlex.specs.Declarations.{declarations}
use Rattle.lrpar_lexer_lrlex.specs.Flags.{header}
use Rattle.lrpar_lexer_lrlex.specs.Lines.{Line, read_line}
use Rattle.lrpar_lexer_lrlex.specs.Parts.{Part, is_comment, pieces, pieces_left, placed, placed_if, trimmed, whole}
use Rattle.lrpar_lexer_lrlex.specs.States.{StateName, plain_names, plain_target}

-- the line has a rule: it isn't empty, and no comment
abbrev pub counts : TextFlags → Part → Bool
counts flags line = not (length line.bytes == 0 || flags.comments && is_comment line)

-- the lines that have rules, without what is white at their ends
abbrev pub rule_lines : TextFlags → List Part → List Part
rule_lines flags lines = filter (counts flags) (map trimmed lines)

module _ {S : Type 0} (index : S → ℕ) (grammar : Grammar) (flags : TextFlags) (states : List StateName) where
  -- the rule, with its states and its target, is the one of the line; `index` gives the number of a value of the storage type
  pub record IsRuleOf (line : Part) (rule : LexRule S) (start : Starts) : Type 0 where
    pub says : Line
    pub read : read_line grammar states line ≡ Ok says
    pub has_pattern : HasPatternBy flags.config says.pattern rule
    pub has_token : token_of index rule ≡ says.token
    pub has_states : start.states.items ≡ says.states
    pub has_target : option_map plain_target start.target ≡ says.target

  -- there is one rule for each line, in the order of the lines
  abbrev pub AreRulesOf : List Part → List (LexRule S) → List Starts → Type 0
  AreRulesOf [] [] [] = ⊤
  AreRulesOf (line ∷ lines) (rule ∷ rules) (start ∷ starts) = IsRuleOf line rule start × AreRulesOf lines rules starts
  AreRulesOf _ _ _ = ⊥

-- `regex` refuses the line's pattern with this error, which is neither `OutOfMemory` nor `Internal`
abbrev pub IsPatternFault : Config → Line → LrlexFault → Type 0
IsPatternFault config says (Pattern place error) =
    (place ≡ says.place) × (error ≢ OutOfMemory) × (error ≢ Internal) × IsRefusal config says.pattern error × IsRightKind config says.pattern error
IsPatternFault config says _ = ⊥

-- the line gives no rule, with this fault
abbrev pub HasFault : Grammar → TextFlags → List StateName → Part → LrlexFault → Type 0
HasFault grammar flags states line fault =
    (read_line grammar states line ≡ Err fault)
    ⊎ ((says : Line) × (read_line grammar states line ≡ Ok says) × IsPatternFault flags.config says fault)

-- the first line that gives no rule has this fault
abbrev pub IsFirstFault : {S : Type 0} → (S → ℕ) → Grammar → TextFlags → List StateName → List Part → LrlexFault → Type 0
IsFirstFault index grammar flags states [] fault = ⊥
IsFirstFault {S = S} index grammar flags states (line ∷ lines) fault =
    HasFault grammar flags states line fault
    ⊎ ((rule : LexRule S) × (start : Starts) × IsRuleOf index grammar flags states line rule start
    × IsFirstFault index grammar flags states lines fault)

-- the rules are those of the text: its flags come first, then the start states, and after the line `%%` the rules
pub record IsReadFrom {S : Type 0} (index : S → ℕ) (grammar : Grammar) (text : List ℕ) (rules : LrlexRules S) : Type 0 where
  pub flags : TextFlags
  pub rest : Part
  pub has_header : header (whole text) ≡ Ok (flags, rest)
  pub states : List StateName
  pub lines : List Part
  pub declares : declarations (pieces 10 rest) ≡ Ok (states, lines)
  pub has_states : rules.exclusive.items ≡ map (λ s. s.exclusive) states
  pub has_rules : AreRulesOf index grammar flags states (rule_lines flags lines) rules.rules.items rules.starts.items

-- the text has this fault, which is its first: in its flags, else in its start states, else in a line of a rule
pub data HasFirstFault {S : Type 0} (index : S → ℕ) (grammar : Grammar) (text : List ℕ) (fault : LrlexFault) : Type 0 where
  in_header : header (whole text) ≡ Err fault → HasFirstFault index grammar text fault
  in_states : (flags : TextFlags) (rest : Part) → header (whole text) ≡ Ok (flags, rest) → declarations (pieces 10 rest) ≡ Err fault
      → HasFirstFault index grammar text fault
  in_rules : (flags : TextFlags) (rest : Part) (states : List StateName) (lines : List Part) → header (whole text) ≡ Ok (flags, rest)
      → declarations (pieces 10 rest) ≡ Ok (states, lines) → IsFirstFault index grammar flags states (rule_lines flags lines) fault
      → HasFirstFault index grammar text fault

-- the lines that have rules, of what is left of the text
abbrev pub rule_lines_in : TextFlags → Option code.Part → List Part
rule_lines_in flags left = rule_lines flags (pieces_left 10 (placed_if left))

module _ {S : Type 0} (index : S → ℕ) (grammar : Grammar) (states : List code_state.StateName) (flags : TextFlags) where
  -- the rules, with their states and targets, are those of the lines that are left
  abbrev pub AreRulesIn : {A B : Type 0} → Option code.Part → Vec (LexRule S) A × Vec Starts B → Type 0
  AreRulesIn left found =
      AreRulesOf index grammar flags (plain_names states) (rule_lines_in flags left) found.0.items found.1.items

  -- the first of these lines that gives no rule has this fault; or it is `Memory`
  abbrev pub IsFirstFaultIn : Option code.Part → LrlexFault → Type 0
  IsFirstFaultIn left fault = fault ≢ Memory → IsFirstFault index grammar flags (plain_names states) (rule_lines_in flags left) fault

  -- the rule, with its states and its target, is the one of the line
  abbrev pub IsRuleIn : code.Part → LexRule S × Starts → Type 0
  IsRuleIn line found = IsRuleOf index grammar flags (plain_names states) (placed line) found.0 found.1

-- the line gives no rule, with this fault; or it is `Memory`
abbrev pub IsFaultIn : Grammar → List code_state.StateName → TextFlags → code.Part → LrlexFault → Type 0
IsFaultIn grammar states flags line fault = fault ≢ Memory → HasFault grammar flags (plain_names states) (placed line) fault

-- there are as many states and targets as rules
abbrev pub ArePaired : {S A B : Type 0} → Vec (LexRule S) A × Vec Starts B → Type 0
ArePaired found = length found.1.items ≡ length found.0.items

-- `regex` refuses the pattern at this place, with this error; or the fault is `Memory`
abbrev pub IsRefusedAt : Span → Error → LrlexFault → Type 0
IsRefusedAt place error fault = fault ≢ Memory → (fault ≡ Pattern place error) × (error ≢ OutOfMemory)

-- the fault is the first of the text; or it is `Memory`
abbrev pub IsLrlexFaultOf : {S : Type 0} → (S → ℕ) → Grammar → List ℕ → LrlexFault → Type 0
IsLrlexFaultOf index grammar text fault = fault ≢ Memory → HasFirstFault index grammar text fault
