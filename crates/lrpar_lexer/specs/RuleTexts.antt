-- The rules that a text gives for a grammar, one a line.
use Rattle.std.specs.Prelude.{◌≡◌, ◌≢◌, ℕ, ◌-◌, ◌<◌, List, length, take, ⊤, Option, Some, None, IsSome, Vec, bytes_eq, slice_get}
use Rattle.std.specs.List.{AllZip, position}
use Rattle.regex.specs.Patterns.{default_config}
use Rattle.regex.specs.Failures.{IsRightKind}
use Rattle.regex.specs.Sources.{IsRefusal}
use Rattle.regex.specs.declared.error.Error.{Error}
use Rattle.regex.specs.declared.error.Error.TheVariants.{Internal, OutOfMemory}
use Rattle.lrpar_grammar.specs.Grammar.{Grammar}
use Rattle.lrpar_grammar_places.specs.declared.span.TIdx.{TIdx}
use Rattle.lrpar_lexer.specs.RuleLines.{ReadsAs, core_of, cores_of, text_lines}
use Rattle.lrpar_lexer.specs.Rules.{HasPattern, token_of}
use Rattle.lrpar_lexer.specs.declared.rule.LexRule.{LexRule}
use Rattle.lrpar_lexer.specs.declared.rules.LineFault.{LineFault}
use Rattle.lrpar_lexer.specs.declared.rules.LineFault.TheVariants.{Unread, Unnamed, Pattern}
use Rattle.lrpar_lexer.specs.declared.rules.RulesFault.{RulesFault}
use Rattle.lrpar_lexer.specs.declared.rules.RulesFault.TheVariants.{Line, Memory}

-- the first token of the grammar with that name
abbrev pub first_named : Grammar → List ℕ → Option ℕ
first_named grammar name = position (λ token. bytes_eq token.name name) grammar.tokens

-- the token of a rule: the first token of the grammar with that name, which must exist; without a name, no token
abbrev pub IsTokenOf : Grammar → Option (List ℕ) → Option ℕ → Type 0
IsTokenOf grammar None token = token ≡ None
IsTokenOf grammar (Some name) token = (token ≡ first_named grammar name) × IsSome token

-- the rule is the one of the line: its pattern is what `regex` reads in the line's pattern, and its token is that of the line's name;
-- `index` gives the number of a value of the storage type
pub record IsRuleOf {S : Type 0} (index : S → ℕ) (grammar : Grammar) (line : List ℕ) (rule : LexRule S) : Type 0 where
  pub pattern : List ℕ
  pub name : Option (List ℕ)
  pub reads : ReadsAs line pattern name
  pub has_pattern : HasPattern pattern rule
  pub has_token : IsTokenOf grammar name (token_of index rule)

-- there is one rule for each line that isn't blank, in the order of the lines, and it is the rule of that line
abbrev pub AreRulesOf : {S : Type 0} → (S → ℕ) → Grammar → List (List ℕ) → List (LexRule S) → Type 0
AreRulesOf index grammar lines rules = AllZip (IsRuleOf index grammar) (cores_of lines) rules

-- `regex` refuses the pattern with this error, which is neither `OutOfMemory` nor `Internal`: the grammar of patterns refuses it, or its
-- program would be too big
abbrev pub IsRefusalOf : List ℕ → Error → Type 0
IsRefusalOf pattern error = (error ≢ OutOfMemory) × (error ≢ Internal) × IsRefusal default_config pattern error × IsRightKind default_config pattern error

-- The line gives no rule, for this reason: it doesn't read as one; or it does, and its name is of no token of the grammar; or it does, and
-- `regex` refuses its pattern with this error.
abbrev pub SaysNoRule : Grammar → List ℕ → LineFault → Type 0
SaysNoRule grammar line Unread = (pattern : List ℕ) (name : Option (List ℕ)) → ¬ (ReadsAs line pattern name)
SaysNoRule grammar line Unnamed = (pattern name : List ℕ) × ReadsAs line pattern (Some name) × (first_named grammar name ≡ None)
SaysNoRule grammar line (Pattern error) = (pattern : List ℕ) × (name : Option (List ℕ)) × ReadsAs line pattern name × IsRefusalOf pattern error

-- line `number`, counted from 1, isn't blank and gives no rule for this reason, and the lines before it give rules, blank ones aside
pub record IsFirstFault {S : Type 0} (index : S → ℕ) (grammar : Grammar) (lines : List (List ℕ)) (number : ℕ) (why : LineFault) : Type 0 where
  pub line : List ℕ
  pub from_one : 0 < number
  pub is : slice_get lines (number - 1) ≡ Some line
  pub counts : 0 < length (core_of line)
  pub says_none : SaysNoRule grammar (core_of line) why
  pub rules : List (LexRule S)
  pub before : AreRulesOf index grammar (take (number - 1) lines) rules

-- `IsSuch` holds for the line and the reason of the fault, unless the fault is `Memory`
abbrev pub NamesLine : (ℕ → LineFault → Type 0) → RulesFault → Type 0
NamesLine IsSuch (Line number why) = IsSuch number why
NamesLine IsSuch Memory = ⊤

-- the fault is that of the first line, blank ones aside, that gives no rule, with the reason; or it is `Memory`
abbrev pub IsRulesFaultOf : {S : Type 0} → (S → ℕ) → Grammar → List ℕ → RulesFault → Type 0
IsRulesFaultOf index grammar text fault = NamesLine (IsFirstFault index grammar (text_lines text)) fault

-- the fault names line `number`, and a reason why this line gives no rule; or it is `Memory`
abbrev pub IsFaultOfLine : Grammar → ℕ → List ℕ → RulesFault → Type 0
IsFaultOfLine grammar number line fault = NamesLine (λ n why. (n ≡ number) × SaysNoRule grammar line why) fault

-- the fault names line `number`, whose pattern is refused with this error, which isn't `OutOfMemory`; or it is `Memory`
abbrev pub IsFaultOfPattern : ℕ → Error → RulesFault → Type 0
IsFaultOfPattern number error fault = NamesLine (λ n why. (n ≡ number) × (why ≡ Pattern error) × (error ≢ OutOfMemory)) fault

-- the fault names line `number`, whose name is of no token of the grammar; or it is `Memory`
abbrev pub IsFaultOfName : Grammar → ℕ → List ℕ → RulesFault → Type 0
IsFaultOfName grammar number name fault =
    NamesLine (λ n why. (n ≡ number) × (why ≡ Unnamed) × (first_named grammar name ≡ None)) fault

-- the token is the first of the grammar with that name
abbrev pub IsFirstNamed : {S : Type 0} → (S → ℕ) → Grammar → List ℕ → TIdx S → Type 0
IsFirstNamed index grammar name token = first_named grammar name ≡ Some (index token.0)

-- the rules are those of the text
abbrev pub AreRulesOfText : {S A : Type 0} → (S → ℕ) → Grammar → List ℕ → Vec (LexRule S) A → Type 0
AreRulesOfText index grammar text rules = AreRulesOf index grammar (text_lines text) rules.items
