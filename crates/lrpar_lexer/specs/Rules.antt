-- The rules of a lexer.
use Rattle.std.specs.Prelude.{◌≡◌, ℕ, List, map, Option, Some, option_map, slice_get}
use Rattle.regex.specs.Patterns.{Config, Re, Reads, default_config}
use Rattle.regex_hir.specs.Meaning.{meaning}
use Rattle.regex_hir.specs.declared.hir.Hir.{Hir}
use Rattle.regex_meta.specs.Programs as programs
use Rattle.regex_meta.specs.declared.program.Program.{Program}
use Rattle.regex_syntax.specs.Grammar.{Names}
use Rattle.lrpar_grammar_places.specs.declared.span.TIdx.{TIdx}
use Rattle.lrpar_lexer.specs.Anchored.{without_start}
use Rattle.lrpar_lexer.specs.declared.rule.LexRule.{LexRule}

-- the pattern of a rule, and the token of its matches; `None` if they are skipped
pub record Rule : Type 0 where
  pub pattern : Re
  pub token : Option ℕ

-- what a rule's program searches for, without the assertion that the text starts there
abbrev pub pattern_of : {S : Type 0} → LexRule S → Re
pattern_of rule = without_start (programs.pattern_of rule.anchored)

-- the program that searches for the rule's pattern at the start of a text
abbrev pub anchored_of : {S : Type 0} → LexRule S → Program
anchored_of rule = rule.anchored

-- a rule of the code as plain data; `index` gives the number of a value of the storage type
abbrev pub plain_rule : {S : Type 0} → (S → ℕ) → LexRule S → Rule
plain_rule index rule = record { pattern = pattern_of rule; token = option_map (λ token. index token.0) rule.token }

abbrev pub plain_rules : {S : Type 0} → (S → ℕ) → List (LexRule S) → List Rule
plain_rules index rules = map (plain_rule index) rules

-- the rule's pattern is what the grammar of `regex` reads in the text, with these options
pub record HasPatternBy {S : Type 0} (config : Config) (text : List ℕ) (rule : LexRule S) : Type 0 where
  pub tree : Hir
  pub names : Names
  pub read : Reads config text tree names
  pub is : pattern_of rule ≡ meaning tree

-- the rule's pattern is what the grammar of `regex` reads in the text, with the default options
abbrev pub HasPattern : {S : Type 0} → List ℕ → LexRule S → Type 0
HasPattern text rule = HasPatternBy default_config text rule

abbrev pub token_of : {S : Type 0} → (S → ℕ) → LexRule S → Option ℕ
token_of index rule = option_map (λ token. index token.0) rule.token

-- the number of a token, if there is one
abbrev pub number_of : {S : Type 0} → (S → ℕ) → Option (TIdx S) → Option ℕ
number_of index token = option_map (λ token. index token.0) token

-- the rule has this token, or none
abbrev pub HasToken : {S : Type 0} → (S → ℕ) → Option (TIdx S) → LexRule S → Type 0
HasToken index token rule = token_of index rule ≡ number_of index token

-- the rule with this number has this token, or none
abbrev pub HasTokenAt : {S : Type 0} → (S → ℕ) → List (LexRule S) → ℕ → Option (TIdx S) → Type 0
HasTokenAt index rules rule token = slice_get (map (λ r. r.token) (plain_rules index rules)) rule ≡ Some (number_of index token)
