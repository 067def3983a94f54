-- The fault of a list of lexemes.
use Rattle.std.specs.Prelude.{◌≡◌, ◌↔◌, ℕ, List, Option, Some, None}
use Rattle.lrpar_grammar.specs.Grammar.{Grammar}
use Rattle.lrpar_grammar.specs.Sentence.{LexemeFacts, IsFirstBadToken, IsFirstEarlyStart, IsValidList}
use Rattle.lrpar_parse.specs.declared.fault.ParseFault.{ParseFault}
use Rattle.lrpar_parse.specs.declared.fault.ParseFault.TheVariants.{BadToken, StartsDecrease}

-- the fault is the first one of a lexeme, and there is none if and only if the list is valid
pub record IsLexemeFault (g : Grammar) (lexemes : List LexemeFacts) (fault : Option ParseFault) : Type 0 where
  pub bad_token : (i : ℕ) → (fault ≡ Some (BadToken i)) ↔ IsFirstBadToken g lexemes i
  pub starts_decrease : (i : ℕ) → (fault ≡ Some (StartsDecrease i)) ↔ IsFirstEarlyStart g lexemes i
  pub none : (fault ≡ None) ↔ IsValidList g lexemes
