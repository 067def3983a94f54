-- A parse with actions returns a value to which a tree folds.
use Rattle.std.proofs.Common.{◌≡◌, ℕ, IfSome, List, None, Ok, Option, Result, Some, Vec, option_map, refl}
use Rattle.lrpar_grammar_places.specs.Span.{Extent, nowhere}
use Rattle.lrpar_grammar.specs.Grammar.{Nonterminal}
use Rattle.lrpar_grammar.specs.Tree.{Tree}
use Rattle.lrpar_parse.specs.Acted.{ActedTo, IsActedValue, acts_by}
use Rattle.lrpar_parse.specs.Arguments.{IsArgument}
use Rattle.lrpar_parse_run.specs.Entries.{HasValueEntry}
use Rattle.lrpar_parse.specs.Parse.{ParsesTo}
use Rattle.lrpar_parse_run.specs.RunStack.{Represents}
use Rattle.lrpar_parse_run.specs.Subject.{Subject}
use Rattle.lrpar_parse_run.specs.Placed.{IsPlacedLexeme, IsPlacedValue}
use Rattle.lrpar_parse_lexemes.specs.declared.placed.Placed.{Placed}
use Rattle.lrpar_parse_errors.specs.declared.errors.LexParseError.{LexParseError}
use Rattle.lrpar_parse_run.specs.declared.values.AStackType.{AStackType}
use Rattle.lrpar_parse_run.specs.declared.values.AStackType.TheVariants.{ActionType, Lexeme}
use Rattle.lrpar_parse.proofs.FoldLemmas.{parse_mapped, parse_mapped_on, value_has_tree}
use Rattle.lrpar_parse.proofs.ActedEntryLemmas.{represented_acted}

module _ {X V R P : Type 0} (about : Subject X) (token : X → ℕ) (span : X → Extent) (fact : ℕ → V → Type 0) (answers : ℕ → ℕ → R → Extent → List (AStackType X V) → P → V → Type 0) (lexer : R) (param : P) where
  -- the values that the actions may return
  abbrev acts : ℕ → Extent → List (AStackType X V) → V → Type 0
  acts = acts_by answers about.checked.grammar lexer param

  -- the tree folds to the argument, which fits the start rule
  abbrev pub FoldsToArgument : Tree X → AStackType X V → Type 0
  FoldsToArgument t arg = ActedTo span acts nowhere t arg × IsArgument token fact (Nonterminal about.checked.grammar.start) arg

  -- this holds if an entry represents the tree and fits the start rule
  pub argument_folds : (t : Tree X) (e : Placed (AStackType X V)) → Represents (λ x e. IsPlacedLexeme span x e) (λ p before es e. IsPlacedValue (acts p) before es e) None t e
      → IsArgument token fact (Nonterminal about.checked.grammar.start) e.argument → FoldsToArgument t e.argument
  argument_folds t e represents suit = ((represented_acted span acts None t e represents).folds, suit)

  -- an argument for a rule is a value
  value_argument : (r : ℕ) (arg : AStackType X V) → IsArgument token fact (Nonterminal r) arg → HasValueEntry arg
  value_argument r (Lexeme x) fits = fits
  value_argument r (ActionType v) fits = tt

  -- `OfTree` is what the run says about the entry of the whole
  module _ {S L C Z : Type 0} (lexes : List (Result X C) → Type 0) (OfTree : Tree X → Placed (AStackType X V) → Type 0) (evaluates : (t : Tree X) (e : Placed (AStackType X V)) → OfTree t e → FoldsToArgument t e.argument)
      (entry : Option (Placed (AStackType X V))) (argument : Option (AStackType X V)) (errors : Vec (LexParseError S L X C) Z) (is : argument ≡ option_map (λ e. e.argument) entry) (parses : ParsesTo about lexes OfTree (Ok (entry, errors))) where
    argument_parse : ParsesTo about lexes FoldsToArgument (Ok (argument, errors))
    argument_parse = parse_mapped_on about lexes OfTree FoldsToArgument (λ e. e.argument) entry argument errors is evaluates parses

    -- so there is a value, if there is an entry
    pub is_value : IfSome argument HasValueEntry
    is_value = by_argument argument refl
      where
        by_argument : (o : Option (AStackType X V)) → argument ≡ o → IfSome o HasValueEntry
        by_argument None none = tt
        by_argument (Some arg) some = value_argument about.checked.grammar.start arg (value_has_tree about lexes FoldsToArgument (argument, errors) arg argument_parse some).1.1

    -- and it is one to which a tree folds, and has the start rule's fact
    pub acted_parse : (value : Option V) → argument ≡ option_map ActionType value → ParsesTo about lexes (IsActedValue span answers fact about.checked.grammar lexer param) (Ok (value, errors))
    acted_parse value value_is =
        parse_mapped about lexes FoldsToArgument (IsActedValue span answers fact about.checked.grammar lexer param) ActionType argument value errors value_is (λ t v is. record { folds = is.0; kept = is.1 }) argument_parse
