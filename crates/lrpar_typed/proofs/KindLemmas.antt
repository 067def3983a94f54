-- The arguments that fit a production of a row have the kinds of the row.
use Rattle.std.proofs.Common.{IfSome, Vec, ◌≡◌, ◌∙◌, ℕ, ◌<◌, List, [], ◌∷◌, None, Ok, Err, IfOk, Result, Option, Some, ap, arith, false, is_some, length, map, refl, subst, sym}
use Rattle.std.proofs.lemmas.Option.{same_Some}
use Rattle.std.specs.List.{AllZip}
use Rattle.lrpar_grammar.specs.Grammar.{GrammarSymbol, Nonterminal, Terminal}
use Rattle.lrpar_parse_run.specs.declared.values.AStackType.{AStackType}
use Rattle.lrpar_parse_run.specs.declared.values.AStackType.TheVariants.{ActionType, Lexeme}
use Rattle.lrpar_parse.specs.Arguments.{AreArguments, IsArgument}
use Rattle.lrpar_parse.specs.ValueArguments.{first_failure, given_of}
use Rattle.lrpar_grammar_places.specs.Span.{Extent}
use Rattle.lrpar_parse_errors.specs.declared.errors.LexParseError.{LexParseError}
use Rattle.lrpar_parse_run.specs.Subject.{Subject}
use Rattle.lrpar_parse.specs.Acted.{IsActedValue}
use Rattle.lrpar_parse.specs.Parse.{ParsesTo}
use Rattle.lrpar_parse.specs.Values.{ComesOut}
use Rattle.lrpar_parse.specs.declared.fault.ParseFault.{ParseFault}
use Rattle.lrpar_parse.proofs.FoldLemmas.{value_has_tree}
use Rattle.lrpar_typed.specs.Rows.{AllHold, AreRowsOf, IsRow, IsOfRule, first_of, kinds_at, kinds_by, rest_of, rule_at, rule_kind, kind_of, token_kind}

module _ {X V E : Type 0} (token : X → ℕ) (rule : V → ℕ) (holds : V → Type 0) where
  pub given_kinds : (symbols : List GrammarSymbol) (args : List (AStackType X (Result V E))) → AllZip (IsArgument token (IsOfRule rule holds)) symbols args → first_failure args ≡ None
      → kinds_by token rule (given_of args) ≡ map kind_of symbols
  given_kinds [] [] fit none = refl
  given_kinds [] (arg ∷ args) fit none = absurd fit
  given_kinds (s ∷ symbols) [] fit none = absurd fit
  given_kinds (Terminal t ∷ symbols) (Lexeme x ∷ args) fit none =
      let tail = given_kinds symbols args fit.1 none in
      let head : token x ≡ t = fit.0 in
      let head_kind : token_kind (token x) ≡ token_kind t = ap token_kind head in cc
  given_kinds (Terminal t ∷ symbols) (ActionType v ∷ args) fit none = absurd fit.0
  given_kinds (Nonterminal r ∷ symbols) (Lexeme x ∷ args) fit none = absurd fit.0
  given_kinds (Nonterminal r ∷ symbols) (ActionType (Ok v) ∷ args) fit none =
      let tail = given_kinds symbols args fit.1 none in
      let head : rule v ≡ r = fit.0.0 in
      let head_kind : rule_kind (rule v) ≡ rule_kind r = ap rule_kind head in cc
  given_kinds (Nonterminal r ∷ symbols) (ActionType (Err e) ∷ args) fit none = absurd (let no : ⊥ = cc in no)

  -- what holds of values holds of the arguments
  pub given_hold : (symbols : List GrammarSymbol) (args : List (AStackType X (Result V E))) → AllZip (IsArgument token (IsOfRule rule holds)) symbols args → first_failure args ≡ None
      → AllHold holds (given_of args)
  given_hold [] [] fit none = tt
  given_hold [] (arg ∷ args) fit none = absurd fit
  given_hold (s ∷ symbols) [] fit none = absurd fit
  given_hold (Terminal t ∷ symbols) (Lexeme x ∷ args) fit none = given_hold symbols args fit.1 none
  given_hold (Terminal t ∷ symbols) (ActionType v ∷ args) fit none = absurd fit.0
  given_hold (Nonterminal r ∷ symbols) (Lexeme x ∷ args) fit none = absurd fit.0
  given_hold (Nonterminal r ∷ symbols) (ActionType (Ok v) ∷ args) fit none = (fit.0.1, given_hold symbols args fit.1 none)
  given_hold (Nonterminal r ∷ symbols) (ActionType (Err e) ∷ args) fit none = absurd (let no : ⊥ = cc in no)

  pub all_hold : (rows : List (List ℕ)) (p r : ℕ) (args : List (AStackType X (Result V E))) → AreArguments token (IsOfRule rule holds) (IsRow rows p r) args → first_failure args ≡ None
      → AllHold holds (given_of args)
  all_hold rows p r args (symbols, found, fit) none = given_hold symbols args fit none

  -- so they are those of the row
  pub kinds_fit : (rows : List (List ℕ)) (p r : ℕ) (args : List (AStackType X (Result V E))) → AreArguments token (IsOfRule rule holds) (IsRow rows p r) args → first_failure args ≡ None
      → kinds_by token rule (given_of args) ≡ kinds_at rows p
  kinds_fit rows p r args (symbols, found, fit) none = given_kinds symbols args fit none ∙ sym (ap rest_of found.same)

  pub is_within : (rows : List (List ℕ)) (p r : ℕ) (args : List (AStackType X (Result V E))) → AreArguments token (IsOfRule rule holds) (IsRow rows p r) args → p < length rows
  is_within rows p r args (symbols, found, fit) = found.within

  -- a value of the row's rule is one of the production's
  pub is_of_rule : (rows : List (List ℕ)) (p r : ℕ) (args : List (AStackType X (Result V E))) → AreArguments token (IsOfRule rule holds) (IsRow rows p r) args
      → (result : Result V E) → IfOk result (λ v. rule_kind (rule v) ≡ rule_at rows p) → IfOk result holds → IsOfRule rule holds r result
  is_of_rule rows p r args (symbols, found, fit) (Ok v) is hold = let row : rule_at rows p ≡ rule_kind r = ap first_of found.same in ((omega (arith, is, row)), hold)
  is_of_rule rows p r args (symbols, found, fit) (Err e) is hold = tt

-- if none is found, there is none
pub no_failure : {E : Type 0} (found : Option E) → is_some found ≡ false → found ≡ None
no_failure None is = refl
no_failure (Some e) is = absurd (let no : ⊥ = cc in no)

-- the value of an answer
abbrev value_in : {V A E : Type 0} → Result (Option V × A) E → Option V
value_in (Ok (value, rest)) = value
value_in (Err e) = None

-- the value that comes out of a parse to typed values is of the start rule, and what holds of values holds of it
pub start_kept : {X V E S L C K P Z : Type 0} (about : Subject X) (lexes : List (Result X C) → Type 0) (span : X → Extent) (rule : V → ℕ) (holds : V → Type 0) (answers : ℕ → ℕ → K → Extent → List (AStackType X (Result V E)) → P → Result V E → Type 0) (lexer : K) (param : P) (converts : ParseFault → E → Type 0)
    (rows : List (List ℕ)) (start : ℕ) → AreRowsOf rows start about.checked.grammar
    → (parsed : Result (Option (Result V E) × Vec (LexParseError S L X C) Z) ParseFault) (result : Result (Option V × Vec (LexParseError S L X C) Z) E)
    → ParsesTo about lexes (IsActedValue span answers (IsOfRule rule holds) about.checked.grammar lexer param) parsed → ComesOut converts parsed result
    → IfOk result (λ answer. IfSome answer.0 (λ v. (rule v ≡ start) × holds v))
start_kept about lexes span rule holds answers lexer param converts rows start fits (Ok (None, rest)) (Ok (None, errors)) parses comes = tt
start_kept about lexes span rule holds answers lexer param converts rows start fits (Ok (None, rest)) (Ok (Some v, errors)) parses comes = absurd (let differ : ◌≡◌ {A = Option _} (Some v) None = ap value_in comes in let no : ⊥ = cc in no)
start_kept about lexes span rule holds answers lexer param converts rows start fits (Ok (Some (Ok w), rest)) (Ok (None, errors)) parses comes = tt
start_kept about lexes span rule holds answers lexer param converts rows start fits (Ok (Some (Ok w), rest)) (Ok (Some v, errors)) parses comes =
    let found = value_has_tree about lexes (IsActedValue span answers (IsOfRule rule holds) about.checked.grammar lexer param) (Some (Ok w), rest) (Ok w) parses refl in
    let same : v ≡ w = same_Some v w (ap value_in comes) in
    ((ap rule same ∙ found.1.kept.0 ∙ fits.start_is), subst holds (sym same) found.1.kept.1)
start_kept about lexes span rule holds answers lexer param converts rows start fits (Ok (Some (Err e), rest)) (Ok answer) parses comes = absurd (let no : ⊥ = cc in no)
start_kept about lexes span rule holds answers lexer param converts rows start fits (Err fault) (Ok answer) parses comes = absurd comes
start_kept about lexes span rule holds answers lexer param converts rows start fits parsed (Err e) parses comes = tt

-- two facts of the value of an answer
pub both_of : {V A E : Type 0} (P Q : V → Type 0) (result : Result (Option V × A) E) → IfOk result (λ answer. IfSome answer.0 (λ v. P v × Q v))
    → IfOk result (λ answer. IfSome answer.0 P) × IfOk result (λ answer. IfSome answer.0 Q)
both_of P Q (Ok (None, rest)) both = (tt, tt)
both_of P Q (Ok (Some v, rest)) both = both
both_of P Q (Err e) both = (tt, tt)
