-- What the calls of a grammar take and give, as it is stored: numbers of productions and tokens, symbols, names and texts.
use Rattle.std.specs.Prelude.{◌≡◌, ◌↔◌, ℕ, All, IsErrOf, List, Option, Result, Vec, length, map, option_map, position, slice_get, string_bytes}
use Rattle.std.specs.Borrow.{Bor}
use Rattle.std.specs.List.{range_with_len}
use Rattle.std.specs.Str.{bytes_eq}
use Rattle.lrpar_grammar_places.specs.declared.span.PIdx.{PIdx}
use Rattle.lrpar_grammar_places.specs.declared.span.Symbol.{Symbol}
use Rattle.lrpar_grammar_places.specs.declared.span.TIdx.{TIdx}
use Rattle.lrpar_grammar_reader.specs.declared.parts.GrammarFault.{GrammarFault}
use Rattle.lrpar_grammar_reader.specs.declared.parts.GrammarParts.{GrammarParts}
use Rattle.lrpar_grammar_reader.specs.declared.parts.TokenPart.{TokenPart}
use Rattle.lrpar_grammar_reader.specs.Grammar.{Grammar, IsDeclaredSymbol, end_token, rules_len, symbols_of}
use Rattle.lrpar_grammar_reader.specs.Parts.{IsFirstFault, grammar_of, parts_of, token_name_of}
use Rattle.lrpar_grammar_reader.specs.Symbols.{symbol_of}

-- texts by their bytes
abbrev pub texts_in : List (Bor (List ℕ)) → List (List ℕ)
texts_in texts = map (λ text. text.now) texts

-- a text by its bytes, if there is one
abbrev pub text_in : Option (Bor (List ℕ)) → Option (List ℕ)
text_in text = option_map (λ text. text.now) text

-- lists of numbers
abbrev pub rows_in : {A : Type 0} → List (Vec ℕ A) → List (List ℕ)
rows_in rows = map (λ row. row.items) rows

-- a list of numbers, if there is one
abbrev pub row_in : {A : Type 0} → Option (Vec ℕ A) → Option (List ℕ)
row_in row = option_map (λ row. row.items) row

-- this is the grammar of the parts
abbrev pub IsGrammarOf : {S : Type 0} → (S → ℕ) → GrammarParts S → Grammar → Type 0
IsGrammarOf index parts g = g ≡ grammar_of (parts_of index parts)

-- the answer is this fault if and only if it is the first fault of the parts
abbrev pub FailsExactly : {S T : Type 0} → (S → ℕ) → ℕ → GrammarParts S → Result T GrammarFault → GrammarFault → Type 0
FailsExactly index limit parts answer fault = IsErrOf answer fault ↔ IsFirstFault limit (parts_of index parts) fault

-- these symbols are the right side of the production
abbrev pub IsRightSide : {S : Type 0} → (S → ℕ) → Grammar → PIdx S → List (Symbol S) → Type 0
IsRightSide index g prod symbols = map (symbol_of index) symbols ≡ symbols_of g (index prod.0)

-- the symbol is a listed rule or a token other than the end token
abbrev pub IsDeclaredIn : {S : Type 0} → (S → ℕ) → Grammar → Symbol S → Type 0
IsDeclaredIn index g symbol = IsDeclaredSymbol (rules_len g) (end_token g) (symbol_of index symbol)

-- each symbol of the production's right side is a listed rule or a token other than the end token
abbrev pub HasDeclaredRightSide : {S : Type 0} → (S → ℕ) → Grammar → PIdx S → Type 0
HasDeclaredRightSide index g prod = All (IsDeclaredSymbol (rules_len g) (end_token g)) (symbols_of g (index prod.0))

-- this is the end token
abbrev pub IsEndOf : {S : Type 0} → (S → ℕ) → Grammar → TIdx S → Type 0
IsEndOf index g token = index token.0 ≡ end_token g

-- this is what the grammar has for the token; none for the end token
abbrev pub IsTokenAt : {S : Type 0} → (S → ℕ) → Grammar → TIdx S → Option (Bor TokenPart) → Type 0
IsTokenAt index g token found = option_map (λ part. token_name_of part.now) found ≡ slice_get g.tokens (index token.0)

-- this is the first token with that name, if there is one
abbrev pub IsFirstNamed : {S : Type 0} → (S → ℕ) → Grammar → List ℕ → Option (TIdx S) → Type 0
IsFirstNamed index g name found = option_map (λ token. index token.0) found ≡ position (λ token. bytes_eq token.name name) g.tokens

-- these are the tokens other than the end token, by their names
abbrev pub HaveTokenNames : {S A : Type 0} → Grammar → Vec (Bor (List ℕ) × TIdx S) A → Type 0
HaveTokenNames g pairs = map (λ pair. pair.0.now) pairs.items ≡ map (λ token. token.name) g.tokens

-- these are the tokens other than the end token, ascending
abbrev pub HaveTokenNumbers : {S A : Type 0} → (S → ℕ) → Grammar → Vec (Bor (List ℕ) × TIdx S) A → Type 0
HaveTokenNumbers index g pairs = map (λ pair. index pair.1.0) pairs.items ≡ range_with_len 0 (end_token g)

-- the place of the first of these parts that has the name
abbrev pub first_named : List ℕ → List TokenPart → Option ℕ
first_named name tokens = position (λ token. bytes_eq (string_bytes token.name) name) tokens

-- these are the names of the parts
abbrev pub HaveNamesOf : {S A : Type 0} → List TokenPart → Vec (Bor (List ℕ) × TIdx S) A → Type 0
HaveNamesOf tokens pairs = map (λ pair. pair.0.now) pairs.items ≡ map (λ token. string_bytes token.name) tokens

-- these are the numbers of the parts, ascending
abbrev pub HaveNumbersOf : {S A : Type 0} → (S → ℕ) → List TokenPart → Vec (Bor (List ℕ) × TIdx S) A → Type 0
HaveNumbersOf index tokens pairs = map (λ pair. index pair.1.0) pairs.items ≡ range_with_len 0 (length tokens)
