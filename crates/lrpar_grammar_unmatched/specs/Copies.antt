-- Parts that are copied from a grammar.
use Rattle.std.specs.Prelude.{◌≡◌, ℕ, List, Some, Vec, map, slice_get}
use Rattle.lrpar_grammar_places.specs.Span.{Extent}
use Rattle.lrpar_grammar_places.specs.declared.span.Symbol.{Symbol}
use Rattle.lrpar_grammar_places.specs.declared.span.RIdx.{RIdx}
use Rattle.lrpar_grammar_places.specs.declared.span.PIdx.{PIdx}
use Rattle.lrpar_grammar_places.specs.declared.span.TIdx.{TIdx}
use Rattle.lrpar_grammar_reader.specs.declared.parts.GrammarParts.{GrammarParts}
use Rattle.lrpar_grammar_reader.specs.declared.parts.ProdPart.{ProdPart}
use Rattle.lrpar_grammar_reader.specs.declared.parts.RulePart.{RulePart}
use Rattle.lrpar_grammar_reader.specs.declared.parts.TokenPart.{TokenPart}
use Rattle.lrpar_grammar_reader.specs.Grammar.{Grammar}
use Rattle.lrpar_grammar_reader.specs.Parts.{parts_of, prod_of, rule_name_of, token_name_of}
use Rattle.lrpar_grammar_unmatched.specs.WithToken.{declared_parts, token_named, with_last_token}

-- this is the rule of that number
abbrev pub IsRuleAt : {S : Type 0} → (S → ℕ) → Grammar → RIdx S → RulePart → Type 0
IsRuleAt index g rule part = slice_get g.rules (index rule.0) ≡ Some (rule_name_of part)

-- this is the token of that number
abbrev pub IsTokenAt : {S : Type 0} → (S → ℕ) → Grammar → TIdx S → TokenPart → Type 0
IsTokenAt index g token part = slice_get g.tokens (index token.0) ≡ Some (token_name_of part)

-- this is the production of that number
abbrev pub IsProdAt : {S : Type 0} → (S → ℕ) → Grammar → PIdx S → ProdPart S → Type 0
IsProdAt index g prod part = slice_get g.prods (index prod.0) ≡ Some (prod_of index part)

-- these are the listed rules
abbrev pub AreDeclaredRules : {A : Type 0} → Grammar → Vec RulePart A → Type 0
AreDeclaredRules g parts = map rule_name_of parts.items ≡ (declared_parts g).rules

-- these are the listed tokens
abbrev pub AreDeclaredTokens : {A : Type 0} → Grammar → Vec TokenPart A → Type 0
AreDeclaredTokens g parts = map token_name_of parts.items ≡ (declared_parts g).tokens

-- these are the listed productions
abbrev pub AreDeclaredProds : {S A : Type 0} → (S → ℕ) → Grammar → Vec (ProdPart S) A → Type 0
AreDeclaredProds index g parts = map (prod_of index) parts.items ≡ (declared_parts g).prods

-- this is a token of that name alone
abbrev pub IsTokenNamed : List ℕ → TokenPart → Type 0
IsTokenNamed name part = token_name_of part ≡ token_named name

-- the pairs have these symbols
abbrev pub HaveSymbols : {S A : Type 0} → List (Symbol S) → Vec (Symbol S × Extent) A → Type 0
HaveSymbols symbols pairs = map (λ pair. pair.0) pairs.items ≡ symbols

-- the pairs have these spans
abbrev pub HaveSpans : {S A : Type 0} → List Extent → Vec (Symbol S × Extent) A → Type 0
HaveSpans spans pairs = map (λ pair. pair.1) pairs.items ≡ spans

-- these are the listed parts
abbrev pub AreDeclaredParts : {S : Type 0} → (S → ℕ) → Grammar → GrammarParts S → Type 0
AreDeclaredParts index g parts = parts_of index parts ≡ declared_parts g

-- these are the listed parts, with one more token
abbrev pub ArePartsWithToken : {S : Type 0} → (S → ℕ) → Grammar → List ℕ → GrammarParts S → Type 0
ArePartsWithToken index g name parts = parts_of index parts ≡ with_last_token (declared_parts g) name
