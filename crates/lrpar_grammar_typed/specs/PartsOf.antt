-- The parts of a typed grammar: its rules, tokens and productions, without types, forms and what makes values.
use Rattle.std.specs.Prelude.{◌≡◌, ℕ, List, Option, None, String, map, string_bytes}
use Rattle.std.specs.declared.alloc.Global.{Global}
use Rattle.std.specs.List.{enumerate_from, flat_map}
use Rattle.lrpar_grammar_places.specs.Span.{Extent}
use Rattle.lrpar_grammar_places.specs.declared.span.RIdx.{RIdx}
use Rattle.lrpar_grammar_reader.specs.declared.parts.ProdPart.{ProdPart}
use Rattle.lrpar_grammar_reader.specs.declared.parts.RulePart.{RulePart}
use Rattle.lrpar_grammar_reader.specs.declared.parts.TokenPart.{TokenPart}
use Rattle.lrpar_grammar_reader.specs.Grammar.{Production, RuleName}
use Rattle.lrpar_grammar_reader.specs.Parts.{prod_of, rule_name_of}
use Rattle.lrpar_grammar_reader.specs.Symbols.{symbol_of}
use Rattle.lrpar_grammar_typed.specs.declared.typed.TypedProd.{TypedProd}
use Rattle.lrpar_grammar_typed.specs.declared.typed.TypedRule.{TypedRule}
use Rattle.lrpar_grammar_typed.specs.declared.typed.TypedToken.{TypedToken}

-- the name of a rule and its place
abbrev pub name_of_rule : TypedRule → RuleName
name_of_rule rule = record { name = string_bytes rule.name; span = rule.span }

-- a production of the rule of this number: its symbols with their places, and its place
abbrev pub production_of : ℕ → TypedProd → Production
production_of rule prod = record {
  rule = rule;
  symbols = map (λ s. symbol_of (λ n. n) s.symbol) prod.symbols.items;
  symbol_spans = map (λ s. s.span) prod.symbols.items;
  span = prod.span;
}

-- the productions of a rule of this number
abbrev pub productions_of : ℕ × TypedRule → List Production
productions_of (number, rule) = map (production_of number) rule.prods.items

-- the parts have the names and the places of the rules, in order
abbrev pub AreRulesOf : List TypedRule → List RulePart → Type 0
AreRulesOf rules parts = map rule_name_of parts ≡ map name_of_rule rules

-- the name of a token, what messages print in its place, and where it is
abbrev pub token_facts : TokenPart → List ℕ × Option (String Global) × Extent
token_facts part = (string_bytes part.name, part.epp, part.span)

-- the parts have the names and the places of the tokens, in order, and no other text that messages print
abbrev pub AreTokensOf : List TypedToken → List TokenPart → Type 0
AreTokensOf tokens parts = map token_facts parts ≡ map (λ t. (string_bytes t.name, None, t.span)) tokens

-- the part is this production, of the rule of this number
abbrev pub IsProdPartOf : RIdx ℕ → TypedProd → ProdPart ℕ → Type 0
IsProdPartOf rule prod part = prod_of (λ n. n) part ≡ production_of rule.0 prod

-- the parts are the productions of each rule, in order, where rules are numbered from 1
abbrev pub AreProductionsOf : List TypedRule → List (ProdPart ℕ) → Type 0
AreProductionsOf rules parts = map (prod_of (λ n. n)) parts ≡ flat_map productions_of (enumerate_from 1 rules)
