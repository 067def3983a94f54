-- The parts of a grammar as plain data, the grammar that they make, and their faults.
use Rattle.std.specs.Prelude.{◌≡◌, ◌≢◌, ◌<◌, ◌≤◌, ◌+◌, ℕ, List, [], ◌∷◌, ◌++◌, length, map, All, string_bytes}
use Rattle.std.specs.Option.{option_map_or}
use Rattle.lrpar_grammar_reader.specs.declared.parts.RulePart.{RulePart}
use Rattle.lrpar_grammar_reader.specs.declared.parts.TokenPart.{TokenPart}
use Rattle.lrpar_grammar_reader.specs.declared.parts.ProdPart.{ProdPart}
use Rattle.lrpar_grammar_reader.specs.declared.parts.GrammarParts.{GrammarParts}
use Rattle.lrpar_grammar_reader.specs.declared.parts.GrammarFault.{GrammarFault}
use Rattle.lrpar_grammar_reader.specs.declared.parts.GrammarFault.TheVariants.{NoRules, StorageTooSmall, BadStart, BadSymbol, Memory}
use Rattle.lrpar_grammar_reader.specs.Symbols.{symbol_of}
use Rattle.lrpar_grammar_reader.specs.Grammar.{Grammar, RuleName, TokenName, Production, IsDeclaredSymbol, added_rule, added_prod}

-- the listed rules, tokens and productions, and the start rule
pub record Parts : Type 0 where
  pub rules : List RuleName
  pub tokens : List TokenName
  pub prods : List Production
  pub start : ℕ

-- a rule by the bytes of its name
abbrev pub rule_name_of : RulePart → RuleName
rule_name_of r = record { name = string_bytes r.name; span = r.span }

-- a token by the bytes of its name and of its printed text, which is the name if the token has no other
abbrev pub token_name_of : TokenPart → TokenName
token_name_of t = record { name = string_bytes t.name; epp = option_map_or string_bytes t.epp (string_bytes t.name); span = t.span }

-- a production by its numbers
abbrev pub prod_of : {S : Type 0} → (S → ℕ) → ProdPart S → Production
prod_of index p = record {
  rule = index p.rule.0;
  symbols = map (λ x. symbol_of index x.0) p.symbols.items;
  symbol_spans = map (λ x. x.1) p.symbols.items;
  span = p.span;
}

-- the parts as plain data
abbrev pub parts_of : {S : Type 0} → (S → ℕ) → GrammarParts S → Parts
parts_of index x = record {
  rules = map rule_name_of x.rules.items;
  tokens = map token_name_of x.tokens.items;
  prods = map (prod_of index) x.prods.items;
  start = index x.start.0;
}

-- the grammar that the parts make: the added rule comes first, the added production last
abbrev pub grammar_of : Parts → Grammar
grammar_of x = record {
  rules = added_rule ∷ x.rules;
  tokens = x.tokens;
  prods = x.prods ++ added_prod x.start ∷ [];
  start = x.start;
}

-- the parts and what the grammar adds to them can be numbered below `limit`
pub record FitStorage (limit : ℕ) (x : Parts) : Type 0 where
  pub rules : length x.rules < limit
  pub tokens : length x.tokens < limit
  pub prods : length x.prods < limit

-- the start rule is a listed rule
pub record HasDeclaredStart (x : Parts) : Type 0 where
  pub added : 0 < x.start
  pub within : x.start ≤ length x.rules

-- a production of a listed rule whose symbols are all listed
pub record IsDeclaredProd (rules tokens : ℕ) (p : Production) : Type 0 where
  pub rule_added : 0 < p.rule
  pub rule_within : p.rule < rules
  pub symbols : All (IsDeclaredSymbol rules tokens) p.symbols

-- every production is of a listed rule and has listed symbols
abbrev pub HasDeclaredSymbols : Parts → Type 0
HasDeclaredSymbols x = All (IsDeclaredProd (length x.rules + 1) (length x.tokens)) x.prods

-- the parts make a grammar
pub record AreSound (limit : ℕ) (x : Parts) : Type 0 where
  pub rules : x.rules ≢ []
  pub storage : FitStorage limit x
  pub start : HasDeclaredStart x
  pub symbols : HasDeclaredSymbols x

-- This is the first fault of the parts: it holds, and those before it don't. The faults are tested in the order of
-- these lines.
abbrev pub IsFirstFault : ℕ → Parts → GrammarFault → Type 0
IsFirstFault limit x NoRules = x.rules ≡ []
IsFirstFault limit x StorageTooSmall = (x.rules ≢ []) × ¬ (FitStorage limit x)
IsFirstFault limit x BadStart = (x.rules ≢ []) × FitStorage limit x × ¬ (HasDeclaredStart x)
IsFirstFault limit x BadSymbol = (x.rules ≢ []) × FitStorage limit x × HasDeclaredStart x × ¬ (HasDeclaredSymbols x)
IsFirstFault limit x _ = ⊥

-- why the parts make no grammar: their first fault or, if they have none, a failed allocation
abbrev pub IsRefusalOf : ℕ → Parts → GrammarFault → Type 0
IsRefusalOf limit x Memory = AreSound limit x
IsRefusalOf limit x fault = IsFirstFault limit x fault

-- the production's rule and symbols are among these numbers of listed rules and tokens
abbrev pub IsProdAmong : {S : Type 0} → (S → ℕ) → ℕ → ℕ → ProdPart S → Type 0
IsProdAmong index rules tokens prod = IsDeclaredProd (rules + 1) tokens (prod_of index prod)

-- the parts make a grammar
abbrev pub MakeGrammar : {S : Type 0} → (S → ℕ) → ℕ → GrammarParts S → Type 0
MakeGrammar index limit parts = AreSound limit (parts_of index parts)
