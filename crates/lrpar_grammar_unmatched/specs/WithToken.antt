-- A grammar with one more token, which no production has.
use Rattle.std.specs.Prelude.{◌≡◌, ◌≢◌, ◌<◌, ◌≤◌, ◌⊎◌, ◌++◌, ◌∷◌, [], ℕ, List, All, Any, drop, take}
use Rattle.lrpar_grammar_places.specs.Span.{nowhere}
use Rattle.lrpar_grammar_reader.specs.Grammar.{Grammar, Terminal, TokenName, prods_len, start_prod, symbols_of, tokens_len}
use Rattle.lrpar_grammar_reader.specs.Parts.{Parts, grammar_of}

-- the parts that a grammar lists: each rule but the added one, the first; each token; and each production but the added one, the last
abbrev pub declared_parts : Grammar → Parts
declared_parts g = record { rules = drop 1 g.rules; tokens = g.tokens; prods = take (start_prod g) g.prods; start = g.start }

-- a token of this name, which messages print by its name, at no place of a text
abbrev pub token_named : List ℕ → TokenName
token_named name = record { name = name; epp = name; span = nowhere }

-- the parts with one more token, after the others
abbrev pub with_last_token : Parts → List ℕ → Parts
with_last_token x name = record x { tokens = x.tokens ++ token_named name ∷ [] }

-- the grammar with one more token, the last before the end token
abbrev pub with_token : Grammar → List ℕ → Grammar
with_token g name = grammar_of (with_last_token (declared_parts g) name)

-- a rule or a token of the grammar has the name
abbrev pub HasSymbolNamed : Grammar → List ℕ → Type 0
HasSymbolNamed g name = Any (λ rule. rule.name ≡ name) g.rules ⊎ Any (λ token. token.name ≡ name) g.tokens

-- the name is free, but the end token of the grammar with one more token can't be numbered below `limit`
abbrev pub LacksNumber : ℕ → Grammar → List ℕ → Type 0
LacksNumber limit g name = ¬ (HasSymbolNamed g name) × (limit ≤ tokens_len g)

-- no production of the grammar has the token
abbrev pub IsUnused : Grammar → ℕ → Type 0
IsUnused g token = (p : ℕ) → p < prods_len g → All (λ symbol. symbol ≢ Terminal token) (symbols_of g p)
