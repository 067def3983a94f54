-- The text of a production, as messages show it and as lists of productions have it.
use Rattle.std.specs.Prelude.{◌==◌, ℕ, List, [], ◌∷◌, ◌++◌, if◌then◌else◌, unwrap_or}
use Rattle.std.specs.List.{flat_map, list_any}
use Rattle.lrpar_grammar_reader.specs.Grammar.{Grammar, GrammarSymbol, Nonterminal, Terminal, rule_name, rule_of, symbols_of, token_name}

-- the quote for a name: `'` or, if the name has that one, `"`
abbrev pub quote_for : List ℕ → ℕ
quote_for name = if list_any (λ c. c == 39) name then 34 else 39

-- the name in quotes
abbrev pub quoted_name : List ℕ → List ℕ
quoted_name name = quote_for name ∷ (name ++ quote_for name ∷ [])

-- a rule's name, or a token's name in quotes
abbrev pub symbol_text : Grammar → GrammarSymbol → List ℕ
symbol_text g (Nonterminal r) = rule_name g r
symbol_text g (Terminal t) = quoted_name (unwrap_or (token_name g t) [])

-- the rule's name, a colon, and each symbol of the right side after a space
abbrev pub prod_text : Grammar → ℕ → List ℕ
prod_text g p = rule_name g (rule_of g p) ++ (58 ∷ flat_map (λ s. 32 ∷ symbol_text g s) (symbols_of g p))
