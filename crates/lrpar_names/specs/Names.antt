-- Names for people, by the numbers of rules and tokens.
use Rattle.std.specs.Prelude.{ℕ, List, Option, Some, None, if◌then◌else◌, is_some, map, option_map, replicate, slice_index_or, slice_set, String, string_bytes}
use Rattle.std.specs.declared.alloc.Global.{Global}
use Rattle.lrpar_grammar.specs.Grammar.{Grammar, GrammarSymbol, Nonterminal, Terminal, rules_len, tokens_len}

-- the name of each rule and of each token, by its number, if it has one; a number past the end of its list has none
pub record NameLists : Type 0 where
  pub rules : List (Option (List ℕ))
  pub tokens : List (Option (List ℕ))

-- slot n of a list; out of range, it is empty
abbrev pub slot_at : List (Option (List ℕ)) → ℕ → Option (List ℕ)
slot_at slots n = slice_index_or slots n None

-- the name of rule r
abbrev pub rule_words : NameLists → ℕ → Option (List ℕ)
rule_words names r = slot_at names.rules r

-- the name of token t
abbrev pub token_words : NameLists → ℕ → Option (List ℕ)
token_words names t = slot_at names.tokens t

-- no rule and no token of the grammar has a name
abbrev pub no_names : Grammar → NameLists
no_names g = record { rules = replicate (rules_len g) None; tokens = replicate (tokens_len g) None }

-- the name of a symbol
abbrev pub words_of : NameLists → GrammarSymbol → Option (List ℕ)
words_of names (Nonterminal r) = rule_words names r
words_of names (Terminal t) = token_words names t

-- the names after the symbol got this one; out of range, they stay
abbrev pub with_words : NameLists → GrammarSymbol → List ℕ → NameLists
with_words names (Nonterminal r) words = record { rules = slice_set names.rules r (Some words); tokens = names.tokens }
with_words names (Terminal t) words = record { rules = names.rules; tokens = slice_set names.tokens t (Some words) }

-- the names after token t got this one, if it had none
abbrev pub with_token : NameLists → ℕ → List ℕ → NameLists
with_token names t words = if is_some (token_words names t) then names else with_words names (Terminal t) words

-- slots as they are stored, by their bytes
abbrev pub slots_of : List (Option (String Global)) → List (Option (List ℕ))
slots_of slots = map (λ slot. option_map string_bytes slot) slots
