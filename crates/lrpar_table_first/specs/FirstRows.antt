-- FIRST sets of the rules, as they are computed. First(w, a) for any token a follows from First(w, d), where d is the dummy
-- lookahead: a number that no token has. So w is nullable exactly if d is in First(w, d).
use Rattle.std.specs.Prelude.{◌≡◌, ◌<◌, ◌+◌, ◌==◌, ◌||◌, ◌&&◌, ◌↔◌, ℕ, Bool, false, IsTrue, List, [], ◌∷◌, All, length, nat_lt, slice_index_or, sum_by}
use Rattle.lrpar_grammar.specs.Grammar.{Grammar, GrammarSymbol, Nonterminal, Terminal, rule_of, rules_len, symbols_of, tokens_len}
use Rattle.lrpar_table_first.specs.First.{IsFirst}
use Rattle.lrpar_grammar.specs.Tokens.{has, missing}
use Rattle.lrpar_grammar.specs.declared.token_set.TokenSet.{TokenSet}

-- the bits of each set, by token
abbrev pub rows_of : List TokenSet → List (List Bool)
rows_of sets = sets

-- the bits of the set of rule r; out of range, none
abbrev pub row_at : List (List Bool) → ℕ → List Bool
row_at rows r = slice_index_or rows r []

-- the dummy lookahead: the number of tokens, which no token has as its number
abbrev pub dummy_lookahead : Grammar → ℕ
dummy_lookahead g = tokens_len g

-- there is a set for each rule, with room for each token and for the dummy lookahead
pub record HaveRoom (g : Grammar) (rows : List (List Bool)) : Type 0 where
  pub rules : length rows ≡ rules_len g
  pub wide : All (λ row. length row ≡ dummy_lookahead g + 1) rows

-- all sets are empty
abbrev pub HoldNothing : List (List Bool) → Type 0
HoldNothing rows = (r t : ℕ) → has (row_at rows r) t ≡ false

-- whether t is in the FIRST set of a list of symbols, computed from the set of each rule
abbrev pub begins : ℕ → List (List Bool) → List GrammarSymbol → ℕ → Bool
begins dummy rows [] t = t == dummy
begins dummy rows (Terminal s ∷ w) t = t == s
begins dummy rows (Nonterminal r ∷ w) t = (nat_lt t dummy && has (row_at rows r) t) || (has (row_at rows r) dummy && begins dummy rows w t)

-- soundness: what the sets have is in the FIRST sets of the rules
abbrev pub AreSound : Grammar → List (List Bool) → Type 0
AreSound g rows = (r t : ℕ) → IsTrue (has (row_at rows r) t) → IsFirst g (dummy_lookahead g) (Nonterminal r ∷ []) t

-- the set of the rule of production p has all that the production begins with, by the sets
abbrev pub IsClosedAt : Grammar → List (List Bool) → ℕ → Type 0
IsClosedAt g rows p = (t : ℕ) → IsTrue (begins (dummy_lookahead g) rows (symbols_of g p) t) → IsTrue (has (row_at rows (rule_of g p)) t)

-- each set is the FIRST set of its rule, and has the dummy lookahead exactly if the rule is nullable
pub record AreFirsts (g : Grammar) (rows : List (List Bool)) : Type 0 where
  pub room : HaveRoom g rows
  pub exact : (r t : ℕ) → IsTrue (has (row_at rows r) t) ↔ IsFirst g (dummy_lookahead g) (Nonterminal r ∷ []) t

-- the number of tokens that the sets have room for and don't have
abbrev pub total_missing : List (List Bool) → ℕ
total_missing rows = sum_by missing rows

-- the symbol is a rule or a token below these numbers
abbrev pub IsSymbolBelow : ℕ → ℕ → GrammarSymbol → Type 0
IsSymbolBelow rules tokens (Nonterminal r) = r < rules
IsSymbolBelow rules tokens (Terminal t) = t < tokens

-- token t is in First(w, a) for a token a of the set
abbrev pub IsFirstBefore : Grammar → List Bool → List GrammarSymbol → ℕ → Type 0
IsFirstBefore g after w t = (a : ℕ) × IsTrue (has after a) × IsFirst g a w t
