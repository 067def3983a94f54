-- The rules that the closure adds, each with its lookaheads.
use Rattle.std.specs.Prelude.{◌≡◌, ◌<◌, ℕ, Bool, IsTrue, List, ◌∷◌}
use Rattle.lrpar_grammar.specs.Grammar.{Grammar, GrammarSymbol, Nonterminal, prods_len, rule_of, symbols_of}
use Rattle.lrpar_table_first.specs.First.{IsFirst}
use Rattle.lrpar_table_first.specs.FirstRows.{row_at}
use Rattle.lrpar_grammar.specs.Tokens.{has}

-- The closure of given rules with lookaheads has rule r with lookahead t: the least set that has the given ones; and, if it has rule
-- B with lookahead s, for each production `B: C w` it has C with each token of First(w, s)
pub data IsBrought (g : Grammar) (given : ℕ → ℕ → Type 0) : ℕ → ℕ → Type 0 where
  Given : (r t : ℕ) → given r t → IsBrought g given r t
  Brought : (p r s t : ℕ) (w : List GrammarSymbol) → p < prods_len g → symbols_of g p ≡ Nonterminal r ∷ w
      → IsBrought g given (rule_of g p) s → IsFirst g s w t → IsBrought g given r t

-- the set of rule r has the token
abbrev pub HasIn : List (List Bool) → ℕ → ℕ → Type 0
HasIn rows r t = IsTrue (has (row_at rows r) t)

-- the later sets have all that the earlier ones have
abbrev pub Keeps : List (List Bool) → List (List Bool) → Type 0
Keeps before after = (r t : ℕ) → HasIn before r t → HasIn after r t

-- what the later sets have is in the closure of what the earlier ones have
abbrev pub AreBroughtFrom : Grammar → List (List Bool) → List (List Bool) → Type 0
AreBroughtFrom g before after = (r t : ℕ) → HasIn after r t → IsBrought g (HasIn before) r t

-- the sets are closed at production p: they have all that it adds
abbrev pub IsSpreadAt : Grammar → List (List Bool) → ℕ → Type 0
IsSpreadAt g rows p = (r s t : ℕ) (w : List GrammarSymbol) → symbols_of g p ≡ Nonterminal r ∷ w → HasIn rows (rule_of g p) s → IsFirst g s w t
    → HasIn rows r t

-- the sets are closed at all productions of rule n
abbrev pub IsSpreadOf : Grammar → List (List Bool) → ℕ → Type 0
IsSpreadOf g rows n = (p : ℕ) → p < prods_len g → rule_of g p ≡ n → IsSpreadAt g rows p
