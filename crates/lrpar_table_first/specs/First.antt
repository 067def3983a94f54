-- FIRST sets of lists of symbols, as in Aho and Ullman, 'The Theory of Parsing, Translation, and Compiling'.
use Rattle.std.specs.Prelude.{◌≡◌, ◌<◌, ℕ, List, [], ◌∷◌, ◌++◌}
use Rattle.lrpar_grammar.specs.Grammar.{Grammar, GrammarSymbol, Nonterminal, Terminal, prods_len, rule_of, symbols_of}

-- First(w, a): the FIRST set of the symbols w followed by the token a. It has a if w is nullable. These are the least sets
-- with: a is in First(empty, a); t is in First(t w, a); and what is in First(u w, a), for a production `B: u`, is in
-- First(B w, a)
pub data IsFirst (g : Grammar) (a : ℕ) : List GrammarSymbol → ℕ → Type 0 where
  Empty : IsFirst g a [] a
  Token : (t : ℕ) (w : List GrammarSymbol) → IsFirst g a (Terminal t ∷ w) t
  Rule : (p : ℕ) (r : ℕ) (w : List GrammarSymbol) (t : ℕ) → p < prods_len g → rule_of g p ≡ r
      → IsFirst g a (symbols_of g p ++ w) t → IsFirst g a (Nonterminal r ∷ w) t
