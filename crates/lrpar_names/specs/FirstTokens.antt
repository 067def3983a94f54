-- The tokens with which each rule can begin.
use Rattle.std.specs.Prelude.{◌≡◌, ◌<◌, ◌&&◌, ◌↔◌, ℕ, Bool, IsTrue, List, [], ◌∷◌, All, length, nat_lt}
use Rattle.lrpar_grammar.specs.Grammar.{Grammar, Nonterminal, rules_len, tokens_len}
use Rattle.lrpar_grammar.specs.Tokens.{has}
use Rattle.lrpar_table_first.specs.First.{IsFirst}
use Rattle.lrpar_table_first.specs.FirstRows.{row_at}

-- whether rule r can begin with token t, by the row of each rule
abbrev pub can_begin : List (List Bool) → ℕ → ℕ → Bool
can_begin rows r t = has (row_at rows r) t

-- there is a row for each rule, and it has the tokens of the rule's FIRST set; the number of tokens stands for what comes after the rule
pub record AreFirstTokens (g : Grammar) (rows : List (List Bool)) : Type 0 where
  pub rules : length rows ≡ rules_len g
  pub exact : (r t : ℕ) → IsTrue (can_begin rows r t) ↔ ((t < tokens_len g) × IsFirst g (tokens_len g) (Nonterminal r ∷ []) t)

-- the bits below `end`, with room for no others
pub record AreBitsBelow (bits : List Bool) (end : ℕ) (below : List Bool) : Type 0 where
  pub room : length below ≡ end
  pub same : (t : ℕ) → has below t ≡ (nat_lt t end && has bits t)

-- of each row the bits below `end`, with room for no others
pub record AreRowsBelow (rows : List (List Bool)) (end : ℕ) (below : List (List Bool)) : Type 0 where
  pub rules : length below ≡ length rows
  pub room : All (λ row. length row ≡ end) below
  pub same : (r t : ℕ) → can_begin below r t ≡ (nat_lt t end && can_begin rows r t)
