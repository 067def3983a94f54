-- A walk over symbols, which asks whether they begin with a token: at each step, all begin with it if those that are left do.
use Rattle.std.proofs.Common.{◌≡◌, ◌<◌, ◌+◌, ◌==◌, ◌||◌, ◌&&◌, ◌∙◌, sym, ap, arith, ℕ, Bool, true, false, List, ◌∷◌, All, drop, get_or, length, map, nat_lt}
use Rattle.lrpar_grammar_places.specs.declared.span.RIdx.{RIdx}
use Rattle.lrpar_grammar_places.specs.declared.span.Symbol.{Symbol}
use Rattle.lrpar_grammar_places.specs.declared.span.Symbol.TheVariants.{Rule}
use Rattle.lrpar_grammar.specs.Grammar.{GrammarSymbol, Nonterminal, Terminal}
use Rattle.lrpar_grammar.specs.Symbols.{symbol_of}
use Rattle.lrpar_grammar.specs.declared.token_set.TokenSet.{TokenSet}
use Rattle.lrpar_table_first.specs.FirstRows.{IsSymbolBelow, begins, row_at, rows_of}
use Rattle.lrpar_table_first.proofs.RowLemmas.{row_is, symbol_below, symbols_from}
use Rattle.lrpar_grammar.specs.Tokens.{has}

module _ (dummy : ℕ) (rows : List (List Bool)) (symbols : List GrammarSymbol) (i t : ℕ)
    (so_far : begins dummy rows symbols t ≡ begins dummy rows (drop i symbols) t) where
  pub at_token : (s : ℕ) (w : List GrammarSymbol) → drop i symbols ≡ Terminal s ∷ w → (t == s) ≡ begins dummy rows symbols t
  at_token s w at = sym (so_far ∙ ap (λ x. begins dummy rows x t) at)

  module _ (r : ℕ) (w : List GrammarSymbol) (at : drop i symbols ≡ Nonterminal r ∷ w) where
    at_own : (nat_lt t dummy && has (row_at rows r) t) ≡ true → true ≡ begins dummy rows symbols t
    at_own own = sym (so_far ∙ ap (λ x. begins dummy rows x t) at ∙ ap (λ b. b || (has (row_at rows r) dummy && begins dummy rows w t)) own)

    at_stop : (nat_lt t dummy && has (row_at rows r) t) ≡ false → has (row_at rows r) dummy ≡ false → false ≡ begins dummy rows symbols t
    at_stop none ends =
        sym (so_far ∙ ap (λ x. begins dummy rows x t) at ∙ ap (λ b. b || (has (row_at rows r) dummy && begins dummy rows w t)) none
        ∙ ap (λ b. b && begins dummy rows w t) ends)

    at_through : (nat_lt t dummy && has (row_at rows r) t) ≡ false → has (row_at rows r) dummy ≡ true
        → begins dummy rows symbols t ≡ begins dummy rows w t
    at_through none through =
        so_far ∙ ap (λ x. begins dummy rows x t) at ∙ ap (λ b. b || (has (row_at rows r) dummy && begins dummy rows w t)) none
        ∙ ap (λ b. b && begins dummy rows w t) through

-- the walk over symbols of code has come to a rule
module _ {S : Type 0} (index : S → ℕ) (firsts : List TokenSet) (symbols : List (Symbol S)) (dummy i : ℕ)
    (below : All (IsSymbolBelow (length firsts) dummy) (map (symbol_of index) symbols)) (symbol : Symbol S) (rule : RIdx S) (r : ℕ)
    (within : i < length symbols) (read : symbol ≡ get_or symbols i symbol) (shows : symbol ≡ Rule rule) (number : r ≡ index rule.0) where
  -- it has a FIRST set
  pub set_there : r < length firsts
  set_there = let low = symbol_below index (IsSymbolBelow (length firsts) dummy) symbols i symbol (Rule rule) below within read shows in omega (arith, low, number)

  module _ (t : ℕ)
      (so_far : begins dummy (rows_of firsts) (map (symbol_of index) symbols) t ≡ begins dummy (rows_of firsts) (drop i (map (symbol_of index) symbols)) t)
      (set : TokenSet) (found : set ≡ get_or firsts r set) (own : Bool) (own_is : own ≡ (nat_lt t dummy && has set t)) where
    -- from here on
    left : drop i (map (symbol_of index) symbols) ≡ Nonterminal r ∷ drop (i + 1) (map (symbol_of index) symbols)
    left =
        let rest = drop (i + 1) (map (symbol_of index) symbols) in
        symbols_from index symbols i symbol within read ∙ ap (λ s. symbol_of index s ∷ rest) shows ∙ ap (λ n. Nonterminal n ∷ rest) (sym number)

    row : row_at (rows_of firsts) r ≡ set
    row = row_is firsts r set set_there found

    own_in_row : (nat_lt t dummy && has (row_at (rows_of firsts) r) t) ≡ own
    own_in_row = ap (λ bits. nat_lt t dummy && has bits t) row ∙ sym own_is

    -- the rule begins with the token
    pub begins_here : own ≡ true → true ≡ begins dummy (rows_of firsts) (map (symbol_of index) symbols) t
    begins_here own_true =
        at_own dummy (rows_of firsts) (map (symbol_of index) symbols) i t so_far r (drop (i + 1) (map (symbol_of index) symbols)) left (own_in_row ∙ own_true)

    -- it doesn't, and it isn't nullable
    pub stops_here : own ≡ false → (b : Bool) → b ≡ has set dummy → b ≡ false
        → false ≡ begins dummy (rows_of firsts) (map (symbol_of index) symbols) t
    stops_here own_false b is none =
        at_stop dummy (rows_of firsts) (map (symbol_of index) symbols) i t so_far r (drop (i + 1) (map (symbol_of index) symbols)) left (own_in_row ∙ own_false)
        (ap (λ bits. has bits dummy) row ∙ sym is ∙ none)

    -- it doesn't, but it is nullable
    pub goes_through : own ≡ false → (b : Bool) → b ≡ has set dummy → b ≡ true
        → begins dummy (rows_of firsts) (map (symbol_of index) symbols) t ≡ begins dummy (rows_of firsts) (drop (i + 1) (map (symbol_of index) symbols)) t
    goes_through own_false b is through =
        at_through dummy (rows_of firsts) (map (symbol_of index) symbols) i t so_far r (drop (i + 1) (map (symbol_of index) symbols)) left
        (own_in_row ∙ own_false) (ap (λ bits. has bits dummy) row ∙ sym is ∙ through)
