-- FIRST sets and symbols, as the code stores them. `index` is the number that a storage number represents.
use Rattle.std.specs.Prelude.{◌≡◌, ◌≢◌, ◌<◌, ◌+◌, ◌||◌, ◌↔◌, ◌⊎◌, ◌∷◌, ℕ, IsTrue, List, All, MatchOption, Option, drop, length, map, Vec}
use Rattle.std.specs.Borrow.{Bor}
use Rattle.lrpar_grammar_places.specs.declared.span.PIdx.{PIdx}
use Rattle.lrpar_grammar_places.specs.declared.span.RIdx.{RIdx}
use Rattle.lrpar_grammar_places.specs.declared.span.Symbol.{Symbol}
use Rattle.lrpar_grammar.specs.Grammar.{Grammar, GrammarSymbol, IsWellFormed, Nonterminal, prods_len, rules_len, symbols_of, tokens_len}
use Rattle.lrpar_grammar.specs.Symbols.{symbol_of}
use Rattle.lrpar_grammar.specs.Tokens.{has}
use Rattle.lrpar_grammar.specs.declared.token_set.TokenSet.{TokenSet}
use Rattle.lrpar_table_first.specs.FirstRows.{AreFirsts, AreSound, HaveRoom, HoldNothing, IsClosedAt, IsFirstBefore, IsSymbolBelow, begins, dummy_lookahead, rows_of, total_missing}

-- the set has room for each token and for the dummy lookahead
abbrev pub IsWide : Grammar → TokenSet → Type 0
IsWide g set = length set ≡ dummy_lookahead g + 1

-- there is a set for each rule, with this room
abbrev pub HaveSpace : {A : Type 0} → Grammar → Vec TokenSet A → Type 0
HaveSpace g sets = HaveRoom g (rows_of sets.items)

-- there is a set for each rule, and each of these sets and `front` have this room
abbrev pub AreWide : Grammar → List TokenSet → TokenSet → Type 0
AreWide g sets front = HaveRoom g (rows_of sets) × IsWide g front

-- each set has room for the tokens below `dummy`, and for it
abbrev pub HaveRoomFor : ℕ → List TokenSet → Type 0
HaveRoomFor dummy sets = All (λ row. length row ≡ dummy + 1) (rows_of sets)

-- each set has the room that it had
abbrev pub KeepRoom : List TokenSet → List TokenSet → Type 0
KeepRoom old new = map (λ row. length row) (rows_of new) ≡ map (λ row. length row) (rows_of old)

-- all sets are empty
abbrev pub AreEmpty : List TokenSet → Type 0
AreEmpty sets = HoldNothing (rows_of sets)

-- each set is the FIRST set of its rule
abbrev pub HaveFirsts : {A : Type 0} → Grammar → Vec TokenSet A → Type 0
HaveFirsts g sets = AreFirsts g (rows_of sets.items)

-- the grammar is well-formed, and each set is the FIRST set of its rule
abbrev pub AreFirstsOf : Grammar → List TokenSet → Type 0
AreFirstsOf g sets = IsWellFormed g × AreFirsts g (rows_of sets)

-- if the sets were sound, they still are
abbrev pub StaySound : Grammar → List TokenSet → List TokenSet → Type 0
StaySound g old new = AreSound g (rows_of old) → AreSound g (rows_of new)

-- the sets lack fewer tokens than before
abbrev pub HaveGrown : List TokenSet → List TokenSet → Type 0
HaveGrown old new = total_missing (rows_of new) < total_missing (rows_of old)

-- the sets have the tokens that they had
abbrev pub KeepTokens : List TokenSet → List TokenSet → Type 0
KeepTokens old new = rows_of new ≡ rows_of old

-- the set of each production's rule has all that the production begins with, by the sets
abbrev pub AreClosed : Grammar → List TokenSet → Type 0
AreClosed g sets = (p : ℕ) → p < prods_len g → IsClosedAt g (rows_of sets) p

module _ {S : Type 0} (index : S → ℕ) where
  -- the set of the production's rule has all that the production begins with, by the sets
  abbrev pub IsClosedFor : Grammar → List TokenSet → PIdx S → Type 0
  IsClosedFor g sets prod = IsClosedAt g (rows_of sets) (index prod.0)

  -- the symbols are rules and tokens below these numbers
  abbrev pub AreSymbolsBelow : ℕ → ℕ → List (Symbol S) → Type 0
  AreSymbolsBelow rules tokens symbols = All (IsSymbolBelow rules tokens) (map (symbol_of index) symbols)

  -- the symbols are the grammar's
  abbrev pub AreSymbolsOf : Grammar → List (Symbol S) → Type 0
  AreSymbolsOf g symbols = AreSymbolsBelow (rules_len g) (tokens_len g) symbols

  -- the FIRST set of the symbols was added, computed from the set of each rule
  abbrev pub AddsFirst : ℕ → List TokenSet → List (Symbol S) → TokenSet → TokenSet → Type 0
  AddsFirst dummy sets symbols old new =
      (t : ℕ) → has new t ≡ (has old t || begins dummy (rows_of sets) (map (symbol_of index) symbols) t)

  -- First(symbols, a) was added for each token a of `after`
  abbrev pub AddsBefore : Grammar → TokenSet → List (Symbol S) → TokenSet → TokenSet → Type 0
  AddsBefore g after symbols old new =
      (t : ℕ) → IsTrue (has new t)
      ↔ (IsTrue (has old t) ⊎ IsFirstBefore g after (map (symbol_of index) symbols) t)

  -- the rule that the production has after its first `dot` symbols, and the symbols after that rule; none, if no rule is there
  abbrev pub FindsRule : Grammar → PIdx S → ℕ → Option (RIdx S × Bor (List (Symbol S))) → Type 0
  FindsRule g prod dot found =
      let after = drop dot (symbols_of g (index prod.0)) in
      MatchOption found ((r : ℕ) (w : List GrammarSymbol) → after ≢ Nonterminal r ∷ w)
      (λ found. after ≡ Nonterminal (index found.0.0) ∷ map (symbol_of index) found.1.now)
