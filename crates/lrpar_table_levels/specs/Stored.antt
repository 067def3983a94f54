-- Levels, the productions that name one of them, and symbols, as the code stores them. `index` is the number that a storage number
-- represents.
use Rattle.std.specs.Prelude.{◌≡◌, ◌<◌, ◌++◌, ℕ, List, All, IfOk, Option, Result, length, map, option_map, Vec}
use Rattle.std.specs.Option.{option_and_then}
use Rattle.lrpar_grammar_places.specs.declared.span.PIdx.{PIdx}
use Rattle.lrpar_grammar_places.specs.declared.span.Symbol.{Symbol}
use Rattle.lrpar_grammar_places.specs.declared.span.TIdx.{TIdx}
use Rattle.lrpar_grammar.specs.Grammar.{Grammar, prods_len, tokens_len}
use Rattle.lrpar_grammar.specs.Symbols.{symbol_of}
use Rattle.lrpar_table_levels.specs.Filled.{AreFilled}
use Rattle.lrpar_table_levels.specs.Levels.{AreOnce, AreWithin, IsPrecedenceFault, LevelOf, declared_prod, declared_token, last_token, level_of, named_of, precedence_at, prod_entries, token_entries}
use Rattle.lrpar_table_precedence.specs.Precedence.{PrecedenceLists, prod_precedence, slot_at, token_precedence}
use Rattle.lrpar_table_levels.specs.declared.fault.PrecedenceFault.{PrecedenceFault}
use Rattle.lrpar_table_levels.specs.declared.levels.Level.{Level}
use Rattle.lrpar_table_precedence.specs.declared.precedence.Precedence.{Precedence}

module _ {S : Type 0} (index : S → ℕ) where
  -- the levels, each with its tokens by number
  abbrev pub levels_of : List (Level S) → List LevelOf
  levels_of levels = map (level_of index) levels

  -- the productions that name a level, by number
  abbrev pub names_of : List (PIdx S × ℕ) → List (ℕ × ℕ)
  names_of named = map (named_of index) named

  -- each token and each production is one of the grammar, and each level that a production names is one of the levels
  abbrev pub AreKnown : Grammar → List (Level S) → List (PIdx S × ℕ) → Type 0
  AreKnown g levels named = AreWithin g (levels_of levels) (names_of named)

  -- no token is in the levels twice, and no production names two levels
  abbrev pub AreDeclaredOnce : List (Level S) → List (PIdx S × ℕ) → Type 0
  AreDeclaredOnce levels named = AreOnce (levels_of levels) (names_of named)

  -- if there are precedences, each token has the one that the levels declare for it
  abbrev pub GivesTokens : {E : Type 0} → List (Level S) → Result PrecedenceLists E → Type 0
  GivesTokens levels result = IfOk result (λ made. (t : ℕ) → token_precedence made t ≡ declared_token (levels_of levels) t)

  -- if there are precedences, each production of the grammar has the one that the levels declare for it
  abbrev pub GivesProds : {E : Type 0} → Grammar → List (Level S) → List (PIdx S × ℕ) → Result PrecedenceLists E → Type 0
  GivesProds g levels named result =
      IfOk result (λ made. (p : ℕ) → p < prods_len g → prod_precedence made p ≡ declared_prod g (levels_of levels) (names_of named) p)

  -- the fault says why the levels make no precedences
  abbrev pub IsLevelsFaultOf : Grammar → List (Level S) → List (PIdx S × ℕ) → PrecedenceFault → Type 0
  IsLevelsFaultOf g levels named fault = IsPrecedenceFault g (levels_of levels) (names_of named) fault

  -- the fault says why the levels make no precedences, whatever productions name a level
  abbrev pub IsTokenFault : Grammar → List (Level S) → PrecedenceFault → Type 0
  IsTokenFault g levels fault = (named : List (ℕ × ℕ)) → IsPrecedenceFault g (levels_of levels) named fault

  -- each token of the levels is one of the grammar
  abbrev pub AreTokensKnown : Grammar → List (Level S) → Type 0
  AreTokensKnown g levels = All (λ (level : LevelOf). All (λ t. t < tokens_len g) level.tokens) (levels_of levels)

  -- each token is below the number
  abbrev pub AreBelow : ℕ → List (TIdx S) → Type 0
  AreBelow n tokens = All (λ t. index t.0 < n) tokens

  -- each token of the levels is below the number
  abbrev pub HaveTokensBelow : ℕ → List (Level S) → Type 0
  HaveTokensBelow n levels = All (λ level. AreBelow n level.tokens.items) levels

  -- each production and each level that it names are below these numbers
  abbrev pub AreNamedBelow : ℕ → ℕ → List (PIdx S × ℕ) → Type 0
  AreNamedBelow prods levels named = All (λ entry. (index entry.0.0 < prods) × (entry.1 < levels)) named

  -- each level that a production names is one of the levels
  abbrev pub AreLevelsKnown : List (Level S) → List (PIdx S × ℕ) → Type 0
  AreLevelsKnown levels named = All (λ entry. entry.1 < length levels) named

  -- this is the precedence of level n
  abbrev pub IsOfLevel : List (Level S) → ℕ → Precedence → Type 0
  IsOfLevel levels n precedence = precedence ≡ precedence_at (levels_of levels) n

  -- if there is a list, it has the tokens of the levels, each with its precedence
  abbrev pub ListsTokens : {A E : Type 0} → List (Level S) → Result (Vec (ℕ × Precedence) A) E → Type 0
  ListsTokens levels result = IfOk result (λ entries. entries.items ≡ token_entries (levels_of levels))

  -- if there is a list, it has the productions that name a level, each with its precedence
  abbrev pub ListsNamed : {A E : Type 0} → List (Level S) → List (PIdx S × ℕ) → Result (Vec (ℕ × Precedence) A) E → Type 0
  ListsNamed levels named result = IfOk result (λ entries. entries.items ≡ prod_entries (levels_of levels) (names_of named))

  -- the tokens were appended, each with this precedence
  abbrev pub AppendsTokens : {A : Type 0} → Precedence → List (TIdx S) → Vec (ℕ × Precedence) A → Vec (ℕ × Precedence) A → Type 0
  AppendsTokens precedence tokens old new = new.items ≡ old.items ++ map (λ t. (index t.0, precedence)) tokens

  -- if there are slots, they have the tokens of the levels, each of which is there once
  abbrev pub FillsTokens : {A E : Type 0} → List (Level S) → Result (Vec (Option Precedence) A) E → Type 0
  FillsTokens levels result = IfOk result (λ slots. AreFilled (token_entries (levels_of levels)) slots.items)

  -- if there are slots, they have the productions that name a level, each of which is there once
  abbrev pub FillsNamed : {A E : Type 0} → List (Level S) → List (PIdx S × ℕ) → Result (Vec (Option Precedence) A) E → Type 0
  FillsNamed levels named result = IfOk result (λ slots. AreFilled (prod_entries (levels_of levels) (names_of named)) slots.items)

  -- this is the last token among the symbols; none, if there is none
  abbrev pub IsLastToken : List (Symbol S) → Option (TIdx S) → Type 0
  IsLastToken symbols token = option_map (λ t. index t.0) token ≡ last_token (map (symbol_of index) symbols)

  -- the precedence of the last token among the symbols, if there is one and it has one
  abbrev pub last_precedence : List (Option Precedence) → List (Symbol S) → Option Precedence
  last_precedence tokens symbols = option_and_then (slot_at tokens) (last_token (map (symbol_of index) symbols))
