-- The precedences that levels declare. A token has that of its level. A production has that of the level that it names by `%prec`,
-- otherwise that of its last token.
use Rattle.std.specs.Prelude.{◌≡◌, ◌<◌, ◌≤◌, ◌==◌, ℕ, List, [], ◌∷◌, All, Option, Some, None, count_by, length, map, nat_eq, slice_index_or, unwrap_or}
use Rattle.std.specs.List.{flat_map, range_with_len}
use Rattle.std.specs.Map.{keys_of, lookup}
use Rattle.std.specs.Option.{option_and_then, option_or}
use Rattle.lrpar_grammar_places.specs.declared.span.PIdx.{PIdx}
use Rattle.lrpar_grammar.specs.Grammar.{Grammar, GrammarSymbol, Nonterminal, Terminal, prods_len, symbols_of, tokens_len}
use Rattle.lrpar_table_precedence.specs.Precedence.{PrecedenceLists, prod_precedence}
use Rattle.lrpar_table_precedence.specs.declared.precedence.AssocKind.{AssocKind}
use Rattle.lrpar_table_precedence.specs.declared.precedence.AssocKind.TheVariants.{Left}
use Rattle.lrpar_table_precedence.specs.declared.precedence.Precedence.{Precedence}
use Rattle.lrpar_table_levels.specs.declared.levels.Level.{Level}
use Rattle.lrpar_table_levels.specs.declared.fault.PrecedenceFault.{PrecedenceFault}
use Rattle.lrpar_table_levels.specs.declared.fault.PrecedenceFault.TheVariants.{BadIndex, Memory, ProdTwice, TokenTwice}

-- a level: how its tokens associate, and its tokens
pub record LevelOf : Type 0 where
  pub kind : AssocKind
  pub tokens : List ℕ

-- the level that a value of code represents
abbrev pub level_of : {S : Type 0} → (S → ℕ) → Level S → LevelOf
level_of index level = record { kind = level.kind; tokens = map (λ t. index t.0) level.tokens.items }

-- a production with the number of the level that it names
abbrev pub named_of : {S : Type 0} → (S → ℕ) → PIdx S × ℕ → ℕ × ℕ
named_of index entry = (index entry.0.0, entry.1)

-- level n; out of range, one without tokens
abbrev pub level_at : List LevelOf → ℕ → LevelOf
level_at levels n = slice_index_or levels n (record { kind = Left; tokens = [] })

-- the precedence of level n
abbrev pub precedence_at : List LevelOf → ℕ → Precedence
precedence_at levels n = record { level = n; kind = (level_at levels n).kind }

-- the tokens of level n, each with the level's precedence
abbrev pub entries_at : List LevelOf → ℕ → List (ℕ × Precedence)
entries_at levels n = map (λ t. (t, precedence_at levels n)) (level_at levels n).tokens

-- the tokens of all levels, each with its precedence
abbrev pub token_entries : List LevelOf → List (ℕ × Precedence)
token_entries levels = flat_map (entries_at levels) (range_with_len 0 (length levels))

-- the productions that name a level, each with its precedence
abbrev pub prod_entries : List LevelOf → List (ℕ × ℕ) → List (ℕ × Precedence)
prod_entries levels named = map (λ entry. (entry.0, precedence_at levels entry.1)) named

-- the last token among the symbols, if there is one
abbrev pub last_token : List GrammarSymbol → Option ℕ
last_token [] = None
last_token (Nonterminal r ∷ rest) = last_token rest
last_token (Terminal t ∷ rest) = Some (unwrap_or (last_token rest) t)

-- the precedence that the levels declare for token t
abbrev pub declared_token : List LevelOf → ℕ → Option Precedence
declared_token levels t = lookup (nat_eq t) (token_entries levels)

-- the precedence that the levels declare for production p
abbrev pub declared_prod : Grammar → List LevelOf → List (ℕ × ℕ) → ℕ → Option Precedence
declared_prod g levels named p =
    option_or (lookup (nat_eq p) (prod_entries levels named)) (option_and_then (declared_token levels) (last_token (symbols_of g p)))

-- no production past those of the grammar has a precedence
abbrev pub HasNoOtherProds : Grammar → PrecedenceLists → Type 0
HasNoOtherProds g lists = (p : ℕ) → prods_len g ≤ p → prod_precedence lists p ≡ None

-- each token and each production is one of the grammar, and each level that a production names is one of the levels
pub record AreWithin (g : Grammar) (levels : List LevelOf) (named : List (ℕ × ℕ)) : Type 0 where
  pub tokens : All (λ (level : LevelOf). All (λ t. t < tokens_len g) level.tokens) levels
  pub prods : All (λ entry. entry.0 < prods_len g) named
  pub levels_known : All (λ entry. entry.1 < length levels) named

-- how often the number is listed
abbrev pub count_in : List ℕ → ℕ → ℕ
count_in numbers n = count_by (λ k. k == n) numbers

-- no token is in the levels twice, and no production names two levels
pub record AreOnce (levels : List LevelOf) (named : List (ℕ × ℕ)) : Type 0 where
  pub tokens : (t : ℕ) → count_in (keys_of (token_entries levels)) t ≤ 1
  pub prods : (p : ℕ) → count_in (keys_of named) p ≤ 1

-- why there are no precedences: a number is out of range; the levels have the token twice; the production names two levels; or an
-- allocation failed
abbrev pub IsPrecedenceFault : Grammar → List LevelOf → List (ℕ × ℕ) → PrecedenceFault → Type 0
IsPrecedenceFault g levels named BadIndex = ¬ (AreWithin g levels named)
IsPrecedenceFault g levels named (TokenTwice t) = 2 ≤ count_in (keys_of (token_entries levels)) t
IsPrecedenceFault g levels named (ProdTwice p) = 2 ≤ count_in (keys_of named) p
IsPrecedenceFault g levels named Memory = Unit {0}
