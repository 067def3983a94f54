-- The replay of repair sequences: a sequence works if it can be replayed and the parse can go on, and its replay has one result.
use Rattle.std.specs.Prelude.{◌≡◌, ◌+◌, ◌↔◌, ℕ, List, [], ◌∷◌}
use Rattle.lrpar_grammar.specs.Grammar.{Grammar}
use Rattle.lrpar_table_rows.specs.Table.{Table}
use Rattle.lrpar_parse_repair.specs.Sequences.{PlainStep, PlainInsert, PlainDelete, PlainShift, CanGoOn, Replays, Works}

-- a sequence works if and only if it can be replayed, and k lexemes can be fed after that
abbrev pub WorksByReplay : Type 0 → Type 0
WorksByReplay X =
    (token : X → ℕ) (g : Grammar) (table : Table) (lexemes : List X) (k : ℕ) (st : List ℕ) (i : ℕ) (steps : List PlainStep)
    → Works token g table lexemes k st i steps
    ↔ ((prods after : List ℕ) × (j : ℕ) × Replays token g table lexemes st i steps prods after j × CanGoOn token g table lexemes k after j)

-- the replay of a sequence has one result: one stack, one place, and one list of reductions
abbrev pub ReplaysOneWay : Type 0 → Type 0
ReplaysOneWay X =
    (token : X → ℕ) (g : Grammar) (table : Table) (lexemes : List X) (st : List ℕ) (i : ℕ) (steps : List PlainStep) (ps a : List ℕ) (j : ℕ) (qs b : List ℕ) (k : ℕ)
    → Replays token g table lexemes st i steps ps a j → Replays token g table lexemes st i steps qs b k → (ps ≡ qs) × (a ≡ b) × (j ≡ k)

-- how many lexemes of the input the steps use up: one for each Delete and each Shift
abbrev pub places_of : List PlainStep → ℕ
places_of [] = 0
places_of (PlainInsert t ∷ steps) = places_of steps
places_of (PlainDelete ∷ steps) = places_of steps + 1
places_of (PlainShift ∷ steps) = places_of steps + 1
