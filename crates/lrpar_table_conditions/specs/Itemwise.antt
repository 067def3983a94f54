-- The conditions of completeness at a state, for the items of one core; and what is known when they are tested.
use Rattle.std.specs.Prelude.{◌≡◌, ◌≢◌, ◌<◌, ◌+◌, ◌↔◌, ℕ, Bool, IsTrue, List, ◌∷◌, All, Contains, drop, length}
use Rattle.lrpar_grammar.specs.Grammar.{Grammar, GrammarSymbol, IsWellFormed, Nonterminal, prods_len, rule_of, start_prod, symbols_of}
use Rattle.lrpar_table_first.specs.First.{IsFirst}
use Rattle.lrpar_table_first.specs.FirstRows.{AreFirsts, HoldNothing, dummy_lookahead, row_at, rows_of}
use Rattle.lrpar_grammar.specs.Tokens.{has}
use Rattle.lrpar_table_rows.specs.Graph.{Graph, HasItem, ItemOf, item_at}
use Rattle.lrpar_table_rows.specs.Safe.{HasShape}
use Rattle.lrpar_table_rows.specs.Table.{Table, TableAction, ReduceBy, Accepts}
use Rattle.lrpar_table_conditions.specs.Complete.{CarriesItem, EndsItem, ShiftsItem}
use Rattle.lrpar_table_conditions.specs.declared.completeness.CompletenessCondition.{CompletenessCondition}
use Rattle.lrpar_table_conditions.specs.declared.completeness.CompletenessCondition.TheVariants.{C3, C4, C5}
use Rattle.lrpar_table_conditions.specs.declared.completeness_test.sets.WorkSets.{WorkSets}

-- the grammar is well formed, the table has the shape S1, and these are the FIRST sets of the rules
pub record IsKnown (g : Grammar) (graph : Graph) (table : Table) (firsts : List (List Bool)) : Type 0 where
  pub well_formed : IsWellFormed g
  pub shape : HasShape g graph table
  pub exact : AreFirsts g firsts

-- there is a set for each production, with room for each token and for the dummy lookahead
pub record HaveStarts (g : Grammar) (rows : List (List Bool)) : Type 0 where
  pub prods : length rows ≡ prods_len g
  pub wide : All (λ row. length row ≡ dummy_lookahead g + 1) rows

-- each of the sets has room for each token and for the dummy lookahead
pub record HaveRoomFor (g : Grammar) (sets : WorkSets) : Type 0 where
  pub after : length sets.after ≡ dummy_lookahead g + 1
  pub front : length sets.front ≡ dummy_lookahead g + 1
  pub begun : length sets.begun ≡ dummy_lookahead g + 1
  pub starts : HaveStarts g (rows_of sets.starts.items)

-- the sets have room, and those of the productions are empty
pub record AreReady (g : Grammar) (sets : WorkSets) : Type 0 where
  pub room : HaveRoomFor g sets
  pub none : HoldNothing (rows_of sets.starts.items)

-- each production's set has the lookaheads of its items with dot 0 among these items
abbrev pub AreStartsOf : List ItemOf → List (List Bool) → Type 0
AreStartsOf items rows = (q t : ℕ) → IsTrue (has (row_at rows q) t) ↔ Contains items (item_at q 0 t)

-- C2 for an item `A: v . B w  {t}`, by these sets: for each production `B: u` and each b of First(w, t), the set has b
abbrev pub ClosesAmong : Grammar → List (List Bool) → ℕ → ℕ → ℕ → Type 0
ClosesAmong g rows p k t =
    (r : ℕ) (w : List GrammarSymbol) → drop k (symbols_of g p) ≡ Nonterminal r ∷ w
    → (q b : ℕ) → q < prods_len g → rule_of g q ≡ r → IsFirst g t w b → IsTrue (has (row_at rows q) b)

-- this holds for each item of s with the core p, k
abbrev pub EachOfCore : Graph → ℕ → ℕ → ℕ → (ℕ → ℕ → ℕ → Type 0) → Type 0
EachOfCore graph s p k Holds = (t : ℕ) → HasItem graph s p k t → Holds p k t

-- what a condition other than C1 and C2 requires of state s for an item
abbrev pub ItemHolds : Grammar → Graph → Table → CompletenessCondition → ℕ → ℕ → ℕ → ℕ → Type 0
ItemHolds g graph table C3 s p k t = ShiftsItem g graph table s p k t
ItemHolds g graph table C4 s p k t = CarriesItem g graph table s p k t
ItemHolds g graph table C5 s p k t = EndsItem g table s p k t
ItemHolds g graph table _ s p k t = Unit {0}

-- an action that ends the production: a reduction by it, or accept for the start production
pub record EndsBy (g : Grammar) (p : ℕ) (action : TableAction) : Type 0 where
  pub reduces : p ≢ start_prod g → action ≡ ReduceBy p
  pub accepts : p ≡ start_prod g → action ≡ Accepts
