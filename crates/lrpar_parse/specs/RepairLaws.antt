-- Laws of repair sequences and of runs with repairs.
use Rattle.std.specs.Prelude.{◌≡◌, ◌≢◌, ◌<◌, ◌≤◌, ◌+◌, ◌/◌, ◌↔◌, ℕ, List, [], All, length, map, option_map, Option, IsSome}
use Rattle.std.specs.List.{AllPairs}
use Rattle.lrpar_grammar.specs.Grammar.{Grammar, end_token}
use Rattle.lrpar_grammar.specs.Sentence.{IsValidList, LexemeFacts}
use Rattle.lrpar_table_rows.specs.Table.{Table, Fails}
use Rattle.lrpar_table_check.specs.Checked.{Checked, IsChecked}
use Rattle.lrpar_table_stacks.specs.Reduction.{top_action}
use Rattle.lrpar_table_stacks.specs.Stack.{IsStack}
use Rattle.lrpar_parse_repair.specs.AlwaysRepairs.{TwoRecoverers}
use Rattle.lrpar_parse_repair.specs.Asked.{Asked, allowed_at}
use Rattle.lrpar_parse_repair.specs.Recovery.{Point}
use Rattle.lrpar_parse_run.specs.RepairRun.{RepairRun, RepairStop}
use Rattle.lrpar_table_stacks.specs.Run.{Run, Stop, token_at}
use Rattle.lrpar_parse_repair.specs.Sequences.{PlainStep, PlainInsert, PlainDelete, PlainShift}
use Rattle.lrpar_parse_repair.specs.Replays.{places_of}

-- an Insert inserts a token of the grammar other than the end token
abbrev pub InsertsListed : Grammar → PlainStep → Type 0
InsertsListed g (PlainInsert t) = t < end_token g
InsertsListed g PlainDelete = Unit {0}
InsertsListed g PlainShift = Unit {0}

-- the sequence has a step; it inserts tokens of the grammar other than the end token; and from place i it deletes and shifts no more
-- lexemes than are left
pub record IsSound (g : Grammar) (lexemes i : ℕ) (steps : List PlainStep) : Type 0 where
  pub some : steps ≢ []
  pub inserts : All (InsertsListed g) steps
  pub places : i + places_of steps ≤ lexemes

-- the recoverer has at most one answer at each error point
abbrev pub SuppliesOne : {X : Type 0} → (Point X → List (List PlainStep) → Type 0) → Type 0
SuppliesOne {X} allows = (point : Point X) (a b : List (List PlainStep)) → allows point a → allows point b → a ≡ b

-- if each of two recoverers has at most one answer at each error point, so have both in turn; `together` says which answers both may give
abbrev pub BothSupplyOne : {A B X : Type 0} → (A → Asked X → List (List PlainStep) → Type 0) → (B → Asked X → List (List PlainStep) → Type 0) → (TwoRecoverers A B → Asked X → List (List PlainStep) → Type 0) → Type 0
BothSupplyOne {A} {B} first second together =
    (both : TwoRecoverers A B) (d : Checked) (k : ℕ) → SuppliesOne (allowed_at (first both.first) d k) → SuppliesOne (allowed_at (second both.second) d k)
    → SuppliesOne (allowed_at (together both) d k)

-- runs with repairs over lexemes of this type
module _ {X : Type 0} (facts : X → LexemeFacts) (allows : Point X → List (List PlainStep) → Type 0) where
  -- each listed sequence is sound
  abbrev pub ListsSound : Type 0
  ListsSound =
      (k : ℕ) (g : Grammar) (table : Table) (lexemes : List X) (st : List ℕ) (stops : List RepairStop) (consumed : Option (List X)) (prods : List ℕ)
      → 0 < k → RepairRun facts allows k g table lexemes st 0 stops consumed prods
      → All (λ s. All (IsSound g (length lexemes) s.stop.place) s.listed) stops

  -- each error point is at least k lexemes after those before it, so over n lexemes there are at most n / k + 1
  abbrev pub StopsLieApart : Type 0
  StopsLieApart =
      (k : ℕ) (g : Grammar) (table : Table) (lexemes : List X) (st : List ℕ) (stops : List RepairStop) (consumed : Option (List X)) (prods : List ℕ)
      → 0 < k → RepairRun facts allows k g table lexemes st 0 stops consumed prods
      → AllPairs (λ s t. s.stop.place + k ≤ t.stop.place) stops × (length stops ≤ length lexemes / k + 1)

  -- the run accepts if and only if a sequence is listed at each error point
  abbrev pub AcceptsWhereRepaired : Type 0
  AcceptsWhereRepaired =
      (k : ℕ) (g : Grammar) (table : Table) (lexemes : List X) (st : List ℕ) (stops : List RepairStop) (consumed : Option (List X)) (prods : List ℕ)
      → RepairRun facts allows k g table lexemes st 0 stops consumed prods
      → IsSome consumed ↔ All (λ s. s.listed ≢ []) stops

  -- over a checked table and a valid list, from a stack of the table, the stack of each error point is a stack of the table
  abbrev pub StopsAtStacks : Type 0
  StopsAtStacks =
      (d : Checked) (k : ℕ) (lexemes : List X) (st : List ℕ) (stops : List RepairStop) (consumed : Option (List X)) (prods : List ℕ)
      → IsChecked d → IsValidList d.grammar (map facts lexemes) → IsStack d.table st
      → RepairRun facts allows k d.grammar d.table lexemes st 0 stops consumed prods
      → All (λ s. IsStack d.table s.stop.stack) stops

  -- over a checked table and a valid list, from a stack of the table, the top state of each error point has no action at the token there
  abbrev pub StopsByFailing : Type 0
  StopsByFailing =
      (d : Checked) (k : ℕ) (lexemes : List X) (st : List ℕ) (stops : List RepairStop) (consumed : Option (List X)) (prods : List ℕ)
      → IsChecked d → IsValidList d.grammar (map facts lexemes) → IsStack d.table st
      → RepairRun facts allows k d.grammar d.table lexemes st 0 stops consumed prods
      → All (λ s. top_action d.table (token_at (λ x. (facts x).token) d.grammar lexemes s.stop.place) s.stop.stack ≡ Fails) stops

  -- if the recoverer has at most one answer at each error point, two runs from one stack and place have the same error points, list the
  -- same sequences there, make the same reductions, and consume lexemes with the same facts
  abbrev pub RepairRunsOneWay : Type 0
  RepairRunsOneWay =
      SuppliesOne allows → (k : ℕ) (g : Grammar) (table : Table) (lexemes : List X) (st : List ℕ) (i : ℕ)
      (a b : List RepairStop) (xs ys : Option (List X)) (ps qs : List ℕ)
      → RepairRun facts allows k g table lexemes st i a xs ps → RepairRun facts allows k g table lexemes st i b ys qs
      → (a ≡ b) × (option_map (map facts) xs ≡ option_map (map facts) ys) × (ps ≡ qs)

-- if the recoverer supplies nothing, the run is the one without repairs
abbrev pub RunsWithoutRepairs : Type 0 → Type 0
RunsWithoutRepairs X =
    (facts : X → LexemeFacts) (k : ℕ) (g : Grammar) (table : Table) (lexemes : List X) (st : List ℕ) (i : ℕ) (stops : List Stop) (consumed : Option (List X)) (prods : List ℕ)
    → RepairRun facts (λ _ answer. answer ≡ []) k g table lexemes st i (map (λ s. record { stop = s; listed = [] }) stops) consumed prods
    ↔ Run (λ x. (facts x).token) g table lexemes st i stops consumed prods
