-- The viable prefix property of runs with repairs: their first error point, by the sentences of a grammar, over a table that was
-- built of it, or over any viable table of it. Up to there a run with repairs is one without them. `facts` is what is known of a
-- lexeme, and `allows` says which answers the recoverer may give at a point.
use Rattle.std.specs.Prelude.{ℕ, List, [], ◌∷◌, Option, map, take}
use Rattle.lrpar_grammar.specs.Grammar.{Grammar, IsWellFormed}
use Rattle.lrpar_grammar.specs.Sentence.{LexemeFacts}
use Rattle.lrpar_table_rows.specs.Graph.{Graph}
use Rattle.lrpar_table_rows.specs.Safe.{IsSafe}
use Rattle.lrpar_table_rows.specs.Table.{Table, IsClosed}
use Rattle.lrpar_table_build.specs.Built.{IsBuilt}
use Rattle.lrpar_table_conditions.specs.Complete.{IsComplete}
use Rattle.lrpar_parse_repair.specs.Recovery.{Point}
use Rattle.lrpar_parse_run.specs.RepairRun.{RepairRun, RepairStop}
use Rattle.lrpar_parse_repair.specs.Sequences.{PlainStep}
use Rattle.lrpar_table_sentences.specs.Reachable.{EachReachableHasTree}
use Rattle.lrpar_table_viable.specs.Viable.{IsViable}
use Rattle.lrpar_parse_prefixes.specs.Viable.{BeginSentence, GoWrongAt}

-- runs with repairs over lexemes of this kind, from the start state at the first lexeme; k lexemes have to follow a repair
module _ {X : Type 0} (facts : X → LexemeFacts) (allows : Point X → List (List PlainStep) → Type 0) where
  -- no first error comes too late: a sentence begins with the lexemes before the first error point
  abbrev pub FirstErrorsComeInTime : Type 0
  FirstErrorsComeInTime =
      (k : ℕ) (g : Grammar) (graph : Graph) (table : Table) (lexemes : List X) (first : RepairStop) (later : List RepairStop)
      (consumed : Option (List X)) (prods : List ℕ)
      → IsWellFormed g → IsClosed table → IsBuilt g graph table → EachReachableHasTree g
      → RepairRun facts allows k g table lexemes (table.start ∷ []) 0 (first ∷ later) consumed prods
      → BeginSentence g (map (λ x. (facts x).token) (take first.stop.place lexemes))

  -- if the table is complete, no first error comes too early either: the first error point is the place at which the lexemes go wrong
  abbrev pub FirstErrorsAreExact : Type 0
  FirstErrorsAreExact =
      (k : ℕ) (g : Grammar) (graph : Graph) (table : Table) (lexemes : List X) (first : RepairStop) (later : List RepairStop)
      (consumed : Option (List X)) (prods : List ℕ)
      → IsWellFormed g → IsClosed table → IsBuilt g graph table → EachReachableHasTree g → IsComplete g graph table
      → RepairRun facts allows k g table lexemes (table.start ∷ []) 0 (first ∷ later) consumed prods
      → GoWrongAt g (map (λ x. (facts x).token) lexemes) first.stop.place

  -- over any table that is safe and viable, the first error point doesn't come too late: the lexemes before it begin a sentence
  abbrev pub ViableFirstErrorsComeInTime : Type 0
  ViableFirstErrorsComeInTime =
      (k : ℕ) (g : Grammar) (graph : Graph) (table : Table) (lexemes : List X) (first : RepairStop) (later : List RepairStop)
      (consumed : Option (List X)) (prods : List ℕ)
      → IsWellFormed g → IsClosed table → IsSafe g graph table → IsViable g graph table → EachReachableHasTree g
      → RepairRun facts allows k g table lexemes (table.start ∷ []) 0 (first ∷ later) consumed prods
      → BeginSentence g (map (λ x. (facts x).token) (take first.stop.place lexemes))

  -- over a complete table that is safe and viable, the first error point is the place at which the lexemes go wrong
  abbrev pub ViableFirstErrorsAreExact : Type 0
  ViableFirstErrorsAreExact =
      (k : ℕ) (g : Grammar) (graph : Graph) (table : Table) (lexemes : List X) (first : RepairStop) (later : List RepairStop)
      (consumed : Option (List X)) (prods : List ℕ)
      → IsWellFormed g → IsClosed table → IsSafe g graph table → IsViable g graph table → EachReachableHasTree g → IsComplete g graph table
      → RepairRun facts allows k g table lexemes (table.start ∷ []) 0 (first ∷ later) consumed prods
      → GoWrongAt g (map (λ x. (facts x).token) lexemes) first.stop.place
