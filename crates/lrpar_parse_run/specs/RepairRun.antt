-- A run with repairs: at an error point the recoverer supplies sequences, those that work are listed, and the run goes on after a
-- replay of the first of them.
use Rattle.std.specs.Prelude.{◌≡◌, ◌-◌, ℕ, List, [], ◌∷◌, ◌++◌, map, take, drop, option_map, Option, Some, None}
use Rattle.lrpar_grammar.specs.Grammar.{Grammar}
use Rattle.lrpar_grammar.specs.Sentence.{LexemeFacts}
use Rattle.lrpar_table_rows.specs.Table.{Table}
use Rattle.lrpar_table_stacks.specs.Stack.{top_of}
use Rattle.lrpar_parse_errors.specs.Failure.{Failure}
use Rattle.lrpar_parse_repair.specs.Repaired.{Consumes, repairs_over}
use Rattle.lrpar_parse_repair.specs.Recovery.{Point}
use Rattle.lrpar_table_stacks.specs.Run.{Far, Accepted, Stopped, Stop}
use Rattle.lrpar_parse_run.specs.RunAnswer.{IsLexemeAt}
use Rattle.lrpar_parse_repair.specs.Sequences.{PlainStep, AreThoseWith, Replays, Works}

-- an error point of a run, and the sequences that are listed there
pub record RepairStop : Type 0 where
  pub stop : Stop
  pub listed : List (List PlainStep)

-- the lexemes that a run feeds from place i to place j
abbrev pub fed_between : {X : Type 0} → List X → ℕ → ℕ → List X
fed_between lexemes i j = take (j - i) (drop i lexemes)

-- `allows` says which answers the recoverer may give at an error point, and k how many lexemes must follow a repair
module _ {X : Type 0} (facts : X → LexemeFacts) (allows : Point X → List (List PlainStep) → Type 0) (k : ℕ) (g : Grammar) (table : Table) (lexemes : List X) where
  -- there is an answer that the recoverer allows for the lexemes, the place and the settled stack of the error point, and these are its
  -- members that work from there
  pub record IsListedAt (stop : Stop) (listed : List (List PlainStep)) : Type 0 where
    pub answer : List (List PlainStep)
    pub allowed : allows (record { lexemes = lexemes; place = stop.place; stack = stop.stack }) answer
    pub those : AreThoseWith (Works (λ x. (facts x).token) g table lexemes k stop.stack stop.place) answer listed

  -- A run from the stack at place i: its error points, with what is listed there; the lexemes that it consumes, if it accepts; and its
  -- reductions.
  pub data RepairRun : List ℕ → ℕ → List RepairStop → Option (List X) → List ℕ → Type 0 where
    -- the run accepts, and consumes the lexemes from place i on
    runs_through : (st : List ℕ) (i : ℕ) (prods : List ℕ) → Far (λ x. (facts x).token) g table lexemes st i prods Accepted
        → RepairRun st i [] (Some (drop i lexemes)) prods
    -- the run has an error point, at which no sequence is listed, and ends there
    ends_there : (st : List ℕ) (i : ℕ) (prods : List ℕ) (stop : Stop) → Far (λ x. (facts x).token) g table lexemes st i prods (Stopped stop)
        → IsListedAt stop [] → RepairRun st i (record { stop = stop; listed = [] } ∷ []) None prods
    -- the run has an error point, the first listed sequence is replayed, and the run goes on from the result: it consumes the lexemes
    -- before the error point, what the sequence consumes, and what is consumed from there on
    is_repaired : (st : List ℕ) (i : ℕ) (prods : List ℕ) (stop : Stop) (first : List PlainStep) (listed : List (List PlainStep))
        (made after : List ℕ) (j : ℕ) (recovered : List X) (stops : List RepairStop) (consumed : Option (List X)) (rest : List ℕ)
        → Far (λ x. (facts x).token) g table lexemes st i prods (Stopped stop) → IsListedAt stop (first ∷ listed)
        → Replays (λ x. (facts x).token) g table lexemes stop.stack stop.place first made after j
        → Consumes facts lexemes stop.place first recovered
        → RepairRun after j stops consumed rest
        → RepairRun st i (record { stop = stop; listed = first ∷ listed } ∷ stops)
        (option_map (λ xs. fed_between lexemes i stop.place ++ recovered ++ xs) consumed) (prods ++ made ++ rest)

-- the error of an error point: the top state of its settled stack, the lexeme at its place, and the listed sequences, each Delete and
-- Shift with its own lexeme
pub record IsRepairFailure {X : Type 0} (facts : X → LexemeFacts) (g : Grammar) (lexemes : List X) (at : RepairStop) (failure : Failure X) : Type 0 where
  pub state : top_of at.stop.stack ≡ Some failure.state
  pub lexeme : IsLexemeAt facts g lexemes at.stop.place failure.lexeme
  pub repairs : failure.repairs ≡ map (repairs_over (drop at.stop.place lexemes)) at.listed
