-- The answer of a parse over valid lexemes, in parts: a run with repairs; the errors of the run; the value of what it consumed; the
-- bound of its reductions; and what holds over a complete table.
use Rattle.std.specs.Prelude.{◌≡◌, ◌≤◌, ◌∷◌, ℕ, List, [], length, MatchOption, Option}
use Rattle.std.specs.List.{AllZip}
use Rattle.lrpar_grammar.specs.Sentence.{IsSentence}
use Rattle.lrpar_table_stacks.specs.Chain.{most_productions}
use Rattle.lrpar_table_conditions.specs.Complete.{IsComplete}
use Rattle.lrpar_parse_run.specs.CompleteAnswer.{TakesSentence}
use Rattle.lrpar_parse_repair.specs.Recovery.{Point}
use Rattle.lrpar_parse_run.specs.RepairRun.{IsRepairFailure, RepairRun, RepairStop}
use Rattle.lrpar_parse_run.specs.RunAnswer.{IsOneWay}
use Rattle.lrpar_parse_repair.specs.Sequences.{PlainStep}
use Rattle.lrpar_parse_run.specs.Subject.{Subject}
use Rattle.lrpar_parse_errors.specs.declared.errors.LexParseError.{LexParseError}
use Rattle.lrpar_parse_errors.specs.declared.errors.LexParseError.TheVariants.{LexError, ParseError}

-- A whole run by a checked table, from the start state at the first lexeme: its error points, with what is listed there; the lexemes
-- that it consumes, if it accepts; and its reductions.
pub record RunWithRepairs {X : Type 0} (about : Subject X) (lexemes : List X) : Type 0 where
  pub stops : List RepairStop
  pub consumed : Option (List X)
  pub prods : List ℕ
  pub run : RepairRun about.facts about.allows about.shifts about.checked.grammar about.checked.table lexemes (about.checked.table.start ∷ []) 0 stops consumed prods

-- the error is the parse error of the error point
abbrev pub IsRepairErrorOf : {S L B C : Type 0} → Subject B → List B → RepairStop → LexParseError S L B C → Type 0
IsRepairErrorOf about lexemes stop (LexError error) = ⊥
IsRepairErrorOf about lexemes stop (ParseError failure) = IsRepairFailure about.facts about.checked.grammar lexemes stop failure

-- the recoverer supplies no sequence, at any error point
abbrev pub SuppliesNone : {X : Type 0} → (Point X → List (List PlainStep) → Type 0) → Type 0
SuppliesNone {X} allows = (point : Point X) (answer : List (List PlainStep)) → allows point answer → answer ≡ []

-- The answer is that of a whole run. `errors_of` gives the errors of an answer, and `IsValued` says which value it must have for what
-- the run consumed and for its reductions.
pub record IsRepairAnswer {T S L B C : Type 0} (about : Subject B) (errors_of : T → List (LexParseError S L B C)) (IsValued : Option (List B) → List ℕ → T → Type 0) (lexemes : List B) (answer : T) : Type 0 where
  pub whole_run : RunWithRepairs about lexemes
  -- errors: one for each error point, in order; if no sequence is supplied, there is at most one error, and the run ends with it
  pub errors : AllZip (IsRepairErrorOf about lexemes) whole_run.stops (errors_of answer)
  pub one_way : SuppliesNone about.allows → IsOneWay whole_run.consumed (errors_of answer)
  -- with no error the lexemes are a sentence
  pub sentence : errors_of answer ≡ [] → IsSentence (λ x. (about.facts x).token) about.checked.grammar lexemes
  -- value: that of the run
  pub value : IsValued whole_run.consumed whole_run.prods answer
  -- bound: the reductions of a run that accepts are bounded
  pub bound : MatchOption whole_run.consumed (Unit {0}) (λ xs. length whole_run.prods ≤ most_productions about.checked.cap (length xs) (length whole_run.stops))
  -- if the table is complete, a sentence has no error, and has one tree only
  pub complete : IsComplete about.checked.grammar about.checked.graph about.checked.table
      → TakesSentence (λ x. (about.facts x).token) about.checked lexemes whole_run.stops whole_run.consumed whole_run.prods (errors_of answer)
