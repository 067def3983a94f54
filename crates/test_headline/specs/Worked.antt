-- Errors that list the supplied sequences that work.
use Rattle.std.specs.Prelude.{◌≡◌, ℕ, List, Contains, Some, drop, map}
use Rattle.std.specs.List.{AllZip}
use Rattle.lrpar_parse_errors.specs.Failure.{Failure}
use Rattle.lrpar_parse_errors.specs.declared.errors.LexParseError.{LexParseError}
use Rattle.lrpar_parse_errors.specs.declared.errors.LexParseError.TheVariants.{LexError, ParseError}
use Rattle.lrpar_table_check.specs.Checked.{Checked}
use Rattle.lrpar_grammar.specs.Sentence.{LexemeFacts}
use Rattle.lrpar_parse_lexemes.specs.Repair.{Repair}
use Rattle.lrpar_table_stacks.specs.Run.{Stop}
use Rattle.lrpar_table_stacks.specs.Stack.{top_of}
use Rattle.lrpar_parse_repair.specs.Repaired.{repairs_over}
use Rattle.lrpar_parse_repair.specs.Sequences.{PlainStep, AreThoseWith, Works}
use Rattle.lrpar_parse_run.specs.RepairAnswer.{RunWithRepairs}
use Rattle.lrpar_parse_run.specs.RepairRun.{RepairStop}
use Rattle.lrpar_parse_run.specs.RunAnswer.{IsLexemeAt}
use Rattle.lrpar_parse_run.specs.Subject.{Subject}

-- a parse by this table in which these sequences are supplied at each error, and k lexemes must follow a repair
abbrev pub supplying : {X : Type 0} → Checked → (X → LexemeFacts) → ℕ → List (List PlainStep) → Subject X
supplying d facts k supplied = record { checked = d; facts = facts; allows = λ point answer. answer ≡ supplied; shifts = k }

module _ {X : Type 0} (about : Subject X) (supplied : List (List PlainStep)) (lexemes : List X) where
  -- the sequence works at the error point
  abbrev pub WorksAt : Stop → List PlainStep → Type 0
  WorksAt stop steps = Works (λ x. (about.facts x).token) about.checked.grammar about.checked.table lexemes about.shifts stop.stack stop.place steps

  -- the repairs that an error at the error point lists for a sequence
  abbrev pub repairs_at : Stop → List PlainStep → List (Repair X)
  repairs_at stop steps = repairs_over (drop stop.place lexemes) steps

  -- The error is that of the error point. Each sequence that is supplied and works there is listed, and each that is listed was supplied
  -- and works there; they are in the order in which they were supplied, and each is listed as often as it was supplied.
  pub record ListsWhatWorksAt (stop : Stop) (failure : Failure X) : Type 0 where
    pub state : top_of stop.stack ≡ Some failure.state
    pub lexeme : IsLexemeAt about.facts about.checked.grammar lexemes stop.place failure.lexeme
    pub all : (steps : List PlainStep) → Contains supplied steps → WorksAt stop steps → Contains failure.repairs (repairs_at stop steps)
    pub only : (repairs : List (Repair X)) → Contains failure.repairs repairs
        → (steps : List PlainStep) × Contains supplied steps × WorksAt stop steps × (repairs ≡ repairs_at stop steps)
    pub order : (listed : List (List PlainStep)) × AreThoseWith (WorksAt stop) supplied listed × (failure.repairs ≡ map (repairs_at stop) listed)

  -- the error lists the supplied sequences that work at its error point, and no others; a lexing error is none
  abbrev pub ListsWhatWorks : {S L C : Type 0} → RepairStop → LexParseError S L X C → Type 0
  ListsWhatWorks at (LexError error) = ⊥
  ListsWhatWorks at (ParseError failure) = ListsWhatWorksAt at.stop failure

  -- the errors are those of the error points of a run, in order, and each lists what works at its error point
  pub record EachListsWhatWorks {S L C : Type 0} (errors : List (LexParseError S L X C)) : Type 0 where
    pub whole_run : RunWithRepairs about lexemes
    pub each : AllZip ListsWhatWorks whole_run.stops errors
