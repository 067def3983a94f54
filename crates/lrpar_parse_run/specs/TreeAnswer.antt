-- The answer of a run with repairs whose value is an entry that represents a tree.
use Rattle.std.specs.Prelude.{List, Option, Vec}
use Rattle.lrpar_parse_errors.specs.declared.errors.LexParseError.{LexParseError}
use Rattle.lrpar_parse_run.specs.Building.{Building}
use Rattle.lrpar_parse_run.specs.End.{IsOfTree}
use Rattle.lrpar_parse_run.specs.RepairAnswer.{IsRepairAnswer}
use Rattle.lrpar_parse_run.specs.RunAnswer.{HasValue}
use Rattle.lrpar_parse_run.specs.Subject.{Subject}

-- errors, and, if the run accepts, an entry that represents a tree over what was consumed
abbrev pub IsTreeAnswer : {S L X C E Z : Type 0} → Subject X → Building X E → List X → Option E × Vec (LexParseError S L X C) Z → Type 0
IsTreeAnswer about builds lexemes answer =
    IsRepairAnswer about (λ a. a.1.items) (HasValue (λ x. (about.facts x).token) about.checked.grammar (IsOfTree builds about.checked)) lexemes answer
