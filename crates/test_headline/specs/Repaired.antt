-- Lexemes as first repaired.
use Rattle.std.specs.Prelude.{◌≡◌, ◌+◌, ℕ, List, [], ◌∷◌, ◌++◌, drop, None, Result}
use Rattle.std.specs.List.{AllZip}
use Rattle.lrpar_grammar.specs.Grammar.{Nonterminal}
use Rattle.lrpar_grammar.specs.Sentence.{LexemeFacts}
use Rattle.lrpar_grammar.specs.Tree.{Tree, Fits, leaves}
use Rattle.lrpar_parse_errors.specs.declared.errors.LexParseError.{LexParseError}
use Rattle.lrpar_parse_repair.specs.Repaired.{Consumes}
use Rattle.lrpar_parse_repair.specs.Replays.{places_of}
use Rattle.lrpar_parse_repair.specs.Sequences.{PlainStep}
use Rattle.lrpar_parse_run.specs.RepairAnswer.{IsRepairErrorOf}
use Rattle.lrpar_parse_run.specs.RepairRun.{RepairStop, fed_between}
use Rattle.lrpar_parse_run.specs.Subject.{Subject}
use Rattle.lrpar_parse.specs.Lexed.{first_error, lexemes_of}

-- The lexemes from place i on, as first repaired at these error points: those before the first error point, what the first sequence that
-- is listed there consumes, and then those after the lexemes that it uses up, as first repaired at the other error points.
abbrev pub AsFirstRepaired : {X : Type 0} → (X → LexemeFacts) → List X → ℕ → List RepairStop → List X → Type 0
AsFirstRepaired facts lexemes i [] xs = xs ≡ drop i lexemes
AsFirstRepaired {X} facts lexemes i (s ∷ stops) xs =
    (first : List PlainStep) × (others : List (List PlainStep)) × (s.listed ≡ first ∷ others)
    × ((recovered rest : List X) × Consumes facts lexemes s.stop.place first recovered
    × AsFirstRepaired facts lexemes (s.stop.place + places_of first) stops rest × (xs ≡ fed_between lexemes i s.stop.place ++ recovered ++ rest))

-- There is no lexing error, and the value is that of a tree of the start rule. The leaves of the tree are the lexemes as first repaired
-- at the error points of these errors.
pub record IsValueOfRepaired {S L B C V : Type 0} (about : Subject B) (Evaluates : Tree B → V → Type 0) (lexed : List (Result B C)) (errors : List (LexParseError S L B C)) (value : V) : Type 0 where
  pub no_error : first_error lexed ≡ None
  pub stops : List RepairStop
  pub errors_are : AllZip (IsRepairErrorOf about (lexemes_of lexed)) stops errors
  pub tree : Tree B
  pub fits : Fits (λ x. (about.facts x).token) about.checked.grammar tree (Nonterminal about.checked.grammar.start)
  pub leaves_are : AsFirstRepaired about.facts (lexemes_of lexed) 0 stops (leaves tree)
  pub evaluates : Evaluates tree value
