-- A run with repairs over a complete table: a sentence has no error, and has one tree only.
use Rattle.std.specs.Prelude.{◌≡◌, ◌<◌, ◌≤◌, ◌+◌, ◌↔◌, ◌∷◌, ℕ, List, [], length, take, Option, Some}
use Rattle.lrpar_grammar.specs.Grammar.{Grammar, Nonterminal}
use Rattle.lrpar_grammar.specs.Sentence.{IsSentence}
use Rattle.lrpar_grammar.specs.Tree.{Tree, Fits, leaves, productions}
use Rattle.lrpar_table_stacks.specs.Chain.{most_productions}
use Rattle.lrpar_table_check.specs.Checked.{Checked}
use Rattle.lrpar_table_check.specs.CompleteRuns.{BeginsNoSentence}
use Rattle.lrpar_parse_run.specs.RepairRun.{RepairStop}

-- the tree fits the start rule, and these lexemes are its leaves
pub record IsTreeOver {X : Type 0} (token : X → ℕ) (g : Grammar) (lexemes : List X) (tree : Tree X) : Type 0 where
  pub fits : Fits token g tree (Nonterminal g.start)
  pub leaves_are : leaves tree ≡ lexemes

-- What holds over a complete table for a run over the lexemes with these error points, which consumes these lexemes, makes these
-- reductions and has these errors.
pub record TakesSentence {X F : Type 0} (token : X → ℕ) (d : Checked) (lexemes : List X) (stops : List RepairStop) (consumed : Option (List X)) (prods : List ℕ) (errors : List F) : Type 0 where
  -- there is no error if and only if the lexemes are a sentence; then they are consumed as they are
  pub exact : (errors ≡ []) ↔ IsSentence token d.grammar lexemes
  pub whole : errors ≡ [] → consumed ≡ Some lexemes
  -- any two trees over the lexemes are equal, the run's reductions are their productions, and there is a bound for the number of these
  pub one : (tree other : Tree X) → IsTreeOver token d.grammar lexemes tree → IsTreeOver token d.grammar lexemes other → tree ≡ other
  pub only : (tree : Tree X) → IsTreeOver token d.grammar lexemes tree → productions tree ≡ prods
  pub bound : (tree : Tree X) → IsTreeOver token d.grammar lexemes tree → length (productions tree) ≤ most_productions d.cap (length lexemes) 0
  -- no sentence begins with the lexemes up to and including the one at the first error point
  pub prefix : (first : RepairStop) (later : List RepairStop) → stops ≡ first ∷ later → first.stop.place < length lexemes
      → BeginsNoSentence token d.grammar (take (first.stop.place + 1) lexemes)
