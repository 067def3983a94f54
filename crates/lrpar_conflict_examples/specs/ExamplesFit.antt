-- Counterexamples fit a grammar: what they name is of it, and their derivations are those of trees.
use Rattle.std.specs.Prelude.{◌≡◌, ◌<◌, ℕ, List, ◌++◌}
use Rattle.std.specs.List.{AllByRecursion}
use Rattle.std.specs.declared.vec.Vec.{Vec}
use Rattle.lrpar_grammar.specs.Grammar.{Grammar, tokens_len}
use Rattle.lrpar_grammar.specs.Tree.{Tree, leaves}
use Rattle.lrpar_grammar_places.specs.declared.span.TIdx.{TIdx}
use Rattle.lrpar_table_sentences.specs.Moves.{MoveOf, moves_in}
use Rattle.lrpar_table_sentences.specs.declared.moves.Move.{Move}
use Rattle.lrpar_conflict_derivations.specs.Example.{ExampleOf}
use Rattle.lrpar_conflict_derivations.specs.Texts.{token_numbers}
use Rattle.lrpar_conflict_examples.specs.Conflicts.{ConflictExampleOf}
use Rattle.lrpar_conflict_examples.specs.Fits.{AreMovesOf, IsMoveOf}
use Rattle.lrpar_conflict_examples.specs.declared.merged.MergedConflicts.{MergedConflicts}
use Rattle.lrpar_conflict_examples.specs.declared.unresolved.ConflictsLeft.{ConflictsLeft}

-- the moves are those of a tree, whose text begins with `before`
pub record DerivesFrom (g : Grammar) (before : List ℕ) (moves : List MoveOf) : Type 0 where
  pub tree : Tree ℕ
  pub of_tree : AreMovesOf g moves tree
  pub rest : List ℕ
  pub text : leaves tree ≡ before ++ rest

-- the conflict's token and moves are of the grammar, and both derivations are those of trees, whose texts begin with the access string
pub record ExampleFits (g : Grammar) (x : ConflictExampleOf) : Type 0 where
  pub token : x.conflict.token < tokens_len g
  pub first_move : IsMoveOf g x.conflict.first
  pub second_move : IsMoveOf g x.conflict.second
  pub first : DerivesFrom g x.example.before x.example.first
  pub second : DerivesFrom g x.example.before x.example.second

-- each counterexample fits the grammar
abbrev pub ExamplesFit : Grammar → List ConflictExampleOf → Type 0
ExamplesFit g examples = AllByRecursion (ExampleFits g) examples

-- each counterexample in the vector fits the grammar
abbrev pub AllFit : {A : Type 0} → Grammar → Vec ConflictExampleOf A → Type 0
AllFit g = λ examples. ExamplesFit g examples.items

-- the counterexamples of the conflicts that precedences leave fit the grammar
abbrev pub LeftFit : {S : Type 0} → Grammar → ConflictsLeft S → Type 0
LeftFit g = λ left. ExamplesFit g left.examples.items

-- the counterexamples of the conflicts of merged item sets fit the grammar
abbrev pub MergedFit : {S : Type 0} → Grammar → MergedConflicts S → Type 0
MergedFit g = λ found. ExamplesFit g found.examples.items

-- the moves as they are stored are those of a tree, whose text begins with the tokens
abbrev pub DeriveFrom : {S : Type 0} → (S → ℕ) → Grammar → List (TIdx S) → List (Move S) → Type 0
DeriveFrom index g before moves = DerivesFrom g (token_numbers index before) (moves_in index moves)

-- the moves of the second derivation are those of a tree, whose text begins with the access string
abbrev pub SecondFits : Grammar → ExampleOf → Type 0
SecondFits g x = DerivesFrom g x.before x.second
