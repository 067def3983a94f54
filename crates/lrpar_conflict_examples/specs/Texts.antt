-- The texts of counterexamples.
use Rattle.std.specs.Prelude.{◌≡◌, ℕ, List, [], ◌∷◌, ◌++◌, String, codes, string_bytes, if◌then◌else◌}
use Rattle.std.specs.Fmt.{decimal}
use Rattle.lrpar_grammar.specs.Grammar.{Grammar}
use Rattle.lrpar_grammar.specs.Tree.{Tree, leaves}
use Rattle.lrpar_grammar_places.specs.declared.span.TIdx.{TIdx}
use Rattle.lrpar_table_sentences.specs.Moves.{MoveOf, move_of, moves_in}
use Rattle.lrpar_table_sentences.specs.declared.moves.Move.{Move}
use Rattle.lrpar_conflict_derivations.specs.Example.{ExampleOf}
use Rattle.lrpar_conflict_derivations.specs.Texts.{token_numbers}
use Rattle.lrpar_conflict_examples.specs.Conflicts.{ConflictExampleOf}
use Rattle.lrpar_conflict_examples.specs.Fits.{AreMovesOf}
use Rattle.lrpar_grammar_places.specs.Strings.{Appends}
use Rattle.lrpar_conflict_examples.specs.Words.{derivation_text, shown_name, text_line, tree_text}

-- the words that the derivations have two texts, with the bound of the search for one
abbrev pub bound_text : ℕ → List ℕ
bound_text bound = codes "two texts; one for both not found within " ++ decimal bound

-- the words that the derivations have two texts, with this bound, were appended
abbrev pub AddsBound : {A : Type 0} → ℕ → String A → String A → Type 0
AddsBound bound old new = Appends old new (bound_text bound)

-- the words for how many texts the derivations have
abbrev pub count_text : ExampleOf → List ℕ
count_text x = if x.ambiguous then codes "one text, two derivations" else bound_text x.bound

-- the words for how many texts the derivations have were appended
abbrev pub AddsCount : {A : Type 0} → ExampleOf → String A → String A → Type 0
AddsCount x old new = Appends old new (count_text x)

-- the first line of a counterexample: its token, its state, and how many texts the derivations have
abbrev pub title_text : Grammar → ConflictExampleOf → List ℕ
title_text g x = codes "'" ++ shown_name g x.conflict.token ++ codes "' in state " ++ decimal x.conflict.state ++ codes ": " ++ count_text x.example ++ 10 ∷ []

-- the line of the second derivation's text, if it isn't that of the first one
abbrev pub other_line : Grammar → ExampleOf → List ℕ → List ℕ
other_line g x text = if x.ambiguous then [] else text_line g x.before text

-- the lines of the texts of trees
abbrev pub tree_line : Grammar → List ℕ → Tree ℕ → List ℕ
tree_line g before tree = text_line g before (leaves tree)

abbrev pub other_tree_line : Grammar → ExampleOf → Tree ℕ → List ℕ
other_tree_line g x tree = other_line g x (leaves tree)

-- a counterexample whose derivations are those of these trees
abbrev pub example_text : Grammar → ConflictExampleOf → Tree ℕ → Tree ℕ → List ℕ
example_text g x first second =
    title_text g x ++ tree_line g x.example.before first ++ derivation_text g x.conflict.first first
    ++ other_tree_line g x.example second ++ derivation_text g x.conflict.second second ++ 10 ∷ []

-- the text of a counterexample: that of the trees whose moves its derivations are
pub record IsExampleText (g : Grammar) (x : ConflictExampleOf) (text : List ℕ) : Type 0 where
  pub first : Tree ℕ
  pub of_first : AreMovesOf g x.example.first first
  pub second : Tree ℕ
  pub of_second : AreMovesOf g x.example.second second
  pub is : text ≡ example_text g x first second

-- the text of a counterexample was added at the end
abbrev pub AppendsExample : {A : Type 0} → Grammar → ConflictExampleOf → String A → String A → Type 0
AppendsExample g x old new = (text : List ℕ) × IsExampleText g x text × Appends old new text

-- the text of the tree that has these moves was added at the end
abbrev pub AppendsOfTree : {A : Type 0} → Grammar → List MoveOf → (Tree ℕ → List ℕ) → String A → String A → Type 0
AppendsOfTree g moves text old new = (tree : Tree ℕ) → AreMovesOf g moves tree → Appends old new (text tree)

-- the text of the tree that has the code's moves was added
abbrev pub AddsTree : {S A : Type 0} → (S → ℕ) → Grammar → List (Move S) → String A → String A → Type 0
AddsTree index g moves old new = AppendsOfTree g (moves_in index moves) (tree_text g) old new

-- the line of the text of the tree that has these moves was added
abbrev pub AddsText : {S A : Type 0} → (S → ℕ) → Grammar → List (TIdx S) → List (Move S) → String A → String A → Type 0
AddsText index g before moves old new = AppendsOfTree g (moves_in index moves) (tree_line g (token_numbers index before)) old new

-- the line of the second derivation's text
abbrev pub AddsOtherText : {A : Type 0} → Grammar → ExampleOf → String A → String A → Type 0
AddsOtherText g x old new = AppendsOfTree g x.second (other_tree_line g x) old new

-- the lines of a derivation that goes on with this move
abbrev pub AddsDerivation : {S A : Type 0} → (S → ℕ) → Grammar → Move S → List (Move S) → String A → String A → Type 0
AddsDerivation index g next moves old new = AppendsOfTree g (moves_in index moves) (derivation_text g (move_of index next)) old new

-- the texts of counterexamples, one after the other
abbrev pub AreExampleTexts : Grammar → List ConflictExampleOf → List ℕ → Type 0
AreExampleTexts g [] text = text ≡ []
AreExampleTexts g (x ∷ xs) text = (own : List ℕ) × (others : List ℕ) × IsExampleText g x own × AreExampleTexts g xs others × (text ≡ own ++ others)

-- the string has the texts of the counterexamples, one after the other
abbrev pub ShowsExamples : {A : Type 0} → Grammar → List ConflictExampleOf → String A → Type 0
ShowsExamples g examples = λ text. AreExampleTexts g examples (string_bytes text)
