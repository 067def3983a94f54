-- Trees as they are stored, over a grammar and an input: whether they fit, and their texts. `index` gives the number of a value of the storage
-- type, and `parts` the parts of a lexeme.
use Rattle.std.specs.Prelude.{ℕ, List, Option, Result, String, length, string_bytes}
use Rattle.std.specs.List.{AllByRecursion}
use Rattle.std.specs.declared.vec.Vec.{Vec}
use Rattle.lrpar_grammar_places.specs.Strings.{HasText}
use Rattle.lrpar_grammar.specs.Grammar.{Grammar}
use Rattle.lrpar_parse_lexemes.specs.Lexemes.{LexemeParts, facts_of}
use Rattle.lrpar_parse_lexemes.specs.Strings.{Pushes}
use Rattle.lrpar_parse_trees.specs.Fronts.{front_text, trees_text}
use Rattle.lrpar_parse_trees.specs.Graph.{graph_text}
use Rattle.lrpar_parse_trees.specs.Lines.{node_line, trees_lines}
use Rattle.lrpar_parse_trees.specs.Nested.{nested_text}
use Rattle.lrpar_parse_trees.specs.TreeText.{MetFits, TreeFits, all_met, met_line, root_at, tree_text}
use Rattle.lrpar_parse_trees.specs.Written.{WritesAll}
use Rattle.lrpar_parse_trees.specs.declared.form.Form.{Form}
use Rattle.lrpar_parse_trees.specs.declared.node.Node.{Node}

module _ {S X : Type 0} (index : S → ℕ) (parts : X → LexemeParts S) (g : Grammar) (input : List ℕ) where
  -- all nodes of the tree fit
  abbrev pub FitsIn : Node X S → Type 0
  FitsIn tree = TreeFits (λ x. facts_of index (parts x)) index g input tree

  -- all nodes of the trees fit
  abbrev pub FitIn : List (Node X S) → Type 0
  FitIn trees = AllByRecursion (MetFits (λ x. facts_of index (parts x)) index g input) (all_met 1 trees)

  -- the root of the tree fits, at any level
  abbrev pub RootFits : ℕ → Node X S → Type 0
  RootFits level tree = MetFits (λ x. facts_of index (parts x)) index g input (root_at level tree)

  -- the root of the tree fits, a level deeper than trees for each of which a list has an entry
  abbrev pub RootFitsUnder : {A Z : Type 0} → Vec A Z → Node X S → Type 0
  RootFitsUnder above tree = RootFits (length above.items) tree

  -- the root of the tree fits at the level that the spaces of a line give
  abbrev pub RootFitsAfter : {A : Type 0} → String A → Node X S → Type 0
  RootFitsAfter line tree = RootFits (length (string_bytes line)) tree

  -- this is the text of the tree
  abbrev pub IsTextOf : {A : Type 0} → Node X S → String A → Type 0
  IsTextOf tree = HasText (tree_text (λ x. facts_of index (parts x)) index g input tree)

  -- if the call succeeded, the line of the root of the tree was added, at a level
  abbrev pub PushesRoot : {A T E : Type 0} → ℕ → Node X S → String A → String A → Result T E → Type 0
  PushesRoot level tree old new result = Pushes (met_line (λ x. facts_of index (parts x)) index g input (root_at level tree)) old new result

  module _ {W : Type 0} (contents : W → Option (List ℕ)) where
    -- if the call succeeded, the text of the tree was written
    abbrev pub WritesTree : {T E : Type 0} → Node X S → W → W → Result T E → Type 0
    WritesTree tree old new result = WritesAll (tree_text (λ x. facts_of index (parts x)) index g input tree) contents old new result

    -- if the call succeeded, the line of the root of the tree was written, at this level
    abbrev pub WritesAt : {T E : Type 0} → ℕ → Node X S → W → W → Result T E → Type 0
    WritesAt level tree old new result = WritesAll (met_line (λ x. facts_of index (parts x)) index g input (root_at level tree)) contents old new result

    -- if the call succeeded, the line of the root of the tree was written, a level deeper than trees for each of which a list has an entry
    abbrev pub WritesUnder : {A Z T E : Type 0} → Vec A Z → Node X S → W → W → Result T E → Type 0
    WritesUnder above tree old new result = WritesAt (length above.items) tree old new result

    -- if the call succeeded, the line of the root of the tree was written, at the level that the spaces of a line give
    abbrev pub WritesRoot : {A T E : Type 0} → String A → Node X S → W → W → Result T E → Type 0
    WritesRoot line tree old new result = WritesAt (length (string_bytes line)) tree old new result

    -- if the call succeeded, the tree was written as a graph
    abbrev pub WritesGraph : {T E : Type 0} → Node X S → W → W → Result T E → Type 0
    WritesGraph tree old new result = WritesAll (graph_text (λ x. facts_of index (parts x)) index g input tree) contents old new result

    -- if the call succeeded, the lines of the trees below the root of a graph were written
    abbrev pub WritesBelow : {T E : Type 0} → List (Node X S) → W → W → Result T E → Type 0
    WritesBelow trees old new result = WritesAll (trees_lines (λ x. facts_of index (parts x)) index g input 0 1 trees) contents old new result

    -- if the call succeeded, the line of the root of the tree in a graph was written, with this number
    abbrev pub WritesNode : {T E : Type 0} → ℕ → Node X S → W → W → Result T E → Type 0
    WritesNode number tree old new result = WritesAll (node_line (λ x. facts_of index (parts x)) index g input number tree) contents old new result

    -- if the call succeeded, the tree was written on one line
    abbrev pub WritesNested : {T E : Type 0} → Form → Node X S → W → W → Result T E → Type 0
    WritesNested form tree old new result = WritesAll (nested_text form (λ x. facts_of index (parts x)) index g input tree) contents old new result

    -- if the call succeeded, what follows the front of a rule over these trees was written
    abbrev pub WritesTrees : {T E : Type 0} → Form → List (Node X S) → W → W → Result T E → Type 0
    WritesTrees form trees old new result = WritesAll (trees_text form (λ x. facts_of index (parts x)) index g input trees) contents old new result

    -- if the call succeeded, the front of the tree was written
    abbrev pub WritesFront : {T E : Type 0} → Form → Node X S → W → W → Result T E → Type 0
    WritesFront form tree old new result = WritesAll (front_text form (λ x. facts_of index (parts x)) index g input tree) contents old new result
