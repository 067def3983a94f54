-- The text of a tree: a line for each node, before those of its children.
use Rattle.std.specs.Prelude.{◌+◌, ℕ, List, [], ◌∷◌, ◌++◌, Option, Result, slice_range}
use Rattle.std.specs.Option.{option_map_or}
use Rattle.lrpar_grammar.specs.Grammar.{Grammar, rule_name, rule_of, token_name}
use Rattle.lrpar_grammar.specs.Tree.{Tree, Forest, Leaf, Branch, Nil, Cons}
use Rattle.lrpar_grammar_places.specs.Facts.{LexemeFacts}
use Rattle.lrpar_parse_trees.specs.TreeText.{line_at}
use Rattle.lrpar_parse_trees.specs.Written.{WritesAll}

module _ (g : Grammar) (input : List ℕ) where
  -- what a node's line says: of a lexeme its token's name and its part of the input, of a production its rule's name
  abbrev pub node_text : Tree LexemeFacts → List ℕ
  node_text (Leaf x) = option_map_or (λ name. name) (token_name g x.token) [] ++ 32 ∷ slice_range input x.span.start x.span.end
  node_text (Branch p children) = rule_name g (rule_of g p)

  -- the lines of a tree whose root is at a level, and of trees side by side
  abbrev mutual
    pub flat_text : ℕ → Tree LexemeFacts → List ℕ
    flat_text level (Leaf x) = line_at level (node_text (Leaf x))
    flat_text level (Branch p children) = line_at level (node_text (Branch p children)) ++ flat_texts (level + 1) children

    pub flat_texts : ℕ → Forest LexemeFacts → List ℕ
    flat_texts level Nil = []
    flat_texts level (Cons t ts) = flat_text level t ++ flat_texts level ts

  module _ {W : Type 0} (contents : W → Option (List ℕ)) where
    -- if the call succeeded, the text of the tree was written
    abbrev pub WritesFlat : {T E : Type 0} → Tree LexemeFacts → W → W → Result T E → Type 0
    WritesFlat tree old new result = WritesAll (flat_text 0 tree) contents old new result

    -- if the call succeeded, the line of the node was written, at this level
    abbrev pub WritesLine : {T E : Type 0} → ℕ → Tree LexemeFacts → W → W → Result T E → Type 0
    WritesLine level tree old new result = WritesAll (line_at level (node_text tree)) contents old new result
