-- Trees as graphs for Graphviz: a line for each node, and one for the edge from the node above it.
use Rattle.std.specs.Prelude.{◌+◌, ◌∷◌, ◌++◌, if◌then◌else◌, ℕ, Bool, true, false, List, [], bytes_eq, codes, slice_range, sum_by}
use Rattle.std.specs.Fmt.{decimal}
use Rattle.std.specs.Option.{option_map_or}
use Rattle.lrpar_grammar.specs.Grammar.{Grammar, rule_name, token_name}
use Rattle.lrpar_grammar.specs.Sentence.{LexemeFacts}
use Rattle.lrpar_parse_trees.specs.declared.node.Node.{Node}
use Rattle.lrpar_parse_trees.specs.declared.node.Node.TheOpen.{Node-F}
use Rattle.lrpar_parse_trees.specs.declared.node.Node.TheFolds.{fold-Node}
use Rattle.lrpar_parse_trees.specs.Labels.{label_text}

-- the line of a rule's node: its number, and the rule's name
abbrev pub rule_line : ℕ → List ℕ → List ℕ
rule_line number name = codes "  n" ++ decimal number ++ codes " [label=\"" ++ label_text name ++ codes "\"];\n"

-- what comes before the label of a node
abbrev pub label_front : ℕ → List ℕ
label_front number = codes "  n" ++ decimal number ++ codes " [label=\""

-- the name of a token on a line of its own, if it isn't the text
abbrev pub name_label : List ℕ → List ℕ → List ℕ
name_label name text = if bytes_eq name text then [] else label_text name ++ codes "\\n"

-- the label of a lexeme: its token's name, if that isn't its text, on a line of its own, and its text; of one that a repair made, the
-- name
abbrev pub leaf_label : List ℕ → List ℕ → Bool → List ℕ
leaf_label name text false = name_label name text ++ label_text text
leaf_label name text true = label_text name

-- how a lexeme is drawn: in a box, with a dashed line if a repair made it
abbrev pub leaf_shape : Bool → List ℕ
leaf_shape false = codes "\", shape=box];\n"
leaf_shape true = codes "\", shape=box, style=dashed];\n"

-- the line of a lexeme
abbrev pub leaf_line : ℕ → List ℕ → List ℕ → Bool → List ℕ
leaf_line number name text faulty = codes "  n" ++ decimal number ++ codes " [label=\"" ++ leaf_label name text faulty ++ leaf_shape faulty

-- the line of a lexeme of the grammar over the input
abbrev pub lexeme_line : Grammar → List ℕ → ℕ → LexemeFacts → List ℕ
lexeme_line g input number x =
    leaf_line number (option_map_or (λ name. name) (token_name g x.token) []) (slice_range input x.span.start x.span.end) x.faulty

-- the line of an edge, from the number of a node to that of a node below it
abbrev pub edge_line : ℕ → ℕ → List ℕ
edge_line parent child = codes "  n" ++ decimal parent ++ codes " -> n" ++ decimal child ++ codes ";\n"

-- a tree that is drawn: how many nodes it has, and its lines, given the number of its root and the line of the edge to the root
pub record Drawn : Type 0 where
  pub nodes : ℕ
  pub lines : ℕ → List ℕ → List ℕ

-- the lines of the trees below a node: the first root has the number `next`, and each later root the first number after the tree
-- before it
abbrev pub lines_below : ℕ → ℕ → List Drawn → List ℕ
lines_below parent next [] = []
lines_below parent next (tree ∷ trees) = tree.lines next (edge_line parent next) ++ lines_below parent (next + tree.nodes) trees

-- a node over its trees; their numbers come after its own
abbrev pub drawn_step : {X S : Type 0} → (X → LexemeFacts) → (S → ℕ) → Grammar → List ℕ → Node-F X S Drawn → Drawn
drawn_step facts index g input (Node-F.Term x) = record {
  nodes = 1;
  lines = λ number edge. lexeme_line g input number (facts x) ++ edge;
}
drawn_step facts index g input (Node-F.Nonterm ridx trees) = record {
  nodes = 1 + sum_by (λ tree. tree.nodes) trees.items;
  lines = λ number edge. rule_line number (rule_name g (index ridx.0)) ++ edge ++ lines_below number (number + 1) trees.items;
}

abbrev pub drawn : {X S : Type 0} → (X → LexemeFacts) → (S → ℕ) → Grammar → List ℕ → Node X S → Drawn
drawn {X = X} {S = S} facts index g input = fold-Node X S Drawn (drawn_step facts index g input)

-- the text of a tree as a graph: its root has the number 0, and no edge
abbrev pub graph_text : {X S : Type 0} → (X → LexemeFacts) → (S → ℕ) → Grammar → List ℕ → Node X S → List ℕ
graph_text facts index g input tree = codes "digraph tree {\n" ++ (drawn facts index g input tree).lines 0 [] ++ codes "}\n"
