-- The lines of a graph: those of a node, and those of the trees below it.
use Rattle.std.specs.Prelude.{ℕ, List, map}
use Rattle.lrpar_grammar.specs.Grammar.{Grammar, rule_name}
use Rattle.lrpar_grammar.specs.Sentence.{LexemeFacts}
use Rattle.lrpar_parse_trees.specs.declared.node.Node.{Node}
use Rattle.lrpar_parse_trees.specs.declared.node.Node.TheOpen.{Node-F}
use Rattle.lrpar_parse_trees.specs.declared.node.Node.TheViews.{out-Node}
use Rattle.lrpar_parse_trees.specs.Graph.{drawn, lexeme_line, lines_below, rule_line}

-- the line of a node of this number
abbrev pub layer_line : {X S : Type 0} → (X → LexemeFacts) → (S → ℕ) → Grammar → List ℕ → ℕ → Node-F X S (Node X S) → List ℕ
layer_line facts index g input number (Node-F.Term x) = lexeme_line g input number (facts x)
layer_line facts index g input number (Node-F.Nonterm ridx nodes) = rule_line number (rule_name g (index ridx.0))

abbrev pub node_line : {X S : Type 0} → (X → LexemeFacts) → (S → ℕ) → Grammar → List ℕ → ℕ → Node X S → List ℕ
node_line {X = X} {S = S} facts index g input number node = layer_line facts index g input number (out-Node X S node)

-- the lines of the trees below the node of this number; the first root has the number `next`
abbrev pub trees_lines : {X S : Type 0} → (X → LexemeFacts) → (S → ℕ) → Grammar → List ℕ → ℕ → ℕ → List (Node X S) → List ℕ
trees_lines facts index g input parent next nodes = lines_below parent next (map (drawn facts index g input) nodes)
