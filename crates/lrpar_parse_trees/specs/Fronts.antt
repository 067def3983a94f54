-- The text of a node on one line, in two parts: its front, and its trees with its end.
use Rattle.std.specs.Prelude.{ℕ, Bool, true, false, List, ◌++◌, map}
use Rattle.lrpar_grammar.specs.Grammar.{Grammar, rule_name}
use Rattle.lrpar_grammar.specs.Sentence.{LexemeFacts}
use Rattle.lrpar_parse_trees.specs.declared.node.Node.{Node}
use Rattle.lrpar_parse_trees.specs.declared.node.Node.TheOpen.{Node-F}
use Rattle.lrpar_parse_trees.specs.declared.node.Node.TheViews.{out-Node}
use Rattle.lrpar_parse_trees.specs.Nested.{end_of, joined, lexeme_text, nested_text, rule_front}
use Rattle.lrpar_parse_trees.specs.declared.form.Form.{Form}

-- whether a node is a rule's: of its outermost layer, and of the node
abbrev pub layer_is_rule : {X S : Type 0} → Node-F X S (Node X S) → Bool
layer_is_rule (Node-F.Term x) = false
layer_is_rule (Node-F.Nonterm ridx nodes) = true

abbrev pub is_rule : {X S : Type 0} → Node X S → Bool
is_rule {X = X} {S = S} node = layer_is_rule (out-Node X S node)

-- a lexeme's text, or what comes before the trees of a rule's node: of the outermost layer of a node, and of the node
abbrev pub layer_front : {X S : Type 0} → Form → (X → LexemeFacts) → (S → ℕ) → Grammar → List ℕ → Node-F X S (Node X S) → List ℕ
layer_front form facts index g input (Node-F.Term x) = lexeme_text form g input (facts x)
layer_front form facts index g input (Node-F.Nonterm ridx nodes) = rule_front form (rule_name g (index ridx.0))

abbrev pub front_text : {X S : Type 0} → Form → (X → LexemeFacts) → (S → ℕ) → Grammar → List ℕ → Node X S → List ℕ
front_text {X = X} {S = S} form facts index g input node = layer_front form facts index g input (out-Node X S node)

-- what follows the front of a rule's node: its trees, and its end
abbrev pub trees_text : {X S : Type 0} → Form → (X → LexemeFacts) → (S → ℕ) → Grammar → List ℕ → List (Node X S) → List ℕ
trees_text form facts index g input nodes = joined form true (map (nested_text form facts index g input) nodes) ++ end_of form
