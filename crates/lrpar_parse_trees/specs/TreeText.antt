-- The text of a tree of the program: a line for each node, from the root down and from left to right.
use Rattle.std.specs.Prelude.{◌<◌, ◌+◌, ℕ, List, [], ◌∷◌, ◌++◌, replicate, slice_range}
use Rattle.std.specs.Option.{option_map_or}
use Rattle.std.specs.List.{AllByRecursion, flat_map}
use Rattle.lrpar_grammar.specs.Grammar.{Grammar, rules_len, rule_name, token_name, end_token}
use Rattle.lrpar_grammar.specs.Sentence.{LexemeFacts}
use Rattle.lrpar_grammar.specs.SpansFit.{IsPartOf}
use Rattle.lrpar_parse_trees.specs.declared.node.Node.{Node}
use Rattle.lrpar_parse_trees.specs.declared.node.Node.TheOpen.{Node-F}
use Rattle.lrpar_parse_trees.specs.declared.node.Node.TheViews.{out-Node}
use Rattle.lrpar_parse_trees.specs.declared.node.Node.TheFolds.{fold-Node}

-- a node at a level: a lexeme, or a rule
pub data Met (X S : Type 0) : Type 0 where
  LeafAt : (level : ℕ) (lexeme : X) → Met X S
  RuleAt : (level : ℕ) (rule : S) → Met X S

-- a node and those below it, which are a level deeper
abbrev pub met_step : {X S : Type 0} → Node-F X S (ℕ → List (Met X S)) → ℕ → List (Met X S)
met_step (Node-F.Term x) level = LeafAt level x ∷ []
met_step (Node-F.Nonterm ridx children) level = RuleAt level ridx.0 ∷ flat_map (λ child. child (level + 1)) children.items

-- the nodes of a tree whose root is at a level
abbrev pub met_from : {X S : Type 0} → Node X S → ℕ → List (Met X S)
met_from {X = X} {S = S} = fold-Node X S (ℕ → List (Met X S)) met_step

-- a line: a space for each level, the text, and a line feed
abbrev pub line_at : ℕ → List ℕ → List ℕ
line_at level text = replicate level 32 ++ text ++ 10 ∷ []

-- a lexeme's line: its token's name, a space and its part of the input; a rule's: its name
abbrev pub met_line : {X S : Type 0} → (X → LexemeFacts) → (S → ℕ) → Grammar → List ℕ → Met X S → List ℕ
met_line facts index g input (LeafAt level x) =
    line_at level (option_map_or (λ name. name) (token_name g (facts x).token) [] ++ 32 ∷ slice_range input (facts x).span.start (facts x).span.end)
met_line facts index g input (RuleAt level r) = line_at level (rule_name g (index r))

-- the text of a tree
abbrev pub tree_text : {X S : Type 0} → (X → LexemeFacts) → (S → ℕ) → Grammar → List ℕ → Node X S → List ℕ
tree_text facts index g input node = flat_map (met_line facts index g input) (met_from node 0)

-- A rule is the grammar's. A lexeme has a token of the grammar other than the end token, which has no name; and it starts and ends
-- between two characters of the input.
abbrev pub MetFits : {X S : Type 0} → (X → LexemeFacts) → (S → ℕ) → Grammar → List ℕ → Met X S → Type 0
MetFits facts index g input (LeafAt level x) = ((facts x).token < end_token g) × IsPartOf input (facts x).span
MetFits facts index g input (RuleAt level r) = index r < rules_len g

-- all nodes of a tree fit
abbrev pub TreeFits : {X S : Type 0} → (X → LexemeFacts) → (S → ℕ) → Grammar → List ℕ → Node X S → Type 0
TreeFits facts index g input node = AllByRecursion (MetFits facts index g input) (met_from node 0)

-- the root of a tree, at a level
abbrev pub layer_met : {X S : Type 0} → ℕ → Node-F X S (Node X S) → Met X S
layer_met level (Node-F.Term x) = LeafAt level x
layer_met level (Node-F.Nonterm ridx nodes) = RuleAt level ridx.0

abbrev pub root_at : {X S : Type 0} → ℕ → Node X S → Met X S
root_at {X = X} {S = S} level node = layer_met level (out-Node X S node)

-- the nodes of several trees whose roots are at one level
abbrev pub all_met : {X S : Type 0} → ℕ → List (Node X S) → List (Met X S)
all_met level nodes = flat_map (λ node. met_from node level) nodes
