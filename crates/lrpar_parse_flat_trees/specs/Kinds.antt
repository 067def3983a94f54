-- What a node is of. `index` gives the number of a value of the storage type.
use Rattle.std.specs.Prelude.{◌≡◌, ℕ}
use Rattle.lrpar_grammar_places.specs.Facts.{LexemeFacts}
use Rattle.lrpar_grammar.specs.Tree.{Tree, Leaf, Branch}
use Rattle.lrpar_parse_flat_trees.specs.Flat.{FlatBranch, FlatLeaf, FlatNode}
use Rattle.lrpar_parse_flat_trees.specs.declared.kind.SyntaxKind.{SyntaxKind}
use Rattle.lrpar_parse_flat_trees.specs.declared.kind.SyntaxKind.TheVariants.{Production, Token}

-- a lexeme is of its token, and another node of its production
abbrev pub IsKindOf : {S : Type 0} → (S → ℕ) → Tree LexemeFacts → SyntaxKind S → Type 0
IsKindOf index (Leaf x) (Token token) = index token.0 ≡ x.token
IsKindOf index (Leaf x) (Production prod) = ⊥
IsKindOf index (Branch p children) (Token token) = ⊥
IsKindOf index (Branch p children) (Production prod) = index prod.0 ≡ p

-- a node of the list is of the token of its lexeme, or of its production
abbrev pub IsNodeKind : {S : Type 0} → (S → ℕ) → FlatNode → SyntaxKind S → Type 0
IsNodeKind index (FlatLeaf x) (Token token) = index token.0 ≡ x.token
IsNodeKind index (FlatLeaf x) (Production prod) = ⊥
IsNodeKind index (FlatBranch p n span) (Token token) = ⊥
IsNodeKind index (FlatBranch p n span) (Production prod) = index prod.0 ≡ p
