-- A node as it is stored.
use Rattle.std.specs.Prelude.{◌≡◌, ℕ, suc, zero, false, true}
use Rattle.lrpar_grammar_places.specs.Facts.{LexemeFacts}
use Rattle.lrpar_grammar_places.specs.Span.{Extent}
use Rattle.lrpar_parse_flat_trees.specs.Flat.{FlatBranch, FlatLeaf, FlatNode}

-- the node of a token or production with this number: of kind 0 a lexeme, of kind 1 a faulty one, and otherwise a production, of which the
-- kind is one more than the number of nodes
abbrev pub plain_node : ℕ → ℕ → Extent → FlatNode
plain_node number zero span = FlatLeaf (record { token = number; span = span; faulty = false })
plain_node number (suc zero) span = FlatLeaf (record { token = number; span = span; faulty = true })
plain_node number (suc (suc n)) span = FlatBranch number (suc n) span

-- the node is that of the lexeme
abbrev pub IsFlatLeaf : LexemeFacts → FlatNode → Type 0
IsFlatLeaf x node = node ≡ FlatLeaf x

-- the node is that of the production, with this many nodes and this span
abbrev pub IsFlatBranch : ℕ → ℕ → Extent → FlatNode → Type 0
IsFlatBranch p n span node = node ≡ FlatBranch p n span
