-- Trees are told apart by their nodes.
use Rattle.std.proofs.Common.{◌≡◌, ◌⊎◌, ℕ, Bool, List, inl, inr, refl}
use Rattle.std.specs.Coded.{Coded, code_by, coded×, coded⊎, coded_bool, coded_list, coded_ℕ}
use Rattle.lrpar_grammar_places.specs.Facts.{LexemeFacts}
use Rattle.lrpar_grammar_places.specs.Span.{Extent, nowhere}
use Rattle.lrpar_grammar.specs.Tree.{Tree}
use Rattle.lrpar_parse_flat_trees.specs.Flat.{FlatBranch, FlatLeaf, FlatNode, flat, tree_of}
use Rattle.lrpar_parse_flat_trees.specs.FlatLaws.{tree_back}

-- a part of a text is stored as the pair of its ends
abbrev pub extent_code : Coded Extent
extent_code = code_by (ℕ × ℕ) (coded× coded_ℕ coded_ℕ) (λ e. (e.start, e.end)) (λ p. record { start = p.0; end = p.1 }) (λ _. refl)

-- a lexeme is stored as its parts
abbrev pub lexeme_code : Coded LexemeFacts
lexeme_code =
    code_by (ℕ × (Extent × Bool)) (coded× coded_ℕ (coded× extent_code coded_bool)) (λ x. (x.token, (x.span, x.faulty))) (λ p. record { token = p.0; span = p.1.0; faulty = p.1.1 }) (λ _. refl)

-- a node is stored as its parts
abbrev parts_of : FlatNode → LexemeFacts ⊎ (ℕ × (ℕ × Extent))
parts_of (FlatLeaf x) = inl x
parts_of (FlatBranch p n span) = inr (p, (n, span))

abbrev of_parts : LexemeFacts ⊎ (ℕ × (ℕ × Extent)) → FlatNode
of_parts (inl x) = FlatLeaf x
of_parts (inr parts) = FlatBranch parts.0 parts.1.0 parts.1.1

pub same_parts : (n : FlatNode) → of_parts (parts_of n) ≡ n
same_parts (FlatLeaf x) = refl
same_parts (FlatBranch p n span) = refl

abbrev pub node_code : Coded FlatNode
node_code = code_by (LexemeFacts ⊎ (ℕ × (ℕ × Extent))) (coded⊎ lexeme_code (coded× coded_ℕ (coded× coded_ℕ extent_code))) parts_of of_parts same_parts

-- a tree is stored as its nodes
abbrev pub tree_code : Coded (Tree LexemeFacts)
tree_code = code_by (List FlatNode) (coded_list node_code) (λ t. flat nowhere t) (λ ns. tree_of ns) (λ t. tree_back t)
