-- Pairs of lists that are still to be compared.
use Rattle.std.proofs.Common.{◌≡◌, ◌+◌, arith, List, [], ◌∷◌, ◌++◌, length, ap, sym, ◌∙◌, append_assoc, append-nil}
use Rattle.lrpar_parse_trees.specs.declared.node.Node.{Node}
use Rattle.lrpar_parse_trees.specs.declared.node.equal.Pair.{Pair}

-- the same number on both sides
abbrev pub IsEven : {X S : Type 0} → Pair X S → Type 0
IsEven pair = length pair.nodes.now ≡ length pair.others.now

-- what comes after the current trees: of the pairs, the last one first
abbrev pub later_nodes : {X S : Type 0} → List (Pair X S) → List (Node X S)
later_nodes [] = []
later_nodes (pair ∷ pairs) = later_nodes pairs ++ pair.nodes.now

abbrev pub later_others : {X S : Type 0} → List (Pair X S) → List (Node X S)
later_others [] = []
later_others (pair ∷ pairs) = later_others pairs ++ pair.others.now

pub later_nodes_push : {X S : Type 0} (pairs : List (Pair X S)) (pair : Pair X S) → later_nodes (pairs ++ (pair ∷ [])) ≡ pair.nodes.now ++ later_nodes pairs
later_nodes_push [] pair = sym (append-nil pair.nodes.now)
later_nodes_push (p ∷ ps) pair = ap (λ ns. ns ++ p.nodes.now) (later_nodes_push ps pair) ∙ append_assoc pair.nodes.now (later_nodes ps) p.nodes.now

pub later_others_push : {X S : Type 0} (pairs : List (Pair X S)) (pair : Pair X S) → later_others (pairs ++ (pair ∷ [])) ≡ pair.others.now ++ later_others pairs
later_others_push [] pair = sym (append-nil pair.others.now)
later_others_push (p ∷ ps) pair = ap (λ ns. ns ++ p.others.now) (later_others_push ps pair) ∙ append_assoc pair.others.now (later_others ps) p.others.now

-- the same number is left after the first
pub rests_even : {A : Type 0} (nodes others rest others_rest : List A) → length rest + 1 ≡ length nodes → length others_rest + 1 ≡ length others
    → length nodes ≡ length others → length rest ≡ length others_rest
rests_even nodes others rest others_rest one other even = omega arith
