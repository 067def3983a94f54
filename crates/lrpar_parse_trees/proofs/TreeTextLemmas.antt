-- What is met in a tree by what a loop has left.
use denote.Ref.{Bor}
use Rattle.std.proofs.Common.{◌≡◌, ℕ, suc, ◌+◌, ◌*◌, ◌<◌, List, [], ◌∷◌, ◌++◌, length, refl, ap, sym, ◌∙◌, arith, append_assoc, append-nil, length-append, subst}
use Rattle.std.specs.List.{AllByRecursion, flat_map}
use Rattle.std.proofs.lemmas.List.{length_push, nil_from_length}
use Rattle.std.proofs.lemmas.List.Folds.{flat_map-map}
use Rattle.lrpar_parse_trees.specs.declared.node.Node.{Node}
use Rattle.lrpar_parse_trees.specs.declared.node.Node.TheOpen.{Node-F}
use Rattle.lrpar_parse_trees.specs.declared.node.Node.TheViews.{out-Node}
use Rattle.lrpar_parse_trees.specs.declared.node.Node.TheFolds.{fold_out-Node, map-Node}
use Rattle.lrpar_grammar_places.proofs.ListLemmas.{all_front}
use Rattle.lrpar_parse_trees.specs.TreeText.{Met, RuleAt, met_step, met_from, layer_met, root_at, all_met}
use Rattle.lrpar_parse_trees.specs.Walks.{children, layer_children}

-- what is met in a tree: its root, and what is met in the trees below it
layer_from : {X S : Type 0} (layer : Node-F X S (Node X S)) (level : ℕ)
    → met_step (map-Node X S (Node X S) (ℕ → List (Met X S)) met_from layer) level ≡ layer_met level layer ∷ all_met (level + 1) (layer_children layer)
layer_from (Node-F.Term x) level = refl
layer_from (Node-F.Nonterm ridx nodes) level =
    ap (λ ms. RuleAt level ridx.0 ∷ ms) (flat_map-map (λ child. child (level + 1)) met_from nodes.items)

pub met_out : {X S : Type 0} (node : Node X S) (level : ℕ) → met_from node level ≡ root_at level node ∷ all_met (level + 1) (children node)
met_out {X = X} {S = S} node level =
    ap (λ (f : ℕ → List (Met X S)). f level) (fold_out-Node X S (ℕ → List (Met X S)) met_step node) ∙ layer_from (out-Node X S node) level

-- what is left after the current trees: the trees of each level, the highest level first
abbrev pub later : {X S : Type 0} → ℕ → List (Bor (List (Node X S))) → List (Met X S)
later level [] = []
later level (rest ∷ below) = later (level + 1) below ++ all_met level rest.now

later_push : {X S : Type 0} (level : ℕ) (below : List (Bor (List (Node X S)))) (rest : Bor (List (Node X S)))
    → later level (below ++ rest ∷ []) ≡ all_met (level + length below) rest.now ++ later level below
later_push level [] rest =
    let same : level ≡ level + 0 = omega arith in
    ap (λ n. all_met n rest.now) same ∙ sym (append-nil (all_met (level + 0) rest.now))
later_push level (b ∷ bs) rest =
    let same : level + 1 + length bs ≡ level + suc (length bs) = omega arith in
    ap (λ ms. ms ++ all_met level b.now) (later_push (level + 1) bs rest)
    ∙ append_assoc (all_met (level + 1 + length bs) rest.now) (later (level + 1) bs) (all_met level b.now)
    ∙ ap (λ n. all_met n rest.now ++ (later (level + 1) bs ++ all_met level b.now)) same

-- all that is left, with current trees
abbrev pub left_met : {X S : Type 0} → List (Bor (List (Node X S))) → List (Node X S) → List (Met X S)
left_met below left = all_met (length below + 1) left ++ later 1 below

-- the first of the current trees is entered, and the others are put aside
pub left_enter : {X S : Type 0} (below : List (Bor (List (Node X S)))) (rest : Bor (List (Node X S))) (node : Node X S)
    → left_met below (node ∷ rest.now) ≡ root_at (length (below ++ rest ∷ [])) node ∷ left_met (below ++ rest ∷ []) (children node)
left_enter below rest node =
    let n = length below in
    let longer : length below + 1 ≡ length (below ++ rest ∷ []) = simp length-append refl in
    let turned : 1 + length below ≡ length below + 1 = omega arith in
    append_assoc (met_from node (n + 1)) (all_met (n + 1) rest.now) (later 1 below)
    ∙ ap (λ ms. ms ++ (all_met (n + 1) rest.now ++ later 1 below)) (met_out node (n + 1))
    ∙ ap (λ m. root_at (n + 1) node ∷ (all_met (n + 1 + 1) (children node) ++ (all_met m rest.now ++ later 1 below))) (sym turned)
    ∙ ap (λ ms. root_at (n + 1) node ∷ (all_met (n + 1 + 1) (children node) ++ ms)) (sym (later_push 1 below rest))
    ∙ ap (λ m. root_at m node ∷ (all_met (m + 1) (children node) ++ later 1 (below ++ rest ∷ []))) longer

-- no current tree is left, and those that were put aside last are taken again
pub left_turn : {X S : Type 0} (below : List (Bor (List (Node X S)))) (rest : Bor (List (Node X S))) → left_met (below ++ rest ∷ []) [] ≡ left_met below rest.now
left_turn below rest =
    let turned : 1 + length below ≡ length below + 1 = omega arith in
    later_push 1 below rest ∙ ap (λ m. all_met m rest.now ++ later 1 below) turned

-- a property of all nodes of a tree: of the root, and of those below it
pub fit_root : {X S : Type 0} (P : Met X S → Type 0) (node : Node X S) (level : ℕ) → AllByRecursion P (met_from node level) → P (root_at level node)
fit_root P node level all = let both = rw (met_out node level) at all in both.0

pub fit_below : {X S : Type 0} (P : Met X S → Type 0) (node : Node X S) (level : ℕ) → AllByRecursion P (met_from node level) → AllByRecursion P (all_met (level + 1) (children node))
fit_below P node level all = let both = rw (met_out node level) at all in both.1

pub fit_whole : {X S : Type 0} (P : Met X S → Type 0) (node : Node X S) (level : ℕ) → P (root_at level node) → AllByRecursion P (all_met (level + 1) (children node))
    → AllByRecursion P (met_from node level)
fit_whole P node level root below = rw (met_out node level) (root, below)

-- the first current tree is printed
pub text_enter : {X S : Type 0} (line : Met X S → List ℕ) (below : List (Bor (List (Node X S)))) (rest : Bor (List (Node X S))) (node : Node X S) (left : List (Node X S)) (out first : List ℕ)
    → left ≡ node ∷ rest.now → first ≡ out ++ line (root_at (length (below ++ rest ∷ [])) node)
    → first ++ flat_map line (left_met (below ++ rest ∷ []) (children node)) ≡ out ++ flat_map line (left_met below left)
text_enter line below rest node left out first is e =
    let more = left_met (below ++ rest ∷ []) (children node) in
    ap (λ o. o ++ flat_map line more) e
    ∙ append_assoc out (line (root_at (length (below ++ rest ∷ [])) node)) (flat_map line more)
    ∙ ap (λ ms. out ++ flat_map line ms) (sym (ap (left_met below) is ∙ left_enter below rest node))

pub fit_enter : {X S : Type 0} (P : Met X S → Type 0) (below : List (Bor (List (Node X S)))) (rest : Bor (List (Node X S))) (node : Node X S) (left : List (Node X S))
    → left ≡ node ∷ rest.now → AllByRecursion P (left_met below left) → AllByRecursion P (root_at (length (below ++ rest ∷ [])) node ∷ left_met (below ++ rest ∷ []) (children node))
fit_enter {X = X} {S = S} P below rest node left is all = let Q : List (Met X S) → Type 0 = AllByRecursion P in subst Q (ap (left_met below) is ∙ left_enter below rest node) all

-- and back: the first current tree fits if its root and what is left after that do
pub fit_left : {X S : Type 0} (P : Met X S → Type 0) (below : List (Bor (List (Node X S)))) (rest : Bor (List (Node X S))) (node : Node X S) (left : List (Node X S))
    → left ≡ node ∷ rest.now → P (root_at (length (below ++ rest ∷ [])) node) → AllByRecursion P (left_met (below ++ rest ∷ []) (children node))
    → AllByRecursion P (left_met below left)
fit_left {X = X} {S = S} P below rest node left is root all =
    let Q : List (Met X S) → Type 0 = AllByRecursion P in subst Q (sym (ap (left_met below) is ∙ left_enter below rest node)) (root, all)

-- a tree fits if its root and what is left after that do
pub fit_begins : {X S : Type 0} (P : Met X S → Type 0) (node : Node X S) → P (root_at 0 node) → AllByRecursion P (left_met [] (children node))
    → AllByRecursion P (met_from node 0)
fit_begins P node root all = fit_whole P node 0 root (all_front P (all_met 1 (children node)) [] all)

-- the text of a tree begins with the line of its root
pub text_begins : {X S : Type 0} (line : Met X S → List ℕ) (node : Node X S) (out : List ℕ) → out ≡ line (root_at 0 node)
    → out ++ flat_map line (left_met [] (children node)) ≡ flat_map line (met_from node 0)
text_begins line node out e =
    ap (λ o. o ++ flat_map line (all_met (0 + 1) (children node) ++ [])) e
    ∙ ap (λ ms. line (root_at 0 node) ++ flat_map line ms) (append-nil (all_met (0 + 1) (children node)))
    ∙ ap (flat_map line) (sym (met_out node 0))

-- how many nodes are left when the first current tree is entered
pub left_length : {X S : Type 0} (below : List (Bor (List (Node X S)))) (rest : Bor (List (Node X S))) (node : Node X S) (left : List (Node X S))
    → left ≡ node ∷ rest.now → length (left_met below left) ≡ suc (length (left_met (below ++ rest ∷ []) (children node)))
left_length below rest node left is = ap length (ap (left_met below) is ∙ left_enter below rest node)

-- and with the list of what was put aside, the measure of the loop falls
entered_falls : (before after n m : ℕ) → before ≡ suc after → m ≡ n + 1 → 2 * after + m < 2 * before + n
entered_falls before after n m is longer = omega arith

pub left_falls : {X S : Type 0} (below aside : List (Bor (List (Node X S)))) (rest : Bor (List (Node X S))) (node : Node X S) (left inner : List (Node X S))
    → left ≡ node ∷ rest.now → aside ≡ below ++ rest ∷ [] → inner ≡ children node
    → 2 * length (left_met aside inner) + length aside < 2 * length (left_met below left) + length below
left_falls below aside rest node left inner is put same =
    rw (put, same) (entered_falls (length (left_met below left)) (length (left_met (below ++ rest ∷ []) (children node))) (length below) (length (below ++ rest ∷ []))
    (left_length below rest node left is) (length_push below rest))

-- no current tree is left, and those that were put aside last are taken again
pub left_turned : {X S : Type 0} (below aside : List (Bor (List (Node X S)))) (rest : Bor (List (Node X S))) (left : List (Node X S))
    → length left ≡ 0 → aside ≡ below ++ rest ∷ [] → left_met aside left ≡ left_met below rest.now
left_turned below aside rest left none put = rw (nil_from_length left none, put) (left_turn below rest)

turned_falls : (before after n m : ℕ) → before ≡ after → m ≡ n + 1 → 2 * after + n < 2 * before + m
turned_falls before after n m is longer = omega arith

pub turn_falls : {X S : Type 0} (below aside : List (Bor (List (Node X S)))) (rest : Bor (List (Node X S))) (left : List (Node X S))
    → length left ≡ 0 → aside ≡ below ++ rest ∷ [] → 2 * length (left_met below rest.now) + length below < 2 * length (left_met aside left) + length aside
turn_falls below aside rest left none put =
    turned_falls (length (left_met aside left)) (length (left_met below rest.now)) (length below) (length aside)
    (ap length (left_turned below aside rest left none put)) (ap length put ∙ length_push below rest)

-- nothing is left
pub left_none : {X S : Type 0} (below : List (Bor (List (Node X S)))) (left : List (Node X S)) → length left ≡ 0 → length below ≡ 0 → left_met below left ≡ []
left_none below left none lowest = rw (nil_from_length left none, nil_from_length below lowest) refl

pub fit_none : {X S : Type 0} (P : Met X S → Type 0) (below : List (Bor (List (Node X S)))) (left : List (Node X S)) → length left ≡ 0 → length below ≡ 0
    → AllByRecursion P (left_met below left)
fit_none {X = X} {S = S} P below left none lowest = let Q : List (Met X S) → Type 0 = AllByRecursion P in subst Q (sym (left_none below left none lowest)) tt

pub text_ends : {X S : Type 0} (line : Met X S → List ℕ) (below : List (Bor (List (Node X S)))) (left : List (Node X S)) (out whole : List ℕ)
    → length left ≡ 0 → length below ≡ 0 → out ++ flat_map line (left_met below left) ≡ whole → out ≡ whole
text_ends line below left out whole none lowest is =
    sym (append-nil out) ∙ ap (λ ms. out ++ flat_map line ms) (sym (left_none below left none lowest)) ∙ is

-- the first current tree fits at its level
pub fit_first : {X S : Type 0} (P : Met X S → Type 0) (below aside : List (Bor (List (Node X S)))) (rest : Bor (List (Node X S))) (node : Node X S) (left : List (Node X S))
    (level : ℕ) → left ≡ node ∷ rest.now → aside ≡ below ++ rest ∷ [] → level ≡ length aside → AllByRecursion P (left_met below left) → P (root_at level node)
fit_first P below aside rest node left level is put at all =
    subst (λ n. P (root_at n node)) (sym (at ∙ ap length put)) (fit_enter P below rest node left is all).0
