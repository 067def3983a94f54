-- How many nodes a tree has.
use Rattle.std.proofs.Common.{refl, ◌≡◌, ℕ, ◌+◌, ◌*◌, ◌<◌, ◌≤◌, List, [], ◌∷◌, ◌++◌, Vec, Option, Some, None, MatchOption, map, ap, sym, ◌∙◌, arith, set, length, get_or}
use Rattle.std.specs.declared.alloc.Global.{Global}
use Rattle.lrpar_grammar_places.specs.declared.span.RIdx.{RIdx}
use Rattle.lrpar_parse_trees.specs.declared.node.Node.{Node}
use Rattle.lrpar_parse_trees.specs.declared.node.Node.TheVariants.{Term, Nonterm, rolls-Term, rolls-Nonterm}
use Rattle.lrpar_parse_trees.specs.declared.node.Node.TheOpen.{Node-F}
use Rattle.lrpar_parse_trees.specs.declared.node.Node.TheViews.{out-Node}
use Rattle.lrpar_parse_trees.specs.declared.node.Node.TheFolds.{fold-Node, fold-roll-Node, fold_out-Node, map-Node}
use Rattle.lrpar_parse_trees.specs.Walks.{children, layer_children}

abbrev pub sum_of : List ℕ → ℕ
sum_of [] = 0
sum_of (n ∷ ns) = n + sum_of ns

abbrev pub weight_step : {X S : Type 0} → Node-F X S ℕ → ℕ
weight_step (Node-F.Term x) = 1
weight_step (Node-F.Nonterm r nodes) = 1 + sum_of nodes.items

abbrev pub weight : {X S : Type 0} → Node X S → ℕ
weight {X = X} {S = S} = fold-Node X S ℕ weight_step

abbrev pub weights : {X S : Type 0} → List (Node X S) → ℕ
weights nodes = sum_of (map weight nodes)

-- a tree has its root, and the nodes of the trees below it
layer_weight : {X S : Type 0} (layer : Node-F X S (Node X S)) → weight_step (map-Node X S (Node X S) ℕ weight layer) ≡ 1 + weights (layer_children layer)
layer_weight (Node-F.Term x) = refl
layer_weight (Node-F.Nonterm ridx nodes) = refl

pub weight_out : {X S : Type 0} (node : Node X S) → weight node ≡ 1 + weights (children node)
weight_out {X = X} {S = S} node = fold_out-Node X S ℕ weight_step node ∙ layer_weight (out-Node X S node)

pub weight_term : {X S : Type 0} (x : X) (node : Node X S) → node ≡ Term x → weight node ≡ 1
weight_term {X = X} {S = S} x node is =
    ap weight is ∙ ap weight (sym (rolls-Term x)) ∙ fold-roll-Node X S ℕ weight_step (Node-F.Term x)

pub weight_nonterm : {X S : Type 0} (r : RIdx S) (nodes : Vec (Node X S) Global) (node : Node X S) → node ≡ Nonterm r nodes → weight node ≡ 1 + weights nodes.items
weight_nonterm {X = X} {S = S} r nodes node is = ap weight is ∙ ap weight (sym (rolls-Nonterm r nodes)) ∙ fold-roll-Node X S ℕ weight_step (Node-F.Nonterm r nodes)

-- the nodes that a loop has left
abbrev pub left_weight : {X S : Type 0} → Option (Vec (Node X S) Global) → ℕ
left_weight None = 0
left_weight (Some nodes) = weights nodes.items

abbrev pub measure : ℕ → ℕ → ℕ
measure t w = t * t + w

pub falls_down : (t w t' w' : ℕ) → t' ≡ t → w' < w → measure t' w' < measure t w
falls_down t w t' w' same less = let squares : t' * t' ≡ t * t = ap (λ n. n * n) same in omega arith

pub falls_fewer : (t w t' w' : ℕ) → t' < t → w' ≤ t' → measure t' w' < measure t w
falls_fewer t w t' w' less within = grind arith

pub weights_set : {X S : Type 0} (nodes : List (Node X S)) (x : Node X S) (d : Node X S) → 0 < length nodes → weights (set nodes 0 x) + weight (get_or nodes 0 d) ≡ weights nodes + weight x
weights_set [] x d full = absurd (omega arith)
weights_set (n ∷ ns) x d full = omega arith

pub weight_first : {X S : Type 0} (nodes : List (Node X S)) (d : Node X S) → 0 < length nodes → weight (get_or nodes 0 d) ≤ weights nodes
weight_first [] d full = absurd (omega arith)
weight_first (n ∷ ns) d full = omega arith

pub weights_append : {X S : Type 0} (ms ns : List (Node X S)) → weights (ms ++ ns) ≡ weights ms + weights ns
weights_append [] ns = omega arith
weights_append (m ∷ ms) ns = omega (arith, weights_append ms ns)

-- a current tree is entered, the trees below it become the current ones, and the others are put aside: what is left falls
entered_falls : (whole below after n m : ℕ) → whole ≡ 1 + (below + after) → m ≡ n + 1 → 2 * (below + after) + m < 2 * whole + n
entered_falls whole below after n m is longer = omega arith

pub weights_fall : {X S : Type 0} (inner below rest more later : List (Node X S)) (whole n m : ℕ) → whole ≡ 1 + (weights below + weights (rest ++ more))
    → inner ≡ below → later ≡ rest ++ more → m ≡ n + 1 → 2 * weights (inner ++ later) + m < 2 * whole + n
weights_fall inner below rest more later whole n m is same aside longer =
    rw (same, aside, weights_append below (rest ++ more)) (entered_falls whole (weights below) (weights (rest ++ more)) n m is longer)

-- a current tree is finished
skipped_falls : (whole below after n m : ℕ) → whole ≡ 1 + (below + after) → m ≡ n → 2 * after + m < 2 * whole + n
skipped_falls whole below after n m is same = omega arith

pub weights_skip : {X S : Type 0} (below : ℕ) (rest more later : List (Node X S)) (whole n m : ℕ) → whole ≡ 1 + (below + weights (rest ++ more))
    → later ≡ more → m ≡ n → 2 * weights (rest ++ later) + m < 2 * whole + n
weights_skip below rest more later whole n m is same even = rw same (skipped_falls whole below (weights (rest ++ more)) n m is even)

-- no current tree is left, and those that were put aside last are taken again
turned_falls : (whole n m : ℕ) → n ≡ m + 1 → 2 * whole + m < 2 * whole + n
turned_falls whole n m longer = omega arith

pub weights_turn : {X S : Type 0} (nodes rest more later : List (Node X S)) (n m : ℕ) → nodes ≡ [] → later ≡ rest ++ more → n ≡ m + 1
    → 2 * weights (rest ++ more) + m < 2 * weights (nodes ++ later) + n
weights_turn nodes rest more later n m none aside longer = rw (none, aside) (turned_falls (weights (rest ++ more)) n m longer)

pub weight_some : {X S : Type 0} (left : Option (Vec (Node X S) Global)) (nodes : Vec (Node X S) Global) → left ≡ Some nodes → left_weight left ≡ weights nodes.items
weight_some left nodes is = ap left_weight is

pub wraps : {X S : Type 0} (r : RIdx S) (nodes others : Vec (Node X S) Global) (wrapped : List (Node X S)) (self first dest : Node X S) →
    self ≡ Nonterm r nodes → wrapped ≡ set nodes.items 0 dest → dest ≡ Nonterm r others → first ≡ get_or nodes.items 0 first → 0 < length nodes.items →
    measure (weight first + weights wrapped) (weight first) < measure (weight self + weights others.items) (weight self)
wraps r nodes others wrapped self first dest is put held was full =
    let all : weights wrapped ≡ weights (set nodes.items 0 dest) = ap weights put in
    let moved = weights_set nodes.items dest first full in
    let front : weight first ≡ weight (get_or nodes.items 0 first) = ap weight was in
    let within = weight_first nodes.items first full in
    let whole = weight_nonterm r nodes self is in
    let rest = weight_nonterm r others dest held in
    falls_down (weight self + weights others.items) (weight self) (weight first + weights wrapped) (weight first) (omega arith) (omega arith)

pub weight_unless_empty : {X S : Type 0} (left : Option (Vec (Node X S) Global)) (nodes : Vec (Node X S) Global)
    → MatchOption left (nodes.items ≡ []) (λ list. list ≡ nodes) → left_weight left ≡ weights nodes.items
weight_unless_empty None nodes none = ap weights (sym none)
weight_unless_empty (Some list) nodes same = ap (λ (v : Vec (Node _ _) Global). weights v.items) same
