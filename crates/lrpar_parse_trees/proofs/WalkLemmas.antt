-- Walks through trees.
use Rattle.std.proofs.Common.{rules, ◌≡◌, ℕ, zero, suc, ◌+◌, ◌≤◌, Bool, true, false, ◌&&◌, List, [], ◌∷◌, ◌++◌, Vec, refl, ap, sym, ◌∙◌, arith, length, append_assoc, length-append}
use Rattle.std.specs.declared.alloc.Global.{Global}
use Rattle.std.proofs.lemmas.List.{length-map, nil_from_length}
use Rattle.std.proofs.lemmas.Bool.{eqb-true}
use Rattle.std.specs.Cmp.{second_so}
use Rattle.std.specs.Bool.{◌==◌}
use Rattle.std.specs.Cmp.Lexicographic.{pointwise}
use Rattle.lrpar_grammar_places.specs.declared.span.RIdx.{RIdx}
use Rattle.lrpar_parse_trees.specs.declared.node.Node.{Node}
use Rattle.lrpar_parse_trees.specs.declared.node.Node.TheVariants.{Term, Nonterm}
use Rattle.lrpar_parse_trees.specs.declared.node.Node.TheOpen.{Node-F}
use Rattle.lrpar_parse_trees.specs.declared.node.Node.TheViews.{out-Node, the_lemmas}
use Rattle.lrpar_parse_trees.specs.declared.node.Node.TheFolds.{fold_out-Node, map-Node}
use Rattle.lrpar_parse_trees.specs.Visits.{Visit, Met, Entered, visit_eq}
use Rattle.lrpar_parse_trees.specs.Walks.{walk, walks, walk_step, visit, children, layer_visit, layer_children, node_eq, nodes_eq}
use Rattle.lrpar_parse_trees.proofs.WeightLemmas.{weights, weight_out, weights_append}

-- one layer of a walk
layer_walk : {X S : Type 0} (layer : Node-F X S (Node X S))
    → walk_step (map-Node X S (Node X S) (List (Visit X S)) walk layer) ≡ layer_visit layer ∷ walks (layer_children layer)
layer_walk (Node-F.Term x) = refl
layer_walk (Node-F.Nonterm ridx nodes) = ap (λ n. Entered ridx.0 n ∷ walks nodes.items) (length-map nodes.items walk)

pub walk_out : {X S : Type 0} (node : Node X S) → walk node ≡ visit node ∷ walks (children node)
walk_out {X = X} {S = S} node = fold_out-Node X S (List (Visit X S)) walk_step node ∙ layer_walk (out-Node X S node)

-- the visit of a node of either kind
pub visit_term : {X S : Type 0} (node : Node X S) (x : X) → node ≡ Term x → visit node ≡ Met x
visit_term node x is = ap visit is ∙ search (rules, the_lemmas)

pub visit_nonterm : {X S : Type 0} (node : Node X S) (r : RIdx S) (nodes : Vec (Node X S) Global) → node ≡ Nonterm r nodes
    → visit node ≡ Entered r.0 (length nodes.items)
visit_nonterm node r nodes is = ap visit is ∙ search (rules, the_lemmas)

pub children_term : {X S : Type 0} (node : Node X S) (x : X) → node ≡ Term x → children node ≡ []
children_term node x is = ap children is ∙ search (rules, the_lemmas)

pub children_nonterm : {X S : Type 0} (node : Node X S) (r : RIdx S) (nodes : Vec (Node X S) Global) → node ≡ Nonterm r nodes
    → children node ≡ nodes.items
children_nonterm node r nodes is = ap children is ∙ search (rules, the_lemmas)

pub walks_append : {X S : Type 0} (ms ns : List (Node X S)) → walks (ms ++ ns) ≡ walks ms ++ walks ns
walks_append [] ns = refl
walks_append (m ∷ ms) ns = ap (λ ws. walk m ++ ws) (walks_append ms ns) ∙ sym (append_assoc (walk m) (walks ms) (walks ns))

-- several trees, when the first is entered
pub walks_enter : {X S : Type 0} (node : Node X S) (rest : List (Node X S)) → walks (node ∷ rest) ≡ visit node ∷ walks (children node ++ rest)
walks_enter node rest =
    ap (λ ws. ws ++ walks rest) (walk_out node) ∙ ap (λ ws. visit node ∷ ws) (sym (walks_append (children node) rest))

pub weights_enter : {X S : Type 0} (node : Node X S) (rest : List (Node X S)) → weights (node ∷ rest) ≡ 1 + weights (children node ++ rest)
weights_enter node rest = omega (arith, weight_out node, weights_append (children node) rest)

-- equal nodes have the same number of children
visits_even : {X S : Type 0} (eq : X → X → Bool) (same : S → S → Bool) (a b : Node-F X S (Node X S))
    → visit_eq eq same (layer_visit a) (layer_visit b) ≡ true → length (layer_children a) ≡ length (layer_children b)
visits_even eq same (Node-F.Term x) (Node-F.Term y) like = refl
visits_even eq same (Node-F.Term x) (Node-F.Nonterm q ms) like = cc
visits_even eq same (Node-F.Nonterm r ns) (Node-F.Term y) like = cc
visits_even eq same (Node-F.Nonterm r ns) (Node-F.Nonterm q ms) like =
    eqb-true (length ns.items) (length ms.items) (second_so (same r.0 q.0) (length ns.items == length ms.items) like)

pub children_even : {X S : Type 0} (eq : X → X → Bool) (same : S → S → Bool) (a b : Node X S)
    → visit_eq eq same (visit a) (visit b) ≡ true → length (children a) ≡ length (children b)
children_even {X = X} {S = S} eq same a b like = visits_even eq same (out-Node X S a) (out-Node X S b) like

-- trees are equal if their roots are alike and the trees below these are equal
node_out : {X S : Type 0} (eq : X → X → Bool) (same : S → S → Bool) (a b : Node X S)
    → node_eq eq same a b ≡ (visit_eq eq same (visit a) (visit b) && nodes_eq eq same (children a) (children b))
node_out eq same a b = rw (walk_out a, walk_out b) refl

pub node_unlike : {X S : Type 0} (eq : X → X → Bool) (same : S → S → Bool) (a b : Node X S)
    → false ≡ visit_eq eq same (visit a) (visit b) → false ≡ node_eq eq same a b
node_unlike eq same a b like = ap (λ l. l && nodes_eq eq same (children a) (children b)) like ∙ sym (node_out eq same a b)

node_alike : {X S : Type 0} (eq : X → X → Bool) (same : S → S → Bool) (a b : Node X S)
    → true ≡ visit_eq eq same (visit a) (visit b) → nodes_eq eq same (children a) (children b) ≡ node_eq eq same a b
node_alike eq same a b like = ap (λ l. l && nodes_eq eq same (children a) (children b)) like ∙ sym (node_out eq same a b)

pub leaf_alike : {X S : Type 0} (eq : X → X → Bool) (same : S → S → Bool) (a b : Node X S) (x : X) → a ≡ Term x
    → true ≡ visit_eq eq same (visit a) (visit b) → true ≡ node_eq eq same a b
leaf_alike eq same a b x is like =
    let left = children_term a x is in
    let right = nil_from_length (children b) (sym (children_even eq same a b (sym like)) ∙ ap length left) in
    let none : true ≡ nodes_eq eq same (children a) (children b) = rw (left, right) refl in
    none ∙ node_alike eq same a b like

-- the same for a rule, over lists of its trees and of the other's, which have the same length
pub alike_even : {X S : Type 0} (eq : X → X → Bool) (same : S → S → Bool) (a b : Node X S) (r : RIdx S) (nodes : Vec (Node X S) Global) (left right : List (Node X S))
    → a ≡ Nonterm r nodes → true ≡ visit_eq eq same (visit a) (visit b) → left ≡ nodes.items → right ≡ children b → length left ≡ length right
alike_even eq same a b r nodes left right is like l o =
    ap length (l ∙ sym (children_nonterm a r nodes is)) ∙ children_even eq same a b (sym like) ∙ sym (ap length o)

pub alike_nodes : {X S : Type 0} (eq : X → X → Bool) (same : S → S → Bool) (a b : Node X S) (r : RIdx S) (nodes : Vec (Node X S) Global) (left right : List (Node X S))
    → a ≡ Nonterm r nodes → true ≡ visit_eq eq same (visit a) (visit b) → left ≡ nodes.items → right ≡ children b → nodes_eq eq same left right ≡ node_eq eq same a b
alike_nodes eq same a b r nodes left right is like l o =
    ap (λ ns. nodes_eq eq same ns right) (l ∙ sym (children_nonterm a r nodes is)) ∙ ap (nodes_eq eq same (children a)) o ∙ node_alike eq same a b like

-- one step of the next lemma, over what the rests give
split_step : (like : Bool) (e f g : Bool) → (like ≡ true → e ≡ (f && g)) → (like && e) ≡ ((like && f) && g)
split_step false e f g rest = refl
split_step true e f g rest = rest refl

-- two lists of the same length, each with a walk after it, are equal if the trees are and what comes after them is
pub nodes_eq_split : {X S : Type 0} (eq : X → X → Bool) (same : S → S → Bool) (n : ℕ) (left right : List (Node X S)) (s t : List (Visit X S))
    → length left ≡ length right → weights left ≤ n
    → pointwise (visit_eq eq same) (walks left ++ s) (walks right ++ t) ≡ (nodes_eq eq same left right && pointwise (visit_eq eq same) s t)
nodes_eq_split eq same n [] [] s t even within = refl
nodes_eq_split eq same n [] (b ∷ bs) s t even within = absurd (omega arith)
nodes_eq_split eq same n (a ∷ rest) [] s t even within = absurd (omega arith)
nodes_eq_split eq same zero (a ∷ rest) (b ∷ bs) s t even within = absurd (omega (arith, weights_enter a rest))
nodes_eq_split {X = X} {S = S} eq same (suc n) (a ∷ rest) (b ∷ bs) s t even within =
    rw (walks_enter a rest, walks_enter b bs) (split_step (visit_eq eq same (visit a) (visit b)) _ _ _ (λ like.
    nodes_eq_split eq same n (children a ++ rest) (children b ++ bs) s t
    (omega (arith, children_even eq same a b like, length-append (children a) rest, length-append (children b) bs))
    (omega (arith, weights_enter a rest))))

pub nodes_eq_append : {X S : Type 0} (eq : X → X → Bool) (same : S → S → Bool) (left right more others : List (Node X S))
    → length left ≡ length right → nodes_eq eq same (left ++ more) (right ++ others) ≡ (nodes_eq eq same left right && nodes_eq eq same more others)
nodes_eq_append eq same left right more others even =
    rw (walks_append left more, walks_append right others)
    (nodes_eq_split eq same (weights left) left right (walks more) (walks others) even (omega arith))

-- if the first nodes are alike, their children are in their places
pub nodes_eq_enter : {X S : Type 0} (eq : X → X → Bool) (same : S → S → Bool) (a b : Node X S) (like : Bool) (rest others nodes others' more more' : List (Node X S))
    → nodes ≡ a ∷ rest → others' ≡ b ∷ others → like ≡ visit_eq eq same (visit a) (visit b)
    → nodes_eq eq same (nodes ++ more) (others' ++ more')
    ≡ (like && nodes_eq eq same (children a ++ (rest ++ more)) (children b ++ (others ++ more')))
nodes_eq_enter eq same a b like rest others nodes others' more more' n o is =
    rw (n, o, walks_enter a (rest ++ more), walks_enter b (others ++ more'), is) refl

-- the nodes of both, when the first is entered
pub weights_entered : {X S : Type 0} (a : Node X S) (rest nodes more : List (Node X S)) → nodes ≡ a ∷ rest
    → weights (nodes ++ more) ≡ 1 + (weights (children a) + weights (rest ++ more))
weights_entered a rest nodes more n =
    rw n (weights_enter a (rest ++ more) ∙ ap (λ k. 1 + k) (weights_append (children a) (rest ++ more)))

-- if the first nodes are alike, and the trees below them are compared apart, the others decide
pub nodes_eq_skip : {X S : Type 0} {a b : Node X S} {rest others nodes others' below below' : List (Node X S)} (eq : X → X → Bool) (same : S → S → Bool) (known : Bool)
    (more more' : List (Node X S)) → nodes ≡ a ∷ rest → others' ≡ b ∷ others → true ≡ visit_eq eq same (visit a) (visit b) → below ≡ children a → below' ≡ children b
    → known ≡ nodes_eq eq same below below'
    → nodes_eq eq same (nodes ++ more) (others' ++ more') ≡ (known && nodes_eq eq same (rest ++ more) (others ++ more'))
nodes_eq_skip {a = a} {b = b} {rest = rest} {others = others} {nodes = nodes} {others' = others'} {below = below} {below' = below'} eq same known more more' n o is at at' compared =
    let apart = nodes_eq_append eq same (children a) (children b) (rest ++ more) (others ++ more') (children_even eq same a b (sym is)) in
    let result : nodes_eq eq same (children a) (children b) ≡ known =
    sym (compared ∙ ap (λ ns. nodes_eq eq same ns below') at ∙ ap (nodes_eq eq same (children a)) at') in
    nodes_eq_enter eq same a b true rest others nodes others' more more' n o is ∙ apart ∙ ap (λ k. k && nodes_eq eq same (rest ++ more) (others ++ more')) result

-- with no list: several trees are equal if the first nodes are alike, the trees below these are equal, and the others
nodes_eq_begins : {X S : Type 0} (eq : X → X → Bool) (same : S → S → Bool) (a b : Node X S) (like : Bool) (rest others nodes others' : List (Node X S))
    → nodes ≡ a ∷ rest → others' ≡ b ∷ others → like ≡ visit_eq eq same (visit a) (visit b)
    → nodes_eq eq same nodes others' ≡ (like && nodes_eq eq same (children a ++ rest) (children b ++ others))
nodes_eq_begins eq same a b like rest others nodes others' n o is = rw (n, o, walks_enter a rest, walks_enter b others, is) refl

nodes_eq_apart : {X S : Type 0} (eq : X → X → Bool) (same : S → S → Bool) (a b : Node X S) (rest others nodes others' below below' : List (Node X S))
    → nodes ≡ a ∷ rest → others' ≡ b ∷ others → true ≡ visit_eq eq same (visit a) (visit b) → below ≡ children a → below' ≡ children b
    → nodes_eq eq same nodes others' ≡ (nodes_eq eq same below below' && nodes_eq eq same rest others)
nodes_eq_apart eq same a b rest others nodes others' below below' n o is at at' =
    rw (at, at') (nodes_eq_begins eq same a b true rest others nodes others' n o is
    ∙ nodes_eq_append eq same (children a) (children b) rest others (children_even eq same a b (sym is)))

pub below_even : {X S : Type 0} (eq : X → X → Bool) (same : S → S → Bool) (a b : Node X S) (below below' : List (Node X S))
    → true ≡ visit_eq eq same (visit a) (visit b) → below ≡ children a → below' ≡ children b → length below ≡ length below'
below_even eq same a b below below' is at at' = ap length at ∙ children_even eq same a b (sym is) ∙ sym (ap length at')

pub weights_begin : {X S : Type 0} (a : Node X S) (rest nodes below : List (Node X S)) → nodes ≡ a ∷ rest → below ≡ children a
    → weights nodes ≡ 1 + (weights below + weights rest)
weights_begin a rest nodes below n at = rw (n, at) (omega (arith, weight_out a))

-- of two parts that have to be equal one is known
first_unequal : (a b whole : Bool) → whole ≡ (a && b) → false ≡ a → false ≡ whole
first_unequal a b whole is known = sym (is ∙ ap (λ x. x && b) (sym known))

second_unequal : (a b whole : Bool) → whole ≡ (a && b) → false ≡ b → false ≡ whole
second_unequal false b whole is known = sym is
second_unequal true b whole is known = known ∙ sym is

first_equal : (a b whole : Bool) → whole ≡ (a && b) → true ≡ a → b ≡ whole
first_equal a b whole is known = sym (is ∙ ap (λ x. x && b) (sym known))

second_equal : (a b whole : Bool) → whole ≡ (a && b) → true ≡ b → a ≡ whole
second_equal false b whole is known = sym is
second_equal true b whole is known = known ∙ sym is

-- the first nodes are alike, and of the trees below them and the others only the ones are compared
module _ {X S : Type 0} (eq : X → X → Bool) (same : S → S → Bool) {a b : Node X S} {rest others nodes others' below below' : List (Node X S)}
    (n : nodes ≡ a ∷ rest) (o : others' ≡ b ∷ others) (is : true ≡ visit_eq eq same (visit a) (visit b)) (at : below ≡ children a) (at' : below' ≡ children b) where
  pub unequal_below : false ≡ nodes_eq eq same below below' → false ≡ nodes_eq eq same nodes others'
  unequal_below known = first_unequal _ (nodes_eq eq same rest others) _ (nodes_eq_apart eq same a b rest others nodes others' below below' n o is at at') known

  pub unequal_after : false ≡ nodes_eq eq same rest others → false ≡ nodes_eq eq same nodes others'
  unequal_after known = second_unequal (nodes_eq eq same below below') _ _ (nodes_eq_apart eq same a b rest others nodes others' below below' n o is at at') known

  pub equal_below : true ≡ nodes_eq eq same below below' → nodes_eq eq same rest others ≡ nodes_eq eq same nodes others'
  equal_below known = first_equal _ (nodes_eq eq same rest others) _ (nodes_eq_apart eq same a b rest others nodes others' below below' n o is at at') known

  pub equal_after : true ≡ nodes_eq eq same rest others → nodes_eq eq same below below' ≡ nodes_eq eq same nodes others'
  equal_after known = second_equal (nodes_eq eq same below below') _ _ (nodes_eq_apart eq same a b rest others nodes others' below below' n o is at at') known
