-- A tree that is being cloned, as the walk through all of it.
use Rattle.std.proofs.Common.{◌≡◌, ℕ, suc, ◌+◌, List, [], ◌∷◌, ◌++◌, length, ap, sym, ◌∙◌, append_assoc, append-nil, arith, length-append, Vec}
use Rattle.std.specs.declared.alloc.Global.{Global}
use Rattle.lrpar_grammar_places.specs.declared.span.RIdx.{RIdx}
use Rattle.lrpar_parse_trees.specs.declared.node.Node.{Node}
use Rattle.lrpar_parse_trees.specs.declared.node.Node.TheVariants.{Term, Nonterm}
use Rattle.lrpar_parse_trees.specs.declared.node.copied.Growing.{Growing}
use Rattle.lrpar_parse_trees.specs.Visits.{Visit, Met, Entered}
use Rattle.lrpar_parse_trees.specs.Walks.{walk, walks, children}
use Rattle.lrpar_parse_trees.proofs.WeightLemmas.{weights}
use Rattle.lrpar_parse_trees.proofs.WalkLemmas.{walk_out, walks_append, visit_nonterm, children_nonterm, visit_term, children_term}

-- of the rules below, the lowest first: what the walk meets before it comes to the current tree
abbrev pub opened : {X S : Type 0} → List (Growing X S) → List (Visit X S)
opened [] = []
opened (f ∷ fs) = Entered f.ridx.0 (suc (length f.made.items + length f.left.now)) ∷ (walks f.made.items ++ opened fs)

-- what it meets after that
abbrev pub closing : {X S : Type 0} → List (Growing X S) → List (Visit X S)
closing [] = []
closing (f ∷ fs) = closing fs ++ walks f.left.now

-- all of it, with a current rule over trees that are made and trees that are left
abbrev pub whole : {X S : Type 0} → List (Growing X S) → S → List (Node X S) → List (Node X S) → List (Visit X S)
whole below r made left = opened below ++ (Entered r (length made + length left) ∷ (walks made ++ (walks left ++ closing below)))

-- the nodes that are left below
abbrev pub later : {X S : Type 0} → List (Growing X S) → ℕ
later [] = 0
later (f ∷ fs) = weights f.left.now + later fs

pub later_push : {X S : Type 0} (fs : List (Growing X S)) (f : Growing X S) → later (fs ++ f ∷ []) ≡ later fs + weights f.left.now
later_push [] f = omega arith
later_push (e ∷ fs) f = omega (arith, later_push fs f)

pub opened_push : {X S : Type 0} (fs : List (Growing X S)) (f : Growing X S)
    → opened (fs ++ f ∷ []) ≡ opened fs ++ (Entered f.ridx.0 (suc (length f.made.items + length f.left.now)) ∷ walks f.made.items)
opened_push [] f = ap (λ vs. Entered f.ridx.0 (suc (length f.made.items + length f.left.now)) ∷ vs) (append-nil (walks f.made.items))
opened_push (e ∷ fs) f =
    ap (λ vs. Entered e.ridx.0 (suc (length e.made.items + length e.left.now)) ∷ vs)
    (ap (λ vs. walks e.made.items ++ vs) (opened_push fs f) ∙ sym (append_assoc (walks e.made.items) (opened fs) _))

pub closing_push : {X S : Type 0} (fs : List (Growing X S)) (f : Growing X S) → closing (fs ++ f ∷ []) ≡ walks f.left.now ++ closing fs
closing_push [] f = sym (append-nil (walks f.left.now))
closing_push (e ∷ fs) f = ap (λ vs. vs ++ walks e.left.now) (closing_push fs f) ∙ append_assoc (walks f.left.now) (closing fs) (walks e.left.now)

-- the clone of a tree takes its place
pub whole_made : {X S : Type 0} (below : List (Growing X S)) (r : S) (made left : List (Node X S)) (old new : Node X S) → walk new ≡ walk old
    → whole below r (made ++ new ∷ []) left ≡ whole below r made (old ∷ left)
whole_made below r made left old new same =
    let count : length (made ++ new ∷ []) + length left ≡ length made + length (old ∷ left) = simp length-append (omega arith) in
    let walked : walks (made ++ new ∷ []) ++ (walks left ++ closing below) ≡ walks made ++ (walks (old ∷ left) ++ closing below) =
    ap (λ vs. vs ++ (walks left ++ closing below)) (walks_append made (new ∷ []))
    ∙ append_assoc (walks made) (walk new ++ []) (walks left ++ closing below)
    ∙ ap (λ vs. walks made ++ vs) (ap (λ vs. vs ++ (walks left ++ closing below)) (append-nil (walk new) ∙ same)
    ∙ sym (append_assoc (walk old) (walks left) (closing below))) in
    ap (λ n. opened below ++ (Entered r n ∷ (walks (made ++ new ∷ []) ++ (walks left ++ closing below)))) count
    ∙ ap (λ vs. opened below ++ (Entered r (length made + length (old ∷ left)) ∷ vs)) walked

-- a rule is entered
pub whole_entered : {X S : Type 0} (below : List (Growing X S)) (f : Growing X S) (node : Node X S) (q : S) (nodes : List (Node X S))
    → walk node ≡ Entered q (length nodes) ∷ walks nodes
    → whole (below ++ f ∷ []) q [] nodes ≡ whole below f.ridx.0 f.made.items (node ∷ f.left.now)
whole_entered below f node q nodes is =
    let counted = λ (n : ℕ). opened below ++ (Entered f.ridx.0 n ∷ (walks f.made.items ++ (Entered q (length nodes) ∷ (walks nodes ++ (walks f.left.now ++ closing below))))) in
    let count : suc (length f.made.items + length f.left.now) ≡ length f.made.items + length (node ∷ f.left.now) = omega arith in
    let tail : (walk node ++ walks f.left.now) ++ closing below ≡ Entered q (length nodes) ∷ (walks nodes ++ (walks f.left.now ++ closing below)) =
    append_assoc (walk node) (walks f.left.now) (closing below) ∙ ap (λ vs. vs ++ (walks f.left.now ++ closing below)) is in
    let fewest : 0 + length nodes ≡ length nodes = omega arith in
    rw (opened_push, closing_push, fewest)
    (append_assoc (opened below) (Entered f.ridx.0 (suc (length f.made.items + length f.left.now)) ∷ walks f.made.items)
    (Entered q (length nodes) ∷ (walks nodes ++ (walks f.left.now ++ closing below)))
    ∙ ap counted count
    ∙ ap (λ vs. opened below ++ (Entered f.ridx.0 (length f.made.items + length (node ∷ f.left.now)) ∷ (walks f.made.items ++ vs))) (sym tail))

-- all trees of a rule are made
pub whole_turned : {X S : Type 0} (below : List (Growing X S)) (r : S) (made : List (Node X S)) → whole below r made [] ≡ whole below r [] made
whole_turned below r made =
    let count : length made + 0 ≡ 0 + length made = omega arith in
    ap (λ n. opened below ++ (Entered r n ∷ (walks made ++ closing below))) count

-- the walk through a rule
pub walk_rule : {X S : Type 0} (node : Node X S) (r : RIdx S) (nodes : Vec (Node X S) Global) → node ≡ Nonterm r nodes
    → walk node ≡ Entered r.0 (length nodes.items) ∷ walks nodes.items
walk_rule node r nodes is =
    walk_out node ∙ ap (λ v. v ∷ walks (children node)) (visit_nonterm node r nodes is)
    ∙ ap (λ ns. Entered r.0 (length nodes.items) ∷ walks ns) (children_nonterm node r nodes is)

-- the walk to a lexeme
pub walk_lexeme : {X S : Type 0} (node : Node X S) (x : X) → node ≡ Term x → walk node ≡ Met x ∷ []
walk_lexeme node x is = walk_out node ∙ ap (λ v. v ∷ walks (children node)) (visit_term node x is) ∙ ap (λ ns. Met x ∷ walks ns) (children_term node x is)

-- nothing is left of any rule
pub whole_ended : {X S : Type 0} (node : Node X S) (r : RIdx S) (nodes : Vec (Node X S) Global) → node ≡ Nonterm r nodes
    → whole [] r.0 nodes.items [] ≡ walk node
whole_ended node r nodes is =
    let fewest : 0 + length nodes.items ≡ length nodes.items = omega arith in
    whole_turned [] r.0 nodes.items
    ∙ ap (λ n. Entered r.0 n ∷ (walks nodes.items ++ [])) fewest
    ∙ ap (λ vs. Entered r.0 (length nodes.items) ∷ vs) (append-nil (walks nodes.items))
    ∙ sym (walk_rule node r nodes is)
