use Rattle.std.proofs.Common.{◌≡◌, ◌∷◌, [], ◌++◌, sym, ◌∙◌, refl, arith, length-append}
use Rattle.std.proofs.lemmas.List.{nil_from_length}
use Rattle.lrpar_parse_trees.specs.Walks.{walk}
use Rattle.lrpar_parse_trees.specs.declared.node.Node.TheVariants.{Term, Nonterm}
use Rattle.lrpar_parse_trees.proofs.WeightLemmas.{weight_nonterm}
use Rattle.lrpar_parse_trees.proofs.GrowingLemmas.{later_push, whole_made, whole_entered, whole_turned, walk_rule, walk_lexeme, whole_ended}
use Rattle.lrpar_parse_trees.proofs.node.copied.copy_nodes.Goals as goal

pub loop-node-preserved-in-Term : goal.loop-node-preserved-in-Term
loop-node-preserved-in-Term g c =
    let node = c.in-Some.node.now in
    let same : walk (Term c.in-Term.lexeme) ≡ walk node = walk_lexeme (Term c.in-Term.lexeme) c.in-Term.lexeme refl ∙ sym (walk_lexeme node c.in-Term.lexeme c.in-Term.is) in
    let grown = whole_made c.loop-node.below.items c.loop-node.ridx.0 c.loop-node.made.items c.in-Some.rest.now node (Term c.in-Term.lexeme) same in
    let before = rw c.in-Some.ensures.cases.0 at c.loop-node.invariant in
    rw c.in_ok-push-in-Term.ensures.items (grown ∙ before)

pub loop-node-smaller-in-Nonterm : goal.loop-node-smaller-in-Nonterm
loop-node-smaller-in-Nonterm g c =
    let node = c.in-Some.node.now in
    let whole = weight_nonterm c.in-Nonterm.rule c.in-Nonterm.nodes node c.in-Nonterm.is in
    rw (c.in_ok-push-in-Nonterm.ensures.items, later_push, c.in-Some.ensures.cases.0, c.deref-left.ensures.value) (simp length-append (omega arith))

pub loop-node-preserved-in-Nonterm : goal.loop-node-preserved-in-Nonterm
loop-node-preserved-in-Nonterm g c =
    let node = c.in-Some.node.now in
    let entered = whole_entered c.loop-node.below.items (record { ridx = c.loop-node.ridx; made = c.loop-node.made; left = c.in-Some.rest })
    node c.in-Nonterm.rule.0 c.in-Nonterm.nodes.items (walk_rule node c.in-Nonterm.rule c.in-Nonterm.nodes c.in-Nonterm.is) in
    let before = rw c.in-Some.ensures.cases.0 at c.loop-node.invariant in
    rw (c.in_ok-push-in-Nonterm.ensures.items, c.in_ok-made-in-Nonterm.ensures.items, c.deref-left.ensures.value) (entered ∙ before)

pub returns-in_default : goal.returns-in_default
returns-in_default g c =
    let last = nil_from_length c.loop-node.left.now c.in-None.ensures.cases in
    let lowest = nil_from_length c.loop-node.below.items (sym c.loop-node.below.ok.0 ∙ c.in_default.ensures.cases.0) in
    let before = rw (lowest, last) at c.loop-node.invariant in
    sym (whole_ended (Nonterm c.loop-node.ridx c.loop-node.made) c.loop-node.ridx c.loop-node.made refl) ∙ before

pub loop-node-smaller : goal.loop-node-smaller
loop-node-smaller g c = rw (c.in-Some-pop.ensures.items, later_push) (simp length-append (omega arith))

pub loop-node-preserved : goal.loop-node-preserved
loop-node-preserved g c =
    let node = Nonterm c.loop-node.ridx c.loop-node.made in
    let parent = c.in-Some-pop.parent in
    let fs = c.pop.new.self.items in
    let last = nil_from_length c.loop-node.left.now c.in-None.ensures.cases in
    let before = rw (c.in-Some-pop.ensures.items, last) at c.loop-node.invariant in
    let grown = whole_made fs parent.ridx.0 parent.made.items parent.left.now node node refl in
    let entered = whole_entered fs parent node c.loop-node.ridx.0 c.loop-node.made.items (walk_rule node c.loop-node.ridx c.loop-node.made refl) in
    rw c.in_ok-push-in-None.ensures.items (grown ∙ sym entered ∙ sym (whole_turned (fs ++ parent ∷ []) c.loop-node.ridx.0 c.loop-node.made.items) ∙ before)
