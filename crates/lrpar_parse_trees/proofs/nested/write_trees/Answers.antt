use Rattle.std.proofs.Common.{sym, subst, ◌∙◌}
use Rattle.std.specs.Io.KnownBytes.{Appends}
use Rattle.lrpar_parse_lexemes.specs.Lexemes.{facts_of}
use Rattle.lrpar_parse_trees.proofs.NestedLemmas.{enter_smaller, left_begins, turn_smaller, writes_enter, writes_leaf, writes_turn}
use Rattle.lrpar_parse_trees.proofs.nested.write_trees.Goals as goal

pub nodes-init : goal.nodes-init
nodes-init g c = λ last more.
    let index = g.StorageT.StorageIndex.index in
    let facts = λ (x : g.row.LexemeT.Denot). facts_of index (g.LexemeT.Lexeme.parts x) in
    subst (Appends (g.W.Write.contents c.args.out.now) last)
    (left_begins c.args.form facts index c.args.grm.now c.args.input.now c.args.nodes.now) (rw c.requires at more)

pub nodes-smaller-then-is_first : goal.nodes-smaller-then-is_first
nodes-smaller-then-is_first g c =
    rw (c.in_ok-push-in-Some.ensures.items, c.children-left.ensures)
    (enter_smaller c.nodes.below.items c.in-Some.rest c.in-Some.node.now c.nodes.left.now c.in-Some.ensures.cases.0)

pub nodes-preserved-then-is_first : goal.nodes-preserved-then-is_first
nodes-preserved-then-is_first g c = λ last more.
    let index = g.StorageT.StorageIndex.index in
    let facts = λ (x : g.row.LexemeT.Denot). facts_of index (g.LexemeT.Lexeme.parts x) in
    c.nodes.invariant last (writes_enter c.args.form facts index c.args.grm.now c.args.input.now c.nodes.is_first c.nodes.below.items c.in-Some.rest c.in-Some.node.now
    c.nodes.left.now (g.W.Write.contents c.nodes.out) (g.W.Write.contents c.write_all.new.self) (g.W.Write.contents c.write_front.new.out) last c.in-Some.ensures.cases.0 (sym c.is_rule-is_first.ensures ∙ c.if-is_first.true)
    (rw (c.as_bytes.ensures.value, c.gap.ensures) at c.in_ok-write_all-in-Some.ensures.bytes) c.in_ok-write_front-in-Some.ensures
    (rw (c.if-is_first.true, c.in_ok-push-in-Some.ensures.items, c.children-left.ensures) at more))

pub nodes-preserved-else-is_first : goal.nodes-preserved-else-is_first
nodes-preserved-else-is_first g c = λ last more.
    let index = g.StorageT.StorageIndex.index in
    let facts = λ (x : g.row.LexemeT.Denot). facts_of index (g.LexemeT.Lexeme.parts x) in
    c.nodes.invariant last (writes_leaf c.args.form facts index c.args.grm.now c.args.input.now c.nodes.is_first c.nodes.below.items c.in-Some.rest c.in-Some.node.now
    c.nodes.left.now (g.W.Write.contents c.nodes.out) (g.W.Write.contents c.write_all.new.self) (g.W.Write.contents c.write_front.new.out) last c.in-Some.ensures.cases.0 (sym c.is_rule-is_first.ensures ∙ c.if-is_first.false)
    (rw (c.as_bytes.ensures.value, c.gap.ensures) at c.in_ok-write_all-in-Some.ensures.bytes) c.in_ok-write_front-in-Some.ensures (rw c.if-is_first.false at more))

pub nodes-smaller : goal.nodes-smaller
nodes-smaller g c =
    turn_smaller c.pop.new.self.items c.nodes.below.items c.in-Some-pop.rest c.nodes.left.now c.in-None.ensures.cases c.in-Some-pop.ensures.items

pub nodes-preserved : goal.nodes-preserved
nodes-preserved g c = λ last more.
    let index = g.StorageT.StorageIndex.index in
    let facts = λ (x : g.row.LexemeT.Denot). facts_of index (g.LexemeT.Lexeme.parts x) in
    c.nodes.invariant last (writes_turn c.args.form facts index c.args.grm.now c.args.input.now c.nodes.is_first c.pop.new.self.items c.nodes.below.items c.in-Some-pop.rest
    c.nodes.left.now (g.W.Write.contents c.nodes.out) (g.W.Write.contents c.write_all-in-None.new.self) last c.in-None.ensures.cases c.in-Some-pop.ensures.items
    (rw (c.as_bytes-in-None.ensures.value, c.end.ensures) at c.in_ok-write_all-in-None.ensures.bytes) more)
