use Rattle.std.proofs.Common.{◌≡◌, ◌<◌, ◌+◌, ◌++◌, [], ◌∷◌, ap, sym, subst, ◌∙◌}
use Rattle.std.specs.Io.KnownBytes.{Appends}
use Rattle.std.proofs.lemmas.List.{nil_from_length}
use Rattle.lrpar_parse_lexemes.specs.Lexemes.{facts_of}
use Rattle.lrpar_parse_trees.specs.Walks.{children}
use Rattle.lrpar_parse_trees.proofs.WriteLemmas.{appends_both}
use Rattle.lrpar_parse_trees.specs.Graph.{edge_line}
use Rattle.lrpar_parse_trees.specs.Lines.{node_line}
use Rattle.lrpar_parse_trees.proofs.GraphLemmas.{enter_falls, left_begins, left_enter, left_lines, left_turn, measure_left, turn_falls}
use Rattle.lrpar_parse_trees.proofs.graph.write_below.Goals as goal

pub nodes-init : goal.nodes-init
nodes-init g c = λ last more.
    let index = g.StorageT.StorageIndex.index in
    let facts = λ (x : g.row.LexemeT.Denot). facts_of index (g.LexemeT.Lexeme.parts x) in
    subst (Appends (g.W.Write.contents c.args.out.now) last) (left_begins facts index c.args.grm.now c.args.input.now c.args.nodes.now)
    (rw c.requires at more)

pub nodes-smaller-in-Some : goal.nodes-smaller-in-Some
nodes-smaller-in-Some g c =
    rw (c.in_ok-push-in-Some.ensures.items, c.children-left.ensures)
    (enter_falls c.nodes.parent c.nodes.above.items c.in-Some.rest c.in-Some.node.now c.nodes.left.now c.in-Some.ensures.cases.0)

pub nodes-preserved-in-Some : goal.nodes-preserved-in-Some
nodes-preserved-in-Some g c = λ last more.
    let index = g.StorageT.StorageIndex.index in
    let facts = λ (x : g.row.LexemeT.Denot). facts_of index (g.LexemeT.Lexeme.parts x) in
    let contents = g.W.Write.contents in
    let grm = c.args.grm.now in
    let input = c.args.input.now in
    let parent = c.nodes.parent in
    let next = c.nodes.next in
    let above = c.nodes.above.items in
    let rest = c.in-Some.rest in
    let node = c.in-Some.node.now in
    let line = node_line facts index grm input next node in
    let edge = edge_line parent next in
    let inner = left_lines facts index grm input next (next + 1) (above ++ (parent, rest) ∷ []) (children node) in
    let after : Appends (contents c.write_edge.new.out) last inner =
    (rw (c.in_ok-push-in-Some.ensures.items, c.children-left.ensures, c.in_ok-next-in-Some.ensures) at more) in
    c.nodes.invariant last (subst (Appends (contents c.nodes.out) last)
    (left_enter facts index grm input parent next above rest node c.nodes.left.now c.in-Some.ensures.cases.0)
    (appends_both (contents c.nodes.out) (contents c.write_node.new.out) last line (edge ++ inner) c.in_ok-write_node-in-Some.ensures
    (appends_both (contents c.write_node.new.out) (contents c.write_edge.new.out) last edge inner c.in_ok-write_edge-in-Some.ensures after)))

pub nodes-smaller : goal.nodes-smaller
nodes-smaller g c =
    let fs = c.pop.new.self.items in
    let number = c.in-Some-pop.number in
    let rest = c.in-Some-pop.rest in
    let none = nil_from_length c.nodes.left.now c.in-None.ensures.cases in
    let before : measure_left c.nodes.above.items c.nodes.left.now ≡ measure_left (fs ++ (number, rest) ∷ []) [] =
    ap (λ b. measure_left b c.nodes.left.now) c.in-Some-pop.ensures.items ∙ ap (measure_left (fs ++ (number, rest) ∷ [])) none in
    subst (λ n. measure_left fs rest.now < n) (sym before) (turn_falls fs (number, rest))

pub nodes-preserved : goal.nodes-preserved
nodes-preserved g c = λ last more.
    let index = g.StorageT.StorageIndex.index in
    let facts = λ (x : g.row.LexemeT.Denot). facts_of index (g.LexemeT.Lexeme.parts x) in
    let contents = g.W.Write.contents in
    let grm = c.args.grm.now in
    let input = c.args.input.now in
    let parent = c.nodes.parent in
    let next = c.nodes.next in
    let fs = c.pop.new.self.items in
    let number = c.in-Some-pop.number in
    let rest = c.in-Some-pop.rest in
    let none = nil_from_length c.nodes.left.now c.in-None.ensures.cases in
    let before : left_lines facts index grm input parent next c.nodes.above.items c.nodes.left.now ≡ left_lines facts index grm input parent next (fs ++ (number, rest) ∷ []) [] =
    ap (λ b. left_lines facts index grm input parent next b c.nodes.left.now) c.in-Some-pop.ensures.items
    ∙ ap (left_lines facts index grm input parent next (fs ++ (number, rest) ∷ [])) none in
    c.nodes.invariant last (subst (Appends (contents c.nodes.out) last) (left_turn facts index grm input parent next fs (number, rest) ∙ sym before) more)
