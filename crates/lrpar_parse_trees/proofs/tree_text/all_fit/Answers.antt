use Rattle.std.proofs.Common.{◌++◌, length, ap}
use Rattle.std.proofs.lemmas.List.{nil_from_length}
use Rattle.lrpar_parse_trees.specs.Walks.{children}
use Rattle.lrpar_parse_trees.proofs.WeightLemmas.{weights_skip}
use Rattle.lrpar_parse_trees.proofs.FitsLemmas.{entered_falls, enters, fit, fit_level, fit_parts, fits_enter, later_trees, later_trees_push, passes_over, refused, through, turned_falls, weights_below}
use Rattle.lrpar_parse_trees.proofs.tree_text.all_fit.Goals as goal

pub returns-then-not-root_fits : goal.returns-then-not-root_fits
returns-then-not-root_fits g c =
    let P = fit g.StorageT.StorageIndex.index g.LexemeT.Lexeme.parts c.args.grm.now c.args.input.now in
    refused c.root_fits.result c.if-not-root_fits.true (c.root_fits.ensures 1) (λ all.
    (fits_enter P (fit_level g.StorageT.StorageIndex.index g.LexemeT.Lexeme.parts c.args.grm.now c.args.input.now) c.in-Some.node.now c.in-Some.rest.now c.loop-node.nodes.now (later_trees c.loop-node.left.items) c.in-Some.ensures.cases.0
    (c.loop-node.invariant.1 all)).0)

pub returns-then-not-fit_by_calls : goal.returns-then-not-fit_by_calls
returns-then-not-fit_by_calls g c =
    let P = fit g.StorageT.StorageIndex.index g.LexemeT.Lexeme.parts c.args.grm.now c.args.input.now in
    let later = later_trees c.loop-node.left.items in
    refused c.fit_by_calls.result c.if-not-fit_by_calls.true (rw c.children.ensures at c.fit_by_calls.ensures) (λ all.
    (fit_parts P (children c.in-Some.node.now) (c.in-Some.rest.now ++ later)
    (fits_enter P (fit_level g.StorageT.StorageIndex.index g.LexemeT.Lexeme.parts c.args.grm.now c.args.input.now) c.in-Some.node.now c.in-Some.rest.now c.loop-node.nodes.now later c.in-Some.ensures.cases.0 (c.loop-node.invariant.1 all)).1).0)

pub loop-node-smaller-in-Ok : goal.loop-node-smaller-in-Ok
loop-node-smaller-in-Ok g c =
    entered_falls c.loop-node.left.items c.push.new.self.items c.in-Some.rest c.in-Some.node.now c.loop-node.nodes.now c.children-nodes.result.now
    c.in-Some.ensures.cases.0 c.in-Ok.ensures.items c.children-nodes.ensures

pub loop-node-preserved-in-Ok : goal.loop-node-preserved-in-Ok
loop-node-preserved-in-Ok g c =
    let P = fit g.StorageT.StorageIndex.index g.LexemeT.Lexeme.parts c.args.grm.now c.args.input.now in
    rw (c.in-Ok.ensures.items, later_trees_push, c.children-nodes.ensures) (through
    (enters P (fit_level g.StorageT.StorageIndex.index g.LexemeT.Lexeme.parts c.args.grm.now c.args.input.now) c.in-Some.node.now c.in-Some.rest.now c.loop-node.nodes.now (later_trees c.loop-node.left.items) c.in-Some.ensures.cases.0
    ((c.root_fits.ensures 1).0 c.if-not-root_fits.false))
    c.loop-node.invariant)

pub loop-node-smaller-in-Err : goal.loop-node-smaller-in-Err
loop-node-smaller-in-Err g c =
    let rest = c.in-Some.rest.now in
    let later = later_trees c.loop-node.left.items in
    weights_skip _ rest later (later_trees c.push.new.self.items) _ _ _
    (weights_below c.in-Some.node.now rest c.loop-node.nodes.now later c.in-Some.ensures.cases.0) (ap later_trees c.in-Err.ensures.items) (ap length c.in-Err.ensures.items)

pub loop-node-preserved-in-Err : goal.loop-node-preserved-in-Err
loop-node-preserved-in-Err g c =
    let P = fit g.StorageT.StorageIndex.index g.LexemeT.Lexeme.parts c.args.grm.now c.args.input.now in
    let below = rw c.children.ensures at (c.fit_by_calls.ensures.0 c.if-not-fit_by_calls.false) in
    rw c.in-Err.ensures.items (through
    (passes_over P (fit_level g.StorageT.StorageIndex.index g.LexemeT.Lexeme.parts c.args.grm.now c.args.input.now) c.in-Some.node.now c.in-Some.rest.now c.loop-node.nodes.now (later_trees c.loop-node.left.items) c.in-Some.ensures.cases.0
    ((c.root_fits.ensures 1).0 c.if-not-root_fits.false) below)
    c.loop-node.invariant)

pub loop-node-smaller : goal.loop-node-smaller
loop-node-smaller g c =
    turned_falls c.pop.new.self.items c.loop-node.left.items c.in-Some-pop.rest c.loop-node.nodes.now c.in-None.ensures.cases c.in-Some-pop.ensures.items

pub loop-node-preserved : goal.loop-node-preserved
loop-node-preserved g c =
    let none = nil_from_length c.loop-node.nodes.now c.in-None.ensures.cases in
    rw (none, c.in-Some-pop.ensures.items, later_trees_push) at c.loop-node.invariant
