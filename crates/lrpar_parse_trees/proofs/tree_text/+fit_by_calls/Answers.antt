use Rattle.std.proofs.Common.{arith}
use Rattle.lrpar_parse_trees.proofs.FitsLemmas.{below_left, fit, fit_level, fits_apart, others_left, refused, through, weights_apart}
use Rattle.lrpar_parse_trees.proofs.tree_text.+fit_by_calls.Goals as goal

pub returns-then-not-root_fits : goal.returns-then-not-root_fits
returns-then-not-root_fits g t c =
    let P = fit g.StorageT.StorageIndex.index g.LexemeT.Lexeme.parts c.args.grm.now c.args.input.now in
    refused c.root_fits.result c.if-not-root_fits.true (c.root_fits.ensures 1) (λ all.
    (fits_apart P (fit_level g.StorageT.StorageIndex.index g.LexemeT.Lexeme.parts c.args.grm.now c.args.input.now) c.in-Some.node.now c.in-Some.rest.now c.loop-node.nodes.now c.in-Some.ensures.cases.0 (c.loop-node.invariant.fits.1 all)).0)

pub returns-then-not-fit_by_calls : goal.returns-then-not-fit_by_calls
returns-then-not-fit_by_calls g t c =
    let P = fit g.StorageT.StorageIndex.index g.LexemeT.Lexeme.parts c.args.grm.now c.args.input.now in
    refused c.fit_by_calls.result c.if-not-fit_by_calls.true (rw c.children-below.ensures at c.fit_by_calls.ensures) (λ all.
    (fits_apart P (fit_level g.StorageT.StorageIndex.index g.LexemeT.Lexeme.parts c.args.grm.now c.args.input.now) c.in-Some.node.now c.in-Some.rest.now c.loop-node.nodes.now c.in-Some.ensures.cases.0 (c.loop-node.invariant.fits.1 all)).1)

pub loop-node-preserved-then-have_fewer_nodes : goal.loop-node-preserved-then-have_fewer_nodes
loop-node-preserved-then-have_fewer_nodes g t c =
    let P = fit g.StorageT.StorageIndex.index g.LexemeT.Lexeme.parts c.args.grm.now c.args.input.now in
    let below = rw c.children-below.ensures at (c.fit_by_calls.ensures.0 c.if-not-fit_by_calls.false) in
    let weighed = weights_apart c.in-Some.node.now c.in-Some.rest.now c.loop-node.nodes.now c.children-below.result.now c.in-Some.ensures.cases.0 c.children-below.ensures in
    record {
      fits = through (others_left P (fit_level g.StorageT.StorageIndex.index g.LexemeT.Lexeme.parts c.args.grm.now c.args.input.now) c.in-Some.node.now c.in-Some.rest.now c.loop-node.nodes.now c.in-Some.ensures.cases.0
          ((c.root_fits.ensures 1).0 c.if-not-root_fits.false) below) c.loop-node.invariant.fits;
      below = omega (arith, weighed, c.loop-node.invariant.below);
    }

pub returns-then-not-fit_by_calls-2 : goal.returns-then-not-fit_by_calls-2
returns-then-not-fit_by_calls-2 g t c =
    let P = fit g.StorageT.StorageIndex.index g.LexemeT.Lexeme.parts c.args.grm.now c.args.input.now in
    refused c.fit_by_calls-else-have_fewer_nodes.result c.if-not-fit_by_calls-2.true c.fit_by_calls-else-have_fewer_nodes.ensures (λ all.
    (fits_apart P (fit_level g.StorageT.StorageIndex.index g.LexemeT.Lexeme.parts c.args.grm.now c.args.input.now) c.in-Some.node.now c.in-Some.rest.now c.loop-node.nodes.now c.in-Some.ensures.cases.0 (c.loop-node.invariant.fits.1 all)).2)

pub loop-node-preserved : goal.loop-node-preserved
loop-node-preserved g t c =
    let P = fit g.StorageT.StorageIndex.index g.LexemeT.Lexeme.parts c.args.grm.now c.args.input.now in
    let after = c.fit_by_calls-else-have_fewer_nodes.ensures.0 c.if-not-fit_by_calls-2.false in
    let weighed = weights_apart c.in-Some.node.now c.in-Some.rest.now c.loop-node.nodes.now c.children-below.result.now c.in-Some.ensures.cases.0 c.children-below.ensures in
    record {
      fits = rw c.children-below.ensures (through (below_left P (fit_level g.StorageT.StorageIndex.index g.LexemeT.Lexeme.parts c.args.grm.now c.args.input.now) c.in-Some.node.now c.in-Some.rest.now c.loop-node.nodes.now c.in-Some.ensures.cases.0
          ((c.root_fits.ensures 1).0 c.if-not-root_fits.false) after) c.loop-node.invariant.fits);
      below = omega (arith, weighed, c.loop-node.invariant.below);
    }
