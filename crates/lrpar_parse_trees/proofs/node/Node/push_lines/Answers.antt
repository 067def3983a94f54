use Rattle.std.proofs.Common.{◌≡◌, ◌+◌, ◌++◌, [], ◌∷◌, length, append-nil, ap, sym, ◌∙◌, subst}
use Rattle.std.specs.List.{AllByRecursion, flat_map}
use Rattle.std.specs.String.{string_bytes}
use Rattle.lrpar_parse_trees.specs.TreeText.{root_at, all_met}
use Rattle.lrpar_parse_trees.specs.Walks.{children}
use Rattle.lrpar_grammar_places.proofs.FaultLemmas.{nothing_done}
use Rattle.lrpar_parse_trees.proofs.FitsLemmas.{fit, line_of}
use Rattle.lrpar_parse_trees.proofs.TreeTextLemmas.{fit_below, fit_enter, fit_first, fit_root, left_falls, left_turned, text_begins, text_ends, text_enter, turn_falls}
use Rattle.lrpar_parse_trees.proofs.node.Node.push_lines.Goals as goal

pub loop-node-init : goal.loop-node-init
loop-node-init g c =
    let P = fit g.StorageT.StorageIndex.index g.LexemeT.Lexeme.parts c.args.grm.now c.args.input.now in
    let line = line_of g.StorageT.StorageIndex.index g.LexemeT.Lexeme.parts c.args.grm.now c.args.input.now in
    let self = c.args.self.now in
    record {
      fits = rw (c.requires.below, c.children-left.ensures, append-nil (all_met (0 + 1) (children self))) (fit_below P self 0 c.requires.fits);
      whole = rw (c.requires.below, c.children-left.ensures)
          (text_begins line self (string_bytes c.push_line.new.out) (c.in_ok-push_line.ensures ∙ ap (λ o. o ++ line (root_at 0 self)) c.requires.out));
    }

pub loop-node-smaller-in-Some : goal.loop-node-smaller-in-Some
loop-node-smaller-in-Some g c =
    left_falls c.loop-node.below.items c.push.new.self.items c.in-Some.rest c.in-Some.node.now c.loop-node.left.now c.children-left-in-Some.result.now
    c.in-Some.ensures.cases.0 c.in_ok-push-in-Some.ensures.items c.children-left-in-Some.ensures

pub loop-node-preserved-in-Some : goal.loop-node-preserved-in-Some
loop-node-preserved-in-Some g c =
    let P = fit g.StorageT.StorageIndex.index g.LexemeT.Lexeme.parts c.args.grm.now c.args.input.now in
    let line = line_of g.StorageT.StorageIndex.index g.LexemeT.Lexeme.parts c.args.grm.now c.args.input.now in
    let below = c.loop-node.below.items in
    let rest = c.in-Some.rest in
    let node = c.in-Some.node.now in
    let entered = fit_enter P below rest node c.loop-node.left.now c.in-Some.ensures.cases.0 c.loop-node.invariant.fits in
    let level : c.len.result ≡ length (below ++ rest ∷ []) = c.len.ensures ∙ c.push.new.self.ok.0 ∙ ap length c.in_ok-push-in-Some.ensures.items in
    record {
      fits = rw (c.in_ok-push-in-Some.ensures.items, c.children-left-in-Some.ensures) entered.1;
      whole = rw (c.in_ok-push-in-Some.ensures.items, c.children-left-in-Some.ensures)
          (text_enter line below rest node c.loop-node.left.now (string_bytes c.loop-node.out) (string_bytes c.push_line-in-Some.new.out) c.in-Some.ensures.cases.0
          (c.in_ok-push_line-in-Some.ensures ∙ ap (λ n. string_bytes c.loop-node.out ++ line (root_at n node)) level) ∙ c.loop-node.invariant.whole);
    }

pub loop-node-smaller : goal.loop-node-smaller
loop-node-smaller g c =
    turn_falls c.pop.new.self.items c.loop-node.below.items c.in-Some-pop.rest c.loop-node.left.now c.in-None.ensures.cases c.in-Some-pop.ensures.items

pub loop-node-preserved : goal.loop-node-preserved
loop-node-preserved g c =
    let P = fit g.StorageT.StorageIndex.index g.LexemeT.Lexeme.parts c.args.grm.now c.args.input.now in
    let line = line_of g.StorageT.StorageIndex.index g.LexemeT.Lexeme.parts c.args.grm.now c.args.input.now in
    let same =
    left_turned c.pop.new.self.items c.loop-node.below.items c.in-Some-pop.rest c.loop-node.left.now c.in-None.ensures.cases c.in-Some-pop.ensures.items in
    record {
      fits = subst (AllByRecursion P) same c.loop-node.invariant.fits;
      whole = sym (ap (λ ms. string_bytes c.loop-node.out ++ flat_map line ms) same) ∙ c.loop-node.invariant.whole;
    }

pub push_line-requires : goal.push_line-requires
push_line-requires g c =
    fit_root (fit g.StorageT.StorageIndex.index g.LexemeT.Lexeme.parts c.args.grm.now c.args.input.now)
    c.args.self.now 0 c.requires.fits

pub push_line-requires-in-Some : goal.push_line-requires-in-Some
push_line-requires-in-Some g c =
    fit_first (fit g.StorageT.StorageIndex.index g.LexemeT.Lexeme.parts c.args.grm.now c.args.input.now)
    c.loop-node.below.items c.push.new.self.items c.in-Some.rest c.in-Some.node.now c.loop-node.left.now c.len.result c.in-Some.ensures.cases.0
    c.in_ok-push-in-Some.ensures.items (c.len.ensures ∙ c.push.new.self.ok.0) c.loop-node.invariant.fits

pub returns-in_err-push_line : goal.returns-in_err-push_line
returns-in_err-push_line g c = nothing_done c.from_residual.result _ _ c.from_residual.ensures.1

pub returns-in_err-push-in-Some : goal.returns-in_err-push-in-Some
returns-in_err-push-in-Some g c = nothing_done c.from_residual-in_err-push-in-Some.result _ _ c.from_residual-in_err-push-in-Some.ensures.1

pub returns-in_err-push_line-in-Some : goal.returns-in_err-push_line-in-Some
returns-in_err-push_line-in-Some g c = nothing_done c.from_residual-in_err-push_line-in-Some.result _ _ c.from_residual-in_err-push_line-in-Some.ensures.1

pub returns-in-None-pop : goal.returns-in-None-pop
returns-in-None-pop g c =
    text_ends
    (line_of g.StorageT.StorageIndex.index g.LexemeT.Lexeme.parts c.args.grm.now c.args.input.now)
    c.loop-node.below.items c.loop-node.left.now (string_bytes c.loop-node.out) _ c.in-None.ensures.cases
    (sym c.loop-node.below.ok.0 ∙ c.in-None-pop.ensures.cases.0) c.loop-node.invariant.whole
