use Rattle.std.proofs.Common.{◌≡◌, ◌++◌, [], ◌∷◌, length, ap, refl, sym, ◌∙◌, subst}
use Rattle.std.specs.List.{AllByRecursion, flat_map}
use Rattle.std.specs.Io.KnownBytes.{Appends}
use Rattle.std.specs.String.{string_bytes}
use Rattle.lrpar_parse_trees.specs.TreeText.{met_from, root_at}
use Rattle.lrpar_parse_trees.specs.Walks.{children}
use Rattle.lrpar_grammar_places.proofs.FaultLemmas.{nothing_done}
use Rattle.lrpar_parse_trees.proofs.FitsLemmas.{fit, line_of}
use Rattle.lrpar_parse_trees.proofs.TreeTextLemmas.{fit_begins, fit_left, fit_none, left_none, text_begins, text_enter, left_falls, left_met, left_turned, turn_falls}
use Rattle.lrpar_parse_trees.proofs.IndentLemmas.{indent_less, shorter, spaces_alone}
use Rattle.lrpar_parse_trees.proofs.WriteLemmas.{appends_both, appends_nothing}
use Rattle.lrpar_parse_trees.proofs.node.Node.write_lines.Goals as goal

pub loop-node-init : goal.loop-node-init
loop-node-init g c =
    let line = line_of g.StorageT.StorageIndex.index g.LexemeT.Lexeme.parts c.args.grm.now c.args.input.now in
    let self = c.args.self.now in
    let contents = g.W.Write.contents in
    let whole : line (root_at 0 self) ++ flat_map line (left_met [] (children self)) ≡ flat_map line (met_from self 0) =
    text_begins line self (line (root_at 0 self)) refl in
    let none : length (string_bytes c.args.line.now) ≡ 0 = ap length c.requires.line in
    let first = rw none at c.in_ok-write_line.ensures.text in
    record {
      text = λ last more.
          let rest : Appends (contents c.write_line.new.out) last (flat_map line (left_met [] (children self))) =
          (rw (c.requires.below, c.children-left.ensures) at more) in
          subst (Appends (contents c.args.out.now) last) whole
          (appends_both (contents c.args.out.now) (contents c.write_line.new.out) last (line (root_at 0 self)) (flat_map line (left_met [] (children self)))
          first rest);
      fits = λ all.
          fit_begins (fit g.StorageT.StorageIndex.index g.LexemeT.Lexeme.parts c.args.grm.now c.args.input.now) self (rw none at c.in_ok-write_line.ensures.fits) (rw (c.requires.below, c.children-left.ensures) at all);
      indent = rw c.requires.below refl;
    }

pub loop-node-smaller-in-Some : goal.loop-node-smaller-in-Some
loop-node-smaller-in-Some g c =
    left_falls c.loop-node.below.items c.write_child.new.below.items c.in-Some.rest c.in-Some.node.now c.loop-node.left.now c.children-left-in-Some.result.now
    c.in-Some.ensures.cases.0 c.in_ok-write_child-in-Some.ensures.rest c.children-left-in-Some.ensures

pub loop-node-preserved-in-Some : goal.loop-node-preserved-in-Some
loop-node-preserved-in-Some g c =
    let line = line_of g.StorageT.StorageIndex.index g.LexemeT.Lexeme.parts c.args.grm.now c.args.input.now in
    let contents = g.W.Write.contents in
    let below = c.loop-node.below.items in
    let rest = c.in-Some.rest in
    let node = c.in-Some.node.now in
    let inner = left_met (below ++ rest ∷ []) (children node) in
    let here = line (root_at (length c.write_child.new.below.items) node) in
    let met = fit g.StorageT.StorageIndex.index g.LexemeT.Lexeme.parts c.args.grm.now c.args.input.now in
    let level : length c.write_child.new.below.items ≡ length (below ++ rest ∷ []) = ap length c.in_ok-write_child-in-Some.ensures.rest in
    let whole : here ++ flat_map line inner ≡ flat_map line (left_met below c.loop-node.left.now) =
    text_enter line below rest node c.loop-node.left.now [] here c.in-Some.ensures.cases.0 (ap (λ n. line (root_at n node)) level) in
    record {
      text = λ last more.
          let after : Appends (contents c.write_child.new.out) last (flat_map line inner) =
          (rw (c.in_ok-write_child-in-Some.ensures.rest, c.children-left-in-Some.ensures) at more) in
          c.loop-node.invariant.text last (subst (Appends (contents c.loop-node.out) last) whole
          (appends_both (contents c.loop-node.out) (contents c.write_child.new.out) last here (flat_map line inner) c.in_ok-write_child-in-Some.ensures.text after));
      fits = λ all.
          c.loop-node.invariant.fits (fit_left met below rest node c.loop-node.left.now c.in-Some.ensures.cases.0
          (rw level at c.in_ok-write_child-in-Some.ensures.fits) (rw (c.in_ok-write_child-in-Some.ensures.rest, c.children-left-in-Some.ensures) at all));
      indent = c.in_ok-write_child-in-Some.ensures.indent;
    }

pub write_line-requires : goal.write_line-requires
write_line-requires g c = spaces_alone (string_bytes c.args.line.now) 0 c.requires.line

pub loop-node-smaller : goal.loop-node-smaller
loop-node-smaller g c =
    turn_falls c.pop.new.self.items c.loop-node.below.items c.in-Some-pop.rest c.loop-node.left.now c.in-None.ensures.cases c.in-Some-pop.ensures.items

pub loop-node-preserved : goal.loop-node-preserved
loop-node-preserved g c =
    let line = line_of g.StorageT.StorageIndex.index g.LexemeT.Lexeme.parts c.args.grm.now c.args.input.now in
    let contents = g.W.Write.contents in
    let same =
    left_turned c.pop.new.self.items c.loop-node.below.items c.in-Some-pop.rest c.loop-node.left.now c.in-None.ensures.cases c.in-Some-pop.ensures.items in
    record {
      text = λ last more. c.loop-node.invariant.text last (subst (λ ms. Appends (contents c.loop-node.out) last (flat_map line ms)) (sym same) more);
      fits = λ all. c.loop-node.invariant.fits (subst (AllByRecursion (fit g.StorageT.StorageIndex.index g.LexemeT.Lexeme.parts c.args.grm.now c.args.input.now)) (sym same) all);
      indent = indent_less (string_bytes c.loop-node.line) (length c.pop.new.self.items) (length c.loop-node.below.items)
          (shorter c.loop-node.below.items c.pop.new.self.items c.in-Some-pop.rest c.in-Some-pop.ensures.items) c.loop-node.invariant.indent;
    }

pub returns-in_err-write_line-clause-text : goal.returns-in_err-write_line-clause-text
returns-in_err-write_line-clause-text g c = nothing_done c.from_residual.result _ _ c.from_residual.ensures.1

pub returns-in_err-write_line-clause-fits : goal.returns-in_err-write_line-clause-fits
returns-in_err-write_line-clause-fits g c = nothing_done c.from_residual.result _ _ c.from_residual.ensures.1

pub returns-in_err-write_child-in-Some-clause-text : goal.returns-in_err-write_child-in-Some-clause-text
returns-in_err-write_child-in-Some-clause-text g c = nothing_done c.from_residual-in_err-write_child-in-Some.result _ _ c.from_residual-in_err-write_child-in-Some.ensures.1

pub returns-in_err-write_child-in-Some-clause-fits : goal.returns-in_err-write_child-in-Some-clause-fits
returns-in_err-write_child-in-Some-clause-fits g c = nothing_done c.from_residual-in_err-write_child-in-Some.result _ _ c.from_residual-in_err-write_child-in-Some.ensures.1

pub returns-in-None-pop-clause-text : goal.returns-in-None-pop-clause-text
returns-in-None-pop-clause-text g c =
    c.loop-node.invariant.text (g.W.Write.contents c.loop-node.out)
    (appends_nothing (g.W.Write.contents c.loop-node.out) _
    (ap (flat_map (line_of g.StorageT.StorageIndex.index g.LexemeT.Lexeme.parts c.args.grm.now c.args.input.now))
    (left_none c.loop-node.below.items c.loop-node.left.now c.in-None.ensures.cases (sym c.loop-node.below.ok.0 ∙ c.in-None-pop.ensures.cases.0))))

pub returns-in-None-pop-clause-fits : goal.returns-in-None-pop-clause-fits
returns-in-None-pop-clause-fits g c =
    c.loop-node.invariant.fits
    (fit_none (fit g.StorageT.StorageIndex.index g.LexemeT.Lexeme.parts c.args.grm.now c.args.input.now)
    c.loop-node.below.items c.loop-node.left.now c.in-None.ensures.cases (sym c.loop-node.below.ok.0 ∙ c.in-None-pop.ensures.cases.0))
