use Rattle.std.proofs.Common.{[], Some, Ok, refl, sym, ◌∙◌}
use Rattle.std.proofs.Debugs.{displays_from}
use Rattle.std.proofs.lemmas.List.{nil_from_length}
use Rattle.std.specs.Fmt.{◌++?◌, comma_space, debug_items}
use Rattle.lrpar_parse_trees.specs.Shown.{shown, shown_end, shown_lexeme, shown_rule}
use Rattle.lrpar_parse_trees.proofs.FitsLemmas.{entered_falls, turned_falls}
use Rattle.lrpar_parse_trees.proofs.WalkLemmas.{children_nonterm}
use Rattle.lrpar_parse_trees.proofs.ShownLemmas.{continues_last, continues_then, continues_two, left_end, left_last, left_nonterm, left_shown, left_term}
use Rattle.lrpar_parse_trees.proofs.node.shown.write_nodes.Goals as goal

pub loop-node-preserved-in-Term : goal.loop-node-preserved-in-Term
unfolding lib.Utf8.encode
loop-node-preserved-in-Term g c =
    let took = g.W.Write.write_str_gives in
    let lexeme = g.LexemeT.Debug.debug_output in
    let number = g.StorageT.Debug.debug_output in
    let text = shown lexeme number in
    let mark = c.loop-node.mark.now in
    let rest = c.in-Some.rest.now in
    let nodes = c.loop-node.nodes.now in
    let left = c.loop-node.left.items in (
      (comma_space, (refl, refl)),
      continues_two took c.args.f.now c.loop-node.f c.write_mark.new.f c.write_lexeme.new.f (Ok c.in_ok-write_mark-in-Some.field-0)
          (Ok c.in_ok-write_lexeme-in-Term.field-0) (debug_items text [] c.args.nodes.now ++? shown_end) (left_shown text mark nodes left) (Some mark)
          (shown_lexeme (lexeme c.in-Term.lexeme)) (left_shown text comma_space rest left)
          (left_term lexeme number mark c.in-Some.node.now c.in-Term.lexeme rest nodes left c.in-Some.ensures.cases.0 c.in-Term.is)
          c.in_ok-write_mark-in-Some.ensures refl c.in_ok-write_lexeme-in-Term.ensures refl c.loop-node.invariant.1,
    )

pub loop-node-smaller-in-Nonterm : goal.loop-node-smaller-in-Nonterm
loop-node-smaller-in-Nonterm g c =
    entered_falls c.loop-node.left.items c.push.new.self.items c.in-Some.rest c.in-Some.node.now c.loop-node.nodes.now c.deref-nodes.result.now c.in-Some.ensures.cases.0
    c.in-Ok.ensures.items (c.deref-nodes.ensures.value ∙ sym (children_nonterm c.in-Some.node.now c.in-Nonterm.ridx c.in-Nonterm.below c.in-Nonterm.is))

pub loop-node-preserved-in-Nonterm : goal.loop-node-preserved-in-Nonterm
loop-node-preserved-in-Nonterm g c =
    let took = g.W.Write.write_str_gives in
    let lexeme = g.LexemeT.Debug.debug_output in
    let number = g.StorageT.Debug.debug_output in
    let text = shown lexeme number in
    let mark = c.loop-node.mark.now in
    let nodes = c.loop-node.nodes.now in
    let left = c.loop-node.left.items in (
      ([], (refl, refl)),
      continues_two took c.args.f.now c.loop-node.f c.write_mark.new.f c.write_rule.new.f (Ok c.in_ok-write_mark-in-Some.field-0)
          (Ok c.in_ok-write_rule-in-Nonterm.field-0) (debug_items text [] c.args.nodes.now ++? shown_end) (left_shown text mark nodes left) (Some mark)
          (shown_rule (number c.in-Nonterm.ridx.0)) (left_shown text [] c.deref-nodes.result.now c.push.new.self.items)
          (left_nonterm lexeme number mark c.in-Some.node.now c.in-Nonterm.ridx c.in-Nonterm.below c.in-Some.rest nodes c.deref-nodes.result.now left
          c.push.new.self.items c.in-Some.ensures.cases.0 c.in-Nonterm.is c.deref-nodes.ensures.value c.in-Ok.ensures.items)
          c.in_ok-write_mark-in-Some.ensures refl c.in_ok-write_rule-in-Nonterm.ensures refl c.loop-node.invariant.1,
    )

pub returns-in-None-pop : goal.returns-in-None-pop
returns-in-None-pop g c =
    let took = g.W.Write.write_str_gives in
    let text = shown g.LexemeT.Debug.debug_output g.StorageT.Debug.debug_output in
    let whole = debug_items text [] c.args.nodes.now ++? shown_end in
    let mark = c.loop-node.mark.now in
    let nodes = c.loop-node.nodes.now in
    let left = c.loop-node.left.items in
    let empty = nil_from_length left (sym c.loop-node.left.ok.0 ∙ c.in-None-pop.ensures.cases.0) in
    displays_from took c.args.f.now c.write_str.new.self (Ok tt) whole (λ plain ok.
    continues_last took c.args.f.now c.loop-node.f c.write_str.new.self whole (left_shown text mark nodes left) shown_end
    (left_last text mark nodes left (nil_from_length nodes c.in-None.ensures.cases) empty)
    (λ p. c.in_ok-write_str-in-None.ensures.writes p refl) c.loop-node.invariant.1 plain)

pub loop-node-smaller : goal.loop-node-smaller
loop-node-smaller g c =
    turned_falls c.pop.new.self.items c.loop-node.left.items c.in-Some-pop.rest c.loop-node.nodes.now c.in-None.ensures.cases c.in-Some-pop.ensures.items

pub loop-node-preserved : goal.loop-node-preserved
unfolding lib.Utf8.encode
loop-node-preserved g c =
    let took = g.W.Write.write_str_gives in
    let text = shown g.LexemeT.Debug.debug_output g.StorageT.Debug.debug_output in
    let mark = c.loop-node.mark.now in
    let nodes = c.loop-node.nodes.now in
    let rest = c.in-Some-pop.rest in
    let left = c.pop.new.self.items in (
      (comma_space, (refl, refl)),
      continues_then took c.args.f.now c.loop-node.f c.write_str.new.self (Ok c.in_ok-write_str-in-None.field-0)
          (debug_items text [] c.args.nodes.now ++? shown_end) (left_shown text mark nodes c.loop-node.left.items) shown_end
          (left_shown text comma_space rest.now left)
          (left_end text mark nodes rest left c.loop-node.left.items (nil_from_length nodes c.in-None.ensures.cases) c.in-Some-pop.ensures.items)
          c.in_ok-write_str-in-None.ensures.writes refl c.loop-node.invariant.1,
    )
