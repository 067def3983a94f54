use Rattle.std.proofs.Common.{ap, get_or, refl, subst, ◌∙◌}
use Rattle.lrpar_lexer.specs.Marks.{AddsMarks}
use Rattle.lrpar_lexer.proofs.WalkLemmas.{empty_of_test, some_of_test}
use Rattle.lrpar_lexer.proofs.MarkLemmas.{marked_empty, marked_finish, marked_first, marked_step, marked_stop}
use Rattle.lrpar_lexer.proofs.marks.mark_met.Goals as goal

pub returns-then-is_empty : goal.returns-then-is_empty
returns-then-is_empty c =
    marked_empty c.args.tree.now.nodes.items c.args.rest.now c.args.marks.now.items
    (empty_of_test c.as_bytes-bytes.result.now c.args.rest.now c.is_empty.result c.as_bytes-bytes.ensures.value c.is_empty.ensures c.if-is_empty.true)

pub walk-init : goal.walk-init
walk-init c =
    let rest = c.args.rest.now in
    let bytes = c.as_bytes-bytes.result.now in
    record {
      within = c.first-node.ensures.within;
      marked = marked_first c.args.tree.now.nodes.items rest c.first-node.result c.args.marks.now.items c.mark_rules.new.marks.items
          (some_of_test bytes rest c.is_empty.result c.as_bytes-bytes.ensures.value c.is_empty.ensures c.if-is_empty.false)
          (c.first-node.ensures.first ∙ ap (λ l. get_or l 0 0) c.as_bytes-bytes.ensures.value)
          (subst (λ rs. AddsMarks rs c.args.marks.now.items c.mark_rules.new.marks.items) c.rules.ensures c.mark_rules.ensures);
    }

pub walk-preserved : goal.walk-preserved
walk-preserved c =
    record {
      within = c.in-Some.ensures.within;
      marked = marked_step c.args.tree.now.nodes.items c.args.rest.now c.as_bytes-bytes.result.now c.walk.byte-index c.walk.node _ c.in-Some.next
          c.walk.marks.items c.mark_rules-in-walk.new.marks.items c.as_bytes-bytes.ensures.value c.walk-test.true refl c.in-Some.ensures.next
          (subst (λ rs. AddsMarks rs c.walk.marks.items c.mark_rules-in-walk.new.marks.items) c.rules-in-walk.ensures c.mark_rules-in-walk.ensures)
          c.walk.invariant.marked;
    }

pub returns-in_default : goal.returns-in_default
returns-in_default c =
    marked_stop c.args.tree.now.nodes.items c.args.rest.now c.as_bytes-bytes.result.now c.walk.byte-index c.walk.node _ c.walk.marks.items
    c.as_bytes-bytes.ensures.value c.walk-test.true refl c.in_default.ensures.next c.walk.invariant.marked

pub returns : goal.returns
returns c =
    marked_finish c.args.tree.now.nodes.items c.args.rest.now c.as_bytes-bytes.result.now c.walk.byte-index c.walk.node c.walk.marks.items
    c.as_bytes-bytes.ensures.value c.walk-test.false c.walk.invariant.marked
