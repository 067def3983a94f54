use Rattle.std.proofs.Common.{◌≡◌, ◌∙◌, ◌-◌, Some, length, ap, arith, sym}
use Rattle.std.specs.List.{slice_get}
use Rattle.std.specs.Option.{option_copied}
use Rattle.std.proofs.lemmas.Option.{get_or_from_slice_get, slice_get_within}
use Rattle.lrpar_grammar_places.specs.Span.{Extent, nowhere}
use Rattle.lrpar_parse_lexemes.specs.PlacedSpans.{span_over}
use Rattle.lrpar_parse_run.specs.RunStack.{below_top, on_top}
use Rattle.lrpar_parse_flat_trees.specs.Flat.{list_span, trees_of}
use Rattle.lrpar_parse_flat_trees.specs.Growing.{list_spans}
use Rattle.lrpar_parse_flat_trees.proofs.GrowingLemmas.{last_node_span, same_extent, some_trees, span_before_none, span_read}
use Rattle.lrpar_parse_flat_trees.proofs.growing.span_after.Goals as goal

pub new-requires : goal.new-requires
new-requires g c =
    let read = span_read c.args.count c.requires.rise.0 c.args.nodes.now c.args.rest.now c.index-nodes-rest.result c.index-nodes-nodes.result
    c.requires.flat c.requires.below c.requires.rise.1 c.if-rest-nodes.true c.index-nodes-rest.is c.index-nodes-nodes.is in
    let first = ap (λ (s : Extent). s.start) c.span.ensures in
    let last = ap (λ (s : Extent). s.start) c.span-then-rest-nodes.ensures in
    omega (arith, c.start.ensures.start, first, read.later, last, c.end.ensures.ordered, c.end.ensures.end)

pub returns-then-rest-nodes : goal.returns-then-rest-nodes
returns-then-rest-nodes g c =
    let nodes = c.args.nodes.now in
    let before = list_span nowhere (below_top c.args.count (trees_of nodes)) in
    let read = span_read c.args.count c.requires.rise.0 nodes c.args.rest.now c.index-nodes-rest.result c.index-nodes-nodes.result
    c.requires.flat c.requires.below c.requires.rise.1 c.if-rest-nodes.true c.index-nodes-rest.is c.index-nodes-nodes.is in
    same_extent c.new.result (span_over before (list_spans before (on_top c.args.count (trees_of nodes))))
    (c.new.ensures.start ∙ c.start.ensures.start ∙ ap (λ (s : Extent). s.start) c.span.ensures ∙ sym read.start)
    (c.new.ensures.end ∙ c.end.ensures.end ∙ ap (λ (s : Extent). s.end) c.span-then-rest-nodes.ensures ∙ sym read.end)

pub returns-in-Some : goal.returns-in-Some
returns-in-Some g c =
    let rest = c.args.rest.now in
    let last = c.in-Some.last.now in
    let read : slice_get rest (length rest - 1) ≡ Some last = sym c.last.ensures.value ∙ ap (λ o. option_copied o) c.in-Some.is in
    let within = slice_get_within rest (length rest - 1) last read in
    let some = some_trees rest c.requires.below.flat (omega (arith, within)) in
    c.span-in-Some.ensures
    ∙ last_node_span rest last c.requires.below.flat some (sym (get_or_from_slice_get rest (length rest - 1) last last read))
    ∙ span_before_none c.args.count c.args.nodes.now rest c.requires.flat c.requires.below (omega (arith, c.if-rest-nodes.false))
