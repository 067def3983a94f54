use Rattle.std.proofs.Common.{◌≤◌, ◌∙◌, ◌∷◌, [], length, arith, ap, take}
use Rattle.std.proofs.lemmas.List.{map-append, take_all}
use Rattle.lrpar_grammar_places.specs.declared.span.StIdx.{StIdx}
use Rattle.lrpar_table_stacks.specs.Overlay.{overlaid}
use Rattle.lrpar_table_stacks.specs.Stack.{states_of}
use Rattle.lrpar_parse.proofs.ExpectedLemmas.{copied_more, copied_none}
use Rattle.lrpar_parse.proofs.expected.copy_above.Goals as goal

pub loop-at-init : goal.loop-at-init
loop-at-init g c =
    let index = g.StorageT.StorageIndex.index in
    let o = c.args.overlay.now in
    let within : o.kept ≤ length o.base = omega (arith, c.kept-at.ensures.kept, c.kept-at.ensures.within) in
    copied_none o.base o.tail (states_of index c.clear.new.self.items) o.kept c.kept-at.result within c.kept-at.ensures.kept
    (ap (states_of index) c.clear.ensures.items)

pub loop-at-preserved : goal.loop-at-preserved
loop-at-preserved g c =
    let index = g.StorageT.StorageIndex.index in
    let o = c.args.overlay.now in
    let number = λ (x : StIdx g.row.StorageT.Denot). index x.0 in
    let put =
    ap (states_of index) c.in_ok-push.ensures.items ∙ map-append number c.loop-at.above.items (c.state_at.result ∷ []) in
    copied_more (overlaid o) (take o.kept o.base) (states_of index c.loop-at.above.items) (states_of index c.push.new.self.items) c.loop-at.at
    (index c.state_at.result.0) c.loop-at.invariant put c.state_at.ensures

pub returns : goal.returns
returns g c =
    let s = overlaid c.args.overlay.now in
    c.loop-at.invariant ∙ take_all c.loop-at.at s (omega (arith, c.loop-at-test.false, c.len-at-end.ensures))
