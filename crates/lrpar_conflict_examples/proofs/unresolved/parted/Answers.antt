use Rattle.std.proofs.Common.{◌∙◌, sym, ap, filter, map}
use Rattle.std.proofs.lemmas.List.{take_all}
use Rattle.lrpar_table_build.specs.BuilderLaws.{lists_in}
use Rattle.lrpar_conflict_examples.specs.Conflicts.{unmet_in, unmet_of}
use Rattle.lrpar_conflict_examples.specs.Met.{is_unresolved, marked_ones, other_ones}
use Rattle.lrpar_conflict_examples.proofs.LeftLemmas.{all_left, none_left, none_parted, one_met, one_unmet}
use Rattle.lrpar_conflict_examples.proofs.unresolved.parted.Goals as goal
use Rattle.lrpar_conflict_examples.proofs.unresolved.parted.Goals.{then-is_unresolved+then-is_met+in_ok-push, then-is_unresolved+else-is_met+in_ok-push-2, else-is_unresolved}

pub loop-conflict-init : goal.loop-conflict-init
loop-conflict-init g c =
    none_parted (unmet_of g.StorageT.StorageIndex.index) c.args.marks.now c.args.precedences.now c.deref-conflict-items.result.now c.new-met.result.items
    c.new-unmet.result.items c.new-met.ensures.items c.new-unmet.ensures.items

pub loop-conflict-preserved : goal.loop-conflict-preserved
loop-conflict-preserved g c =
    let shown = unmet_of g.StorageT.StorageIndex.index in
    let p = c.args.precedences.now in
    let marks = c.args.marks.now in
    let items = c.deref-conflict-items.result.now in
    let i = c.loop-conflict.conflict-index in
    let x = c.conflict-item.result in
    let low = c.loop-conflict-test.true in
    let first = c.loop-conflict.invariant.0 in
    let second = c.loop-conflict.invariant.1 in
    let met = c.if-is_unresolved.met.items in
    let unmet = c.if-is_unresolved.unmet.items in
    elim c.if-is_unresolved.branch [
      | then-is_unresolved+then-is_met+in_ok-push w ↦
          one_met shown marks p items i x low c.conflict-item.is c.loop-conflict.met.items unmet first (ap (λ v. map shown v.items) w.unmet-is ∙ second) met
          (ap (λ v. v.items) w.met-is ∙ w.in_ok-push.ensures.items) (sym c.is_unresolved.ensures ∙ w.if-is_unresolved.true) (sym w.is_met.ensures ∙ w.if-is_met.true)
      | then-is_unresolved+else-is_met+in_ok-push-2 w ↦
          one_unmet shown marks p items i x low c.conflict-item.is met c.loop-conflict.unmet.items (ap (λ v. map shown v.items) w.met-is ∙ first) second unmet
          (ap (λ v. v.items) w.unmet-is ∙ w.in_ok-push-2.ensures.items) (sym c.is_unresolved.ensures ∙ w.if-is_unresolved.true) (sym w.is_met.ensures ∙ w.if-is_met.false)
      | else-is_unresolved w ↦
          none_left shown marks p items i x low c.conflict-item.is met unmet (ap (λ v. map shown v.items) w.met-is ∙ first)
          (ap (λ v. map shown v.items) w.unmet-is ∙ second) (sym c.is_unresolved.ensures ∙ w.if-is_unresolved.false)
    ]

pub returns : goal.returns
returns g c =
    let index = g.StorageT.StorageIndex.index in
    let p = c.args.precedences.now in
    let marks = c.args.marks.now in
    let all =
    ap (unmet_in index) (take_all c.loop-conflict.conflict-index c.deref-conflict-items.result.now c.loop-conflict-test.false ∙ c.deref-conflict-items.ensures.value)
    ∙ c.in_ok-listed.ensures in
    let left = ap (filter (is_unresolved p)) all ∙ all_left p (lists_in c.args.stable.now.conflicts) in
    record {
      met = c.loop-conflict.invariant.0 ∙ ap (marked_ones marks) left;
      unmet = c.loop-conflict.invariant.1 ∙ ap (other_ones marks) left;
    }
