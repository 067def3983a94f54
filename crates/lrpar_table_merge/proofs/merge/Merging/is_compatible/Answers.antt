use Rattle.std.proofs.Common.{◌<◌, ◌∙◌, sym, ap, subst, arith, length, map}
use Rattle.std.proofs.lemmas.Bool.{false≢true}
use Rattle.lrpar_table_items.specs.Cores.{core_set}
use Rattle.lrpar_table_merge.specs.Compatible.{AreWeaklyCompatible}
use Rattle.lrpar_table_merge.proofs.MergingLemmas.{state_value}
use Rattle.lrpar_table_merge.proofs.merge.Merging.is_compatible.Goals as goal

pub returns-then-number-len : goal.returns-then-number-len
returns-then-number-len g c = (λ h. absurd (false≢true h), λ both. absurd (omega (arith, both.0, c.if-number-len.true, c.len.ensures)))

pub returns : goal.returns
returns g c =
    let index = g.StorageT.StorageIndex.index in
    let states = c.args.self.now.states.items in
    let number = c.args.number in
    let kernel = map (core_set index) c.args.kernel.now in
    let low : number < length states = omega (arith, c.if-number-len.false, c.len.ensures) in
    let own =
    state_value index states number c.index.result.now low ∙ ap (λ read. map (core_set index) read.kernel.items) (sym c.index.ensures)
    ∙ ap (map (core_set index)) (sym c.deref.ensures.value) in
    let test = c.are_weakly_compatible.ensures in (
      λ h. (low, subst (λ cores. AreWeaklyCompatible cores kernel) (sym own) (test.0 h)),
      λ both. test.1 (subst (λ cores. AreWeaklyCompatible cores kernel) own both.1),
    )
