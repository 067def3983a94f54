use Rattle.std.proofs.Common.{◌≡◌, ◌+◌, ◌∙◌, sym, subst, length}
use Rattle.std.proofs.lemmas.Bool.{OnFalse_at}
use Rattle.lrpar_table_first.specs.FirstRows.{AreFirsts, AreSound, HaveRoom, dummy_lookahead, rows_of}
use Rattle.lrpar_table_first.proofs.GrowthLemmas.{exact_sets, lent_back, sets_len}
use Rattle.lrpar_grammar_places.proofs.FaultLemmas.{no_value}
use Rattle.lrpar_table_first.proofs.first.first_sets.Goals as goal

pub passes-preserved : goal.passes-preserved
passes-preserved g c =
    let grm = c.args.grm.now in
    let old = c.passes.sets.items in
    let new = c.grow_all.new.sets in
    let before = sets_len grm old c.passes.invariant.0 in
    let after = sets_len grm new c.grow_all.ensures.room.0 in
    let full : c.passes.sets.len ≡ length old = c.passes.sets.ok.0 in
    let back = lent_back old new c.passes.sets.len (sym full) (after ∙ sym before ∙ sym full) in
    let sound = c.grow_all.ensures.sound (rw c.deref_mut.ensures.value c.passes.invariant.1) in
    subst (λ sets. HaveRoom grm (rows_of sets) × AreSound grm (rows_of sets) × (length c.grow_all.new.front ≡ dummy_lookahead grm + 1)) (sym back)
    (c.grow_all.ensures.room.0, sound, c.grow_all.ensures.room.1)

pub returns : goal.returns
returns g c =
    let grm = c.args.grm.now in
    let old = c.passes.sets.items in
    let new = c.grow_all.new.sets in
    let before = sets_len grm old c.passes.invariant.0 in
    let after = sets_len grm new c.grow_all.ensures.room.0 in
    let full : c.passes.sets.len ≡ length old = c.passes.sets.ok.0 in
    let back = lent_back old new c.passes.sets.len (sym full) (after ∙ sym before ∙ sym full) in
    let sound = c.grow_all.ensures.sound (rw c.deref_mut.ensures.value c.passes.invariant.1) in
    let closed = OnFalse_at c.passes-test.false c.grow_all.ensures.closed in
    subst (λ sets. AreFirsts grm (rows_of sets)) (sym back) (exact_sets grm c.start_prod-lemma.ensures.well_formed (rows_of new) c.grow_all.ensures.room.0 sound closed)

pub returns-in_err-sets : goal.returns-in_err-sets
returns-in_err-sets g c = no_value c.from_residual.result _ _ c.from_residual.ensures.1

pub returns-in_err-front : goal.returns-in_err-front
returns-in_err-front g c = no_value c.from_residual-in_err-front.result _ _ c.from_residual-in_err-front.ensures.1
