use Rattle.std.proofs.Common.{◌≡◌, ◌++◌, ◌+◌, ◌∷◌, ◌∙◌, [], ap, arith, subst, sym, take}
use Rattle.std.proofs.lemmas.List.{take_all, take_more}
use Rattle.lrpar_table_rows.specs.PlainItems.{AreBegunOf}
use Rattle.lrpar_table_rows.proofs.ItemLemmas.{begun_more, begun_no_more, cores_exactly}
use Rattle.lrpar_grammar_places.proofs.FaultLemmas.{no_value}
use Rattle.lrpar_table_rows.proofs.runs.begun_of.Goals as goal
use Rattle.lrpar_table_rows.proofs.runs.begun_of.Goals.{then-core-gt0+in_ok-push, else-core-gt0}

pub loop-core-preserved : goal.loop-core-preserved
loop-core-preserved g c =
    let cores = c.args.cores.now in
    let i = c.loop-core.core-index in
    let core = c.core-item.result in
    let begun = c.loop-core.begun.items in
    let more : take (i + 1) cores ≡ take i cores ++ core ∷ [] = rw (← c.core-item.is) at (take_more cores i core c.loop-core-test.true) in
    rw more
    (elim c.if-core-gt0.branch [
      | then-core-gt0+in_ok-push w ↦
          subst (AreBegunOf (take i cores ++ core ∷ [])) (sym w.in_ok-push.ensures.items ∙ sym (ap (λ v. v.items) w.begun-is))
          (begun_more (take i cores) begun core c.loop-core.invariant w.if-core-gt0.true)
      | else-core-gt0 w ↦
          let none = w.if-core-gt0.false in
          subst (λ v. AreBegunOf (take i cores ++ core ∷ []) v.items) (sym w.begun-is)
          (begun_no_more (take i cores) begun core c.loop-core.invariant (omega (arith, none)))
    ])

pub returns : goal.returns
returns g c = λ p k.
    let all = take_all c.loop-core.core-index c.args.cores.now c.loop-core-test.false in
    let are : AreBegunOf c.args.cores.now c.loop-core.begun.items = rw all at c.loop-core.invariant in
    let same = c.from_vec.ensures.same (p, k) in
    (λ h. (are p k).0 (same.0 h), λ h. same.1 ((are p k).1 h))

pub returns-in_err-push : goal.returns-in_err-push
returns-in_err-push g c = no_value c.from_residual.result _ _ c.from_residual.ensures.1

pub from_vec-requires : goal.from_vec-requires
from_vec-requires g c =
    let laws = g.met.StorageT.StorageIndex in
    record { exact = cores_exactly g.StorageT.StorageIndex.index g.StorageT.StorageIndex.at_index g.StorageT.Ord.cmp laws.at_index_law laws.cmp_law }
