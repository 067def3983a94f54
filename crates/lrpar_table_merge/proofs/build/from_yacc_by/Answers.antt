use Rattle.std.proofs.lemmas.Result.{IfOk-weaker}
use Rattle.lrpar_table_rows.specs.Safe.{IsSafe}
use Rattle.lrpar_table_build.specs.Built.{IsBuiltBy}
use Rattle.lrpar_table_merge.specs.Distinct.{HaveDistinctStates}
use Rattle.lrpar_table_merge.specs.MergedBy.{IsMergedBy}
use Rattle.lrpar_table_merge.specs.declared.build.Minimiser.TheVariants.{Pager}
use Rattle.lrpar_table_merge.proofs.MinimisedLemmas.{minimised_safe}
use Rattle.lrpar_table_merge.proofs.build.from_yacc_by.Goals as goal

pub returns-in-Canonical-clause-distinct : goal.returns-in-Canonical-clause-distinct
returns-in-Canonical-clause-distinct g c =
    IfOk-weaker c.from_yacc_with.result (λ built. IsBuiltBy c.args.grm.now c.args.precedences.now built.0 built.1) HaveDistinctStates
    (λ built is. is.canonical.once) c.from_yacc_with.ensures.built

pub returns-in-Pager-clause-safe : goal.returns-in-Pager-clause-safe
returns-in-Pager-clause-safe g c =
    let grm = c.args.grm.now in
    let lists = c.args.precedences.now in
    IfOk-weaker c.merged_table.result (λ built. IsMergedBy grm lists built.0 built.1) (λ built. IsSafe grm built.0 built.1)
    (λ built merged. minimised_safe grm c.merged_table.ensures.well_formed Pager lists _ _ merged) c.merged_table.ensures.built
