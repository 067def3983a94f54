use Rattle.std.proofs.lemmas.Result.{IfErr-weaker, IfOk-weaker}
use Rattle.lrpar_table_build.specs.Built.{IsBuildRefusal, IsBuiltBy}
use Rattle.lrpar_table_merge.specs.Distinct.{HaveDistinctStates}
use Rattle.lrpar_table_merge.specs.MergedBy.{IsMergedBy}
use Rattle.lrpar_table_merge.specs.Minimised.{IsMergingRefusal}
use Rattle.lrpar_table_merge.proofs.BuiltMergedLemmas.{built_by_tables_are_merged_by}
use Rattle.lrpar_table_merge.proofs.MinimisedLemmas.{canonical_refusal}
use Rattle.lrpar_table_merge.proofs.build.merged_table.Goals as goal

pub returns-in-None-clause-built : goal.returns-in-None-clause-built
returns-in-None-clause-built g c =
    let grm = c.args.grm.now in
    let lists = c.args.precedences.now in
    IfOk-weaker c.from_yacc_with.result (λ built. IsBuiltBy grm lists built.0 built.1) (λ built. IsMergedBy grm lists built.0 built.1)
    (λ built is. built_by_tables_are_merged_by grm lists _ _ c.in_ok-states.ensures.well_formed is) c.from_yacc_with.ensures.built

pub returns-in-None-clause-distinct : goal.returns-in-None-clause-distinct
returns-in-None-clause-distinct g c =
    IfOk-weaker c.from_yacc_with.result (λ built. IsBuiltBy c.args.grm.now c.args.precedences.now built.0 built.1) HaveDistinctStates
    (λ built is. is.canonical.once) c.from_yacc_with.ensures.built

pub returns-in-None-clause-refused : goal.returns-in-None-clause-refused
returns-in-None-clause-refused g c =
    let grm = c.args.grm.now in
    let limit = g.StorageT.StorageIndex.limit in
    IfErr-weaker c.from_yacc_with.result (IsBuildRefusal grm c.args.max_states limit) (IsMergingRefusal grm c.args.max_states limit)
    (canonical_refusal grm c.in_ok-states.ensures.well_formed c.args.max_states limit) c.from_yacc_with.ensures.refused
