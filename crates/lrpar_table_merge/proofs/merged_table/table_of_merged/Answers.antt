use Rattle.std.proofs.Common.{◌∙◌, sym, subst, arith, length, map}
use Rattle.std.proofs.lemmas.List.{length-map}
use Rattle.std.proofs.lemmas.Result.{IfErr-weaker}
use Rattle.lrpar_table_items.specs.StateRows.{IsRefusalOf, IsRefusedState}
use Rattle.lrpar_table_items.specs.States.{state_of}
use Rattle.lrpar_table_build.proofs.TablesLemmas.{ok_four}
use Rattle.lrpar_table_merge.specs.Distinct.{HaveDistinctStates}
use Rattle.lrpar_table_merge.specs.MergedBy.{AreMergedBy, IsTableRefusal}
use Rattle.lrpar_table_merge.proofs.MergedStateLemmas.{graph_distinct, merged_refusal, states_merged_by}
use Rattle.lrpar_table_merge.proofs.merged_table.table_of_merged.Goals as goal

pub state_tables-requires-clause-some : goal.state_tables-requires-clause-some
state_tables-requires-clause-some g c =
    omega (arith, c.requires.states.merged.start, length-map c.args.states.items (state_of g.StorageT.StorageIndex.index))

pub returns-clause-merged : goal.returns-clause-merged
returns-clause-merged g c =
    let grm = c.args.grm.now in
    let precedences = c.args.precedences.now in
    let states = map (state_of g.StorageT.StorageIndex.index) c.args.states.items in
    let len = length-map c.args.states.items (state_of g.StorageT.StorageIndex.index) in
    ok_four c.state_tables.result _ _ _ _ (AreMergedBy grm precedences)
    (λ made long items is none.
    states_merged_by grm c.start_prod-lemma.ensures.well_formed states c.requires.states precedences made.0 made.1 (long ∙ sym len) items is
    (λ s t below within. none s t (omega (arith, len, below)) within))
    c.state_tables.ensures.len c.state_tables.ensures.items c.state_tables.ensures.table c.state_tables.ensures.none

pub returns-clause-distinct : goal.returns-clause-distinct
returns-clause-distinct g c =
    let index = g.StorageT.StorageIndex.index in
    let states = map (state_of index) c.args.states.items in
    let len = length-map c.args.states.items (state_of index) in
    ok_four c.state_tables.result _ _ _ _ HaveDistinctStates
    (λ made long items is none.
    graph_distinct c.args.grm.now c.start_prod-lemma.ensures.well_formed states c.requires.states made.0 (long ∙ sym len) items)
    c.state_tables.ensures.len c.state_tables.ensures.items c.state_tables.ensures.table c.state_tables.ensures.none

pub returns-clause-refused : goal.returns-clause-refused
returns-clause-refused g c =
    let grm = c.args.grm.now in
    let states = map (state_of g.StorageT.StorageIndex.index) c.args.states.items in
    let len = length-map c.args.states.items (state_of g.StorageT.StorageIndex.index) in
    IfErr-weaker c.state_tables.result (IsRefusalOf (length c.args.states.items) (IsRefusedState grm states)) (IsTableRefusal grm)
    (λ fault h. merged_refusal grm c.start_prod-lemma.ensures.well_formed states c.requires.states fault
    (subst (λ n. IsRefusalOf n (IsRefusedState grm states) fault) (sym len) h)) c.state_tables.ensures.refused
