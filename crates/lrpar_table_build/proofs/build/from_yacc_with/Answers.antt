use Rattle.std.proofs.Common.{sym, subst, length, map}
use Rattle.std.proofs.lemmas.List.{length-map}
use Rattle.std.proofs.lemmas.Result.{IfErr-weaker}
use Rattle.lrpar_table_build.specs.Built.{IsBuildRefusal}
use Rattle.lrpar_table_items.specs.StateRows.{IsRefusalOf, IsRefusedState}
use Rattle.lrpar_table_items.specs.States.{state_of}
use Rattle.lrpar_table_build.proofs.BuiltLemmas.{build_refusal}
use Rattle.lrpar_table_build.proofs.build.from_yacc_with.Goals as goal

pub returns-clause-refused : goal.returns-clause-refused
returns-clause-refused g c =
    let index = g.StorageT.StorageIndex.index in
    let limit = g.StorageT.StorageIndex.limit in
    let grm = c.args.grm.now in
    let states = map (state_of index) c.in_ok-states.states.items in
    let len = length-map c.in_ok-states.states.items (state_of index) in
    IfErr-weaker c.tables.result (IsRefusalOf (length c.in_ok-states.states.items) (IsRefusedState grm states)) (IsBuildRefusal grm c.args.max_states limit)
    (λ fault h. build_refusal grm c.start_prod-lemma.ensures.well_formed states c.in_ok-states.ensures.states c.args.max_states limit fault
    (subst (λ n. IsRefusalOf n (IsRefusedState grm states) fault) (sym len) h)) c.tables.ensures.refused
