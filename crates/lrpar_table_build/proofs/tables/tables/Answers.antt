use Rattle.std.proofs.Common.{◌∙◌, sym, subst, arith, map}
use Rattle.std.proofs.lemmas.List.{length-map}
use Rattle.std.proofs.lemmas.Result.{IfOk-weaker}
use Rattle.lrpar_table_build.specs.Built.{IsBuiltBy}
use Rattle.lrpar_table_items.specs.States.{state_of}
use Rattle.lrpar_table_build.proofs.BuiltLemmas.{is_built}
use Rattle.lrpar_table_build.proofs.StateLemmas.{some_state, state_rows}
use Rattle.lrpar_table_build.proofs.tables.tables.Goals as goal

pub graph_and_table-requires : goal.graph_and_table-requires
graph_and_table-requires g c =
    let grm = c.args.grm.now in
    let well = c.start_prod-lemma.ensures.well_formed in
    let states = map (state_of g.StorageT.StorageIndex.index) c.args.states.items in
    let some = some_state grm well states c.requires.states in record {
      rows = state_rows grm well states c.requires.states;
      some = omega (arith, some, length-map c.args.states.items (state_of g.StorageT.StorageIndex.index));
      fit = c.requires.fit;
    }

pub returns-clause-built : goal.returns-clause-built
returns-clause-built g c =
    let grm = c.args.grm.now in
    let precedences = c.args.precedences.now in
    let states = map (state_of g.StorageT.StorageIndex.index) c.args.states.items in
    let len = length-map c.args.states.items (state_of g.StorageT.StorageIndex.index) in
    IfOk-weaker c.graph_and_table.result _ _
    (λ made are.
    subst (IsBuiltBy grm precedences made.0) (sym are.table)
    (is_built precedences grm c.start_prod-lemma.ensures.well_formed states c.requires.states made.0 (are.len ∙ sym len) are.items
    (λ s t below within. are.none s t (omega (arith, len, below)) within)))
    c.graph_and_table.ensures.made

pub returns-clause-len : goal.returns-clause-len
returns-clause-len g c = IfOk-weaker c.graph_and_table.result _ _ (λ made are. are.len) c.graph_and_table.ensures.made
