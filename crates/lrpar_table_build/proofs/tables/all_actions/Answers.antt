use Rattle.lrpar_table_build.proofs.TablesLemmas.{actions_are}
use Rattle.lrpar_table_build.proofs.tables.all_actions.Goals as goal

pub returns-clause-made : goal.returns-clause-made
returns-clause-made g c =
    actions_are g.StorageT.StorageIndex.index c.args.precedences.now c.args.grm.now c.args.states.now c.new-found.result c.make_action_rows.new.found
    c.in_ok-rows.rows c.conflicts_of.result c.new.result c.new-found.ensures c.in_ok-rows.ensures.rows c.conflicts_of.ensures c.new.ensures
