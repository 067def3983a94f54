use Rattle.std.proofs.lemmas.Result.{IfOk-weaker}
use Rattle.lrpar_table_build.proofs.tables.state_tables.Goals as goal

pub graph_and_table-requires : goal.graph_and_table-requires
graph_and_table-requires g c = record { rows = c.requires.rows; some = c.requires.some; fit = c.requires.fit }

pub returns-clause-len : goal.returns-clause-len
returns-clause-len g c = IfOk-weaker c.graph_and_table.result _ _ (λ made are. are.len) c.graph_and_table.ensures.made

pub returns-clause-items : goal.returns-clause-items
returns-clause-items g c = IfOk-weaker c.graph_and_table.result _ _ (λ made are. are.items) c.graph_and_table.ensures.made

pub returns-clause-table : goal.returns-clause-table
returns-clause-table g c = IfOk-weaker c.graph_and_table.result _ _ (λ made are. are.table) c.graph_and_table.ensures.made

pub returns-clause-none : goal.returns-clause-none
returns-clause-none g c = IfOk-weaker c.graph_and_table.result _ _ (λ made are. are.none) c.graph_and_table.ensures.made
