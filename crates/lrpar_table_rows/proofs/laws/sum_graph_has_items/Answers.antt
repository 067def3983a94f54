use Rattle.std.proofs.Common.{refl, lit<}
use Rattle.std.proofs.lemmas.Bool.{both_ways}
use Rattle.lrpar_table_rows.specs.Graph.{items_of}
use Rattle.lrpar_table_rows.specs.Sum.{sum_graph}
use Rattle.lrpar_table_rows.proofs.GraphLemmas.{item_by_test, core_by_test}
use Rattle.lrpar_table_rows.proofs.laws.sum_graph_has_items.Goals as goal

pub returns : goal.returns
returns c = record {
  states = refl;
  item = (0, lit< tt, refl);
  other_token = λ h. both_ways _ refl ((item_by_test (items_of sum_graph 2) 0 1 0).1 h);
  core = (0, (3, lit< tt, refl));
  other_dot = λ h. both_ways _ refl ((core_by_test (items_of sum_graph 4) 2 1).1 h);
  no_state = λ h. both_ways _ refl ((core_by_test (items_of sum_graph 6) 0 3).1 h);
}
