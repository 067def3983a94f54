use Rattle.std.proofs.Common.{◌≡◌, arith, lit<, refl}
use Rattle.std.proofs.lemmas.Bool.{both_ways}
use Rattle.std.proofs.lemmas.Option.{none-some}
use Rattle.lrpar_grammar.specs.Grammar.{Terminal}
use Rattle.lrpar_table_rows.specs.Graph.{items_of}
use Rattle.lrpar_table_rows.specs.Sum.{sum_graph}
use Rattle.lrpar_table_rows.specs.Table.{action_of, goto_of}
use Rattle.lrpar_table_rows.proofs.GraphLemmas.{core_by_test}
use Rattle.lrpar_table_rows.proofs.laws.changed_sum_tables_are_unsafe.Goals as goal

pub returns : goal.returns
unfolding action_of goto_of
returns c = record {
  start_item = λ safe. let fresh : 1 ≡ 0 = safe refl 3 1 (2, (5, lit< tt, refl)) in absurd (omega (arith, fresh));
  end_shift = λ safe. safe 6 refl;
  other_shift = λ safe. let from = (safe (Terminal 1) 5 refl 0 2 (2, (0, lit< tt, refl))).0 in absurd (cc);
  other_reduce = λ safe. both_ways _ refl ((core_by_test (items_of sum_graph 2) 0 3).1 (safe 2 0 refl).1);
  no_goto = λ safe. let goto = safe 2 (0, (3, lit< tt, refl)) (λ same. absurd (omega (arith, same))) in none-some goto.0 goto.1;
  early_accept = λ safe. let end : 0 ≡ 2 = (safe 0 refl).0 in absurd (omega (arith, end));
  back_to_start = λ safe. safe.never_back (Terminal 1) refl;
}
