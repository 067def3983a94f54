-- The conflicts of merged item sets fit the grammar.
use Rattle.std.proofs.Common.{◌<◌, ℕ}
use Rattle.lrpar_grammar.specs.Grammar.{Grammar, GrammarSymbol, IsWellFormed, Terminal, prod_len, tokens_len}
use Rattle.lrpar_table_rows.specs.ConflictsFit.{ReductionsFit, ShiftFits}
use Rattle.lrpar_table_rows.specs.Graph.{Graph, graph_len}
use Rattle.lrpar_table_rows.specs.Table.{ReduceReduce, ShiftReduce}
use Rattle.lrpar_table_items.specs.Canonical.{IsReduceConflict, IsShiftConflict, sets_of}
use Rattle.lrpar_table_build.specs.Built.{ResolvedFits}
use Rattle.lrpar_table_build.specs.BuilderLaws.{lists_in}
use Rattle.lrpar_table_build.proofs.ConflictLemmas.{all_contained}
use Rattle.lrpar_table_build.proofs.ReachedLemmas.{symbol_listed}
use Rattle.lrpar_table_merge.specs.Merged.{Along, AreMerged}
use Rattle.lrpar_table_merge.specs.MergedByLaws.{MergedConflictsByFit}
use Rattle.lrpar_table_merge.specs.MergedLaws.{MergedConflictsFit}
use Rattle.lrpar_table_merge.proofs.MergedConflictLemmas.{item_known}

module _ (g : Grammar) (graph : Graph) (goes : ℕ → GrammarSymbol → ℕ → Type 0) (well : IsWellFormed g)
    (merged : AreMerged g (graph_len graph) (sets_of graph) goes) where
  -- a conflict of a state fits
  reductions_fit : (x : ReduceReduce) → x.state < graph_len graph → x.token < tokens_len g → IsReduceConflict g (sets_of graph) x
      → ReductionsFit g x
  reductions_fit x within token conflict =
      let known = item_known g graph goes well merged x.state in
      record {
        token = token;
        first = (known x.first (prod_len g x.first) x.token within conflict.0.0.1).prod;
        second = (known x.second (prod_len g x.second) x.token within conflict.1.1).prod;
      }

  shift_fits : (x : ShiftReduce) → x.state < graph_len graph → IsShiftConflict g (sets_of graph) x → ShiftFits g x
  shift_fits x within conflict =
      let before = conflict.0 in
      record {
        token = symbol_listed g well before.0.prod before.0.dot (Terminal x.token) before.2;
        prod = (item_known g graph goes well merged x.state x.prod (prod_len g x.prod) x.token within conflict.1.0.1).prod;
      }

pub merged_conflicts_fit : MergedConflictsFit
merged_conflicts_fit g graph table well is =
    let lists = lists_in table.conflicts in
    let goes = Along is.steps in
    record {
      reduce_reduce = all_contained (ReductionsFit g) lists.reduce_reduce (λ x there.
          let found = (is.conflicts.reduce_reduce x).0 there in reductions_fit g graph goes well is.merged x found.0 found.1 found.2);
      shift_reduce = all_contained (ShiftFits g) lists.shift_reduce (λ x there.
          let found = (is.conflicts.shift_reduce x).0 there in shift_fits g graph goes well is.merged x found.0 found.2);
    }

pub merged_conflicts_by_fit : MergedConflictsByFit
merged_conflicts_by_fit g precedences graph table well is =
    let lists = lists_in table.conflicts in
    let goes = Along is.steps in (
      record {
        reduce_reduce = all_contained (ReductionsFit g) lists.reduce_reduce (λ x there.
            let found = (is.conflicts.reduce_reduce x).0 there in reductions_fit g graph goes well is.merged x found.0 found.1 found.2);
        shift_reduce = all_contained (ShiftFits g) lists.shift_reduce (λ x there.
            let found = (is.conflicts.shift_reduce x).0 there in shift_fits g graph goes well is.merged x found.0 found.2.0);
      },
      all_contained (ResolvedFits g) table.resolved (λ x there.
          let found = (is.resolved x).0 there in shift_fits g graph goes well is.merged x.conflict found.0 found.2.0),
    )
