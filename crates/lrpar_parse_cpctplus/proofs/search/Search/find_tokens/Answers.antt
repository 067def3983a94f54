use Rattle.std.proofs.Common.{◌≡◌, ◌≢◌, ◌<◌, ◌∙◌, ◌↔◌, ap, map, subst, sym}
use Rattle.std.specs.List.{Contains}
use Rattle.lrpar_table_check.specs.Checked.{Checked}
use Rattle.lrpar_table_rows.specs.PlainRows.{plain_action}
use Rattle.lrpar_table_rows.specs.Table.{Table, TableAction, Fails, action_of, actions_at, states_len}
use Rattle.lrpar_table_rows.proofs.EntryLemmas.{keys_ascend}
use Rattle.lrpar_table_stacks.specs.Reduction.{top_action}
use Rattle.lrpar_table_shared_stacks.specs.SharedStacks.{current_stack, stack_at}
use Rattle.lrpar_table_stacks.proofs.StepLemmas.{action_by_top}
use Rattle.lrpar_parse_cpctplus.proofs.AddLemmas.{tokens_read, top_known}
use Rattle.lrpar_parse_cpctplus.proofs.SharedLemmas.{gone_stack}
use Rattle.lrpar_parse_cpctplus.proofs.search.Search.find_tokens.Goals as goal

pub actions_of-requires : goal.actions_of-requires
actions_of-requires g c =
    let index = g.StorageT.StorageIndex.index in
    let at = c.args.self.now.point.now in
    let mid = c.go_to.new.self in
    let table : c.stable-table.result.now ≡ at.checked.table = c.stable-table.ensures.table ∙ ap (λ (d : Checked). d.table) c.data.ensures.data in
    let stack = gone_stack at.checked.table c.args.stacks.now mid c.args.at.stack c.go_to.ensures.current c.requires.held.stack in
    subst (λ (t : Table). index c.top.result.0 < states_len t) (sym table)
    (top_known at.checked.table c.data.ensures.stop.checked.closed (current_stack mid) (index c.top.result.0) stack c.top.ensures)

pub returns-clause-tokens : goal.returns-clause-tokens
returns-clause-tokens g c =
    let index = g.StorageT.StorageIndex.index in
    let at = c.args.self.now.point.now in
    let mid = c.go_to.new.self in
    let number = c.args.at.stack in
    let s = index c.top.result.0 in
    let table : c.stable-table.result.now ≡ at.checked.table = c.stable-table.ensures.table ∙ ap (λ (d : Checked). d.table) c.data.ensures.data in
    let by = c.actions_of.ensures in
    record {
      exact = λ t.
          let same : top_action at.checked.table t (stack_at c.args.stacks.now.stacks number) ≡ action_of c.stable-table.result.now s t =
          ap (top_action at.checked.table t) (sym c.go_to.ensures.current)
          ∙ action_by_top at.checked.table t (current_stack mid) s c.top.ensures ∙ ap (λ (b : Table). action_of b s t) (sym table) in
          subst (λ (a : TableAction). Contains (map (λ x. index x.0) c.actions_of.result.0.now) t ↔ (a ≢ Fails)) (sym same)
          (tokens_read index c.stable-table.result.now s c.actions_of.result.0.now c.actions_of.result.1.now by.actions by.entries by.exact t);
      ascending = keys_ascend (λ x. index x.0) (plain_action index) c.actions_of.result.0.now c.actions_of.result.1.now (actions_at c.stable-table.result.now s)
          by.actions by.entries by.ascending;
    }
