use Rattle.std.proofs.Common.{◌≡◌, ◌∙◌, [], sym, subst, arith, map}
use Rattle.std.proofs.lemmas.List.{length-map}
use Rattle.lrpar_table_rows.specs.PlainRows.{action_entry, goto_entry}
use Rattle.lrpar_table_rows.specs.Table.{IsTable}
use Rattle.lrpar_table_items.specs.StateRows.{table_with}
use Rattle.lrpar_table_items.specs.States.{state_of}
use Rattle.lrpar_table_build.proofs.TableRowLemmas.{is_table}
use Rattle.lrpar_table_build.proofs.TablesLemmas.{table_is}
use Rattle.lrpar_table_build.proofs.tables.sparse_rows.Goals as goal

pub unwrap-requires : goal.unwrap-requires
unwrap-requires g c =
    c.from_index.ensures.within.1 (omega (arith, c.requires.states.some, c.requires.states.fit))

pub returns : goal.returns
returns g c =
    let index = g.StorageT.StorageIndex.index in
    let limit = g.StorageT.StorageIndex.limit in
    let states = map (state_of index) c.args.states.items in
    let len = length-map c.args.states.items (state_of index) in
    let start : index c.unwrap.result ≡ 0 = rw c.unwrap.ensures at c.from_index.ensures.back in
    let made = table_is c.args.grm.now states (index c.unwrap.result) c.len-len.result c.tokens_len.result c.rules_len.result
    (map (λ row. map (action_entry index) row.items) c.args.actions.items) (map (λ row. map (goto_entry index) row.items) c.in_ok-gotos.gotos.items)
    c.args.conflicts start (c.len-len.ensures ∙ c.args.states.ok.0 ∙ sym len) c.tokens_len.ensures.len c.rules_len.ensures.len c.in_ok-gotos.ensures in
    let rows = is_table c.args.grm.now states c.requires.states.rows c.requires.actions.0 (omega (arith, len, c.requires.states.some)) limit c.args.conflicts []
    (omega (arith, len, c.requires.states.fit)) (omega (arith, c.tokens_len.ensures.len, c.tokens_len.ensures.within))
    (omega (arith, c.rules_len.ensures.len, c.rules_len.ensures.within)) in
    let is = subst (λ actions. IsTable limit (table_with c.args.grm.now states actions c.args.conflicts [])) (sym c.requires.actions.1) rows in
    record { are = made; valid = subst (IsTable limit) (sym made) is }
