use Rattle.std.proofs.Common.{ℕ, map, subst}
use Rattle.lrpar_grammar_places.specs.declared.span.TIdx.{TIdx}
use Rattle.lrpar_table_rows.specs.PlainRows.{plain_action}
use Rattle.lrpar_table_rows.specs.Table.{Table, actions_at}
use Rattle.lrpar_parse_errors.specs.ActedOn.{AreActedOn}
use Rattle.lrpar_parse_errors.proofs.ActedOnLemmas.{stored_tokens}
use Rattle.lrpar_parse_errors.proofs.errors.ParseError.expected.Goals as goal

pub returns-then-from-states_len : goal.returns-then-from-states_len
returns-then-from-states_len g c =
    let index = g.StorageT.StorageIndex.index in
    let number = λ (token : TIdx g.row.StorageT.Denot). index token.0 in
    let table = c.stable-table.result.now in
    let s = index c.stidx-state.result.0 in
    let tokens = map number c.actions_of.result.0.now in
    let acted = stored_tokens number (plain_action index) table s c.actions_of.result.0.now c.actions_of.result.1.now (actions_at table s)
    c.actions_of.ensures.actions c.actions_of.ensures.entries c.actions_of.ensures.exact c.actions_of.ensures.ascending in
    subst (λ (t : Table). AreActedOn t c.args.self.now.state tokens) c.stable-table.ensures.table
    (subst (λ (n : ℕ). AreActedOn table n tokens) c.stidx-state.ensures.state acted)
