use Rattle.std.proofs.Common.{◌≡◌, arith, None, subst, sym, ℕ}
use Rattle.lrpar_table_rows.specs.declared.rows.SparseRows.{SparseRows}
use Rattle.lrpar_table_pops.specs.Parts.{HasGotosOf, HasSomeActionsOf, IsPartOf}
use Rattle.lrpar_table_pops.proofs.KeptLemmas.{longer}
use Rattle.lrpar_table_pops.proofs.RowLemmas.{AreActs, AreGoes, acts_more, goes_more, rows_part, some_of_ok}
use Rattle.lrpar_table_pops.proofs.part.part_at.Goals as goal

pub states-preserved : goal.states-preserved
states-preserved g c =
    let index = g.StorageT.StorageIndex.index in
    let table = c.args.stable.now in
    let l = c.states in
    let number : index c.unwrap.result ≡ l.number = rw c.unwrap.ensures at c.from_index.ensures.back in
    let acts = c.in_ok-acts.acts in
    let goes = c.in_ok-goes.goes in
    record {
      acts_len = longer l.actions.items c.push.new.self.items acts l.number c.in_ok-push.ensures.items l.invariant.acts_len;
      acts = subst (AreActs index table) (sym c.in_ok-push.ensures.items) (acts_more index table l.actions.items acts l.number l.invariant.acts_len
          (subst (λ (n : ℕ). HasSomeActionsOf index table n acts.items) number c.in_ok-acts.ensures) l.invariant.acts);
      goes_len = longer l.gotos.items c.push-in-states.new.self.items goes l.number c.in_ok-push-2.ensures.items l.invariant.goes_len;
      goes = subst (AreGoes index table) (sym c.in_ok-push-2.ensures.items) (goes_more index table l.gotos.items goes l.number l.invariant.goes_len
          (subst (λ (n : ℕ). HasGotosOf index table n goes.items) number c.in_ok-goes.ensures) l.invariant.goes);
    }

pub returns : goal.returns
returns g c =
    let index = g.StorageT.StorageIndex.index in
    let whole = c.args.stable.now in
    let l = c.states in
    let end = c.states-test.false in
    let within = c.states.auto.number-end in
    let states = c.states_len-number-end.ensures.states in
    let len = l.invariant.goes_len in
    let rows : SparseRows g.row.StorageT.Denot = record {
      start = c.start_state.result;
      states = c.states_len.result;
      tokens = c.tokens_len.result;
      rules = c.rules_len.result;
      actions = l.actions;
      gotos = l.gotos;
      conflicts = None;
    } in
    some_of_ok _ (IsPartOf whole) c.from_sparse.result c.ok.result c.ok.ensures.value c.from_sparse.ensures.table (λ made is.
    subst (IsPartOf whole) (sym is)
    (rows_part index whole rows c.start_state.ensures.start c.states_len.ensures.states c.tokens_len.ensures.tokens c.rules_len.ensures.rules l.invariant.acts l.invariant.goes
    (omega (arith, end, within, states, len)) c.states_len.ensures.no_goto))
