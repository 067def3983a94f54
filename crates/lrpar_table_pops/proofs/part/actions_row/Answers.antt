use Rattle.std.proofs.Common.{◌≡◌, Global, Vec, subst, sym}
use Rattle.std.proofs.lemmas.List.Elements.{All-push}
use Rattle.lrpar_grammar_places.specs.declared.span.TIdx.{TIdx}
use Rattle.lrpar_table_rows.specs.PlainRows.{plain_action}
use Rattle.lrpar_table_rows.specs.Table.{action_of}
use Rattle.lrpar_table_rows.specs.declared.rows.Action.{Action}
use Rattle.lrpar_table_pops.specs.Parts.{HasSomeActionsOf}
use Rattle.lrpar_table_pops.proofs.part.actions_row.Goals.{then-contains+in_ok-push, else-contains}
use Rattle.lrpar_table_pops.proofs.part.actions_row.Goals as goal

pub tokens-preserved : goal.tokens-preserved
tokens-preserved g c =
    let index = g.StorageT.StorageIndex.index in
    let table = c.args.stable.now in
    let s = index c.args.state.0 in
    let E = TIdx g.row.StorageT.Denot × Action g.row.StorageT.Denot in
    let token = c.index-known-place.result in
    let action = c.index-actions-place.result in
    let acts = c.actions_at.ensures.actions c.tokens.place token action c.tokens-test.true c.index-known-place.is c.index-actions-place.is in
    elim c.if-contains.branch [
      | then-contains+in_ok-push w ↦
          subst (λ (v : Vec E Global). HasSomeActionsOf index table s v.items) (sym w.row-is)
          (subst (HasSomeActionsOf index table s) (sym w.in_ok-push.ensures.items)
          (All-push (λ (entry : E). action_of table s (index entry.0.0) ≡ plain_action index entry.1) c.tokens.row.items (token, action) c.tokens.invariant acts))
      | else-contains w ↦ subst (λ (v : Vec E Global). HasSomeActionsOf index table s v.items) (sym w.row-is) c.tokens.invariant
    ]
