use Rattle.std.proofs.Common.{◌≡◌, ◌∙◌, ap, map, sym}
use Rattle.lrpar_grammar_places.specs.declared.span.TIdx.{TIdx}
use Rattle.lrpar_grammar.specs.Tokens.{has}
use Rattle.lrpar_table_items.proofs.CompleteItemLemmas.{kept_no, kept_yes}
use Rattle.lrpar_table_items.proofs.items.lookaheads.Goals as goal
use Rattle.lrpar_table_items.proofs.items.lookaheads.Goals.{then-contains+in_ok-push, else-contains}

pub loop-token-preserved : goal.loop-token-preserved
loop-token-preserved g c =
    let index = g.StorageT.StorageIndex.index in
    let token_index = λ (t : TIdx g.row.StorageT.Denot). index t.0 in
    let token = c.loop-token.token in
    let bits = c.args.core.now.tokens in
    elim c.if-contains.branch [
      | then-contains+in_ok-push w ↦
          let number : index w.unwrap.result ≡ token = rw w.unwrap.ensures at w.from_index.ensures.back in
          kept_yes token_index (has bits) c.loop-token.tokens.items _ _ token c.loop-token.invariant
          (ap (λ v. v.items) w.tokens-is ∙ w.in_ok-push.ensures.items) number (sym c.contains.ensures ∙ w.if-contains.true)
      | else-contains w ↦
          ap (λ v. map token_index v.items) w.tokens-is ∙ c.loop-token.invariant ∙ sym (kept_no (has bits) token (sym c.contains.ensures ∙ w.if-contains.false))
    ]
