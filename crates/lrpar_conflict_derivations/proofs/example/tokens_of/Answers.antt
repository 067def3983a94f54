use Rattle.std.proofs.Common.{◌∷◌, ◌∙◌, [], sym, ap}
use Rattle.std.proofs.lemmas.List.{append-nil, map-append}
use Rattle.lrpar_table_sentences.specs.Moves.{move_of}
use Rattle.lrpar_conflict_derivations.specs.Texts.{tokens_in, token_numbers}
use Rattle.lrpar_conflict_derivations.proofs.TextLemmas.{tokens_more}
use Rattle.lrpar_conflict_derivations.proofs.example.tokens_of.Goals.{in-Take+in_ok-push-in-Take, in-Make}
use Rattle.lrpar_conflict_derivations.proofs.example.tokens_of.Goals as goal

pub loop-step-preserved : goal.loop-step-preserved
loop-step-preserved g c =
    let index = g.StorageT.StorageIndex.index in
    let tokens = c.loop-step.tokens.items in
    elim c.match-step.branch [
      | in-Take+in_ok-push-in-Take w ↦
          let push = ap (token_numbers index) (ap (λ v. v.items) w.tokens-is ∙ w.in_ok-push-in-Take.ensures.items) ∙ map-append (λ t. index t.0) tokens (w.in-Take.token ∷ []) in
          tokens_more index c.args.moves.now c.loop-step.step-index c.step-item.result tokens c.match-step.tokens.items (index w.in-Take.token.0 ∷ [])
          c.loop-step-test.true c.step-item.is c.loop-step.invariant push (ap (λ m. tokens_in (move_of index m ∷ [])) w.in-Take.is)
      | in-Make w ↦
          let push = ap (λ v. token_numbers index v.items) w.tokens-is ∙ sym (append-nil (token_numbers index tokens)) in
          tokens_more index c.args.moves.now c.loop-step.step-index c.step-item.result tokens c.match-step.tokens.items []
          c.loop-step-test.true c.step-item.is c.loop-step.invariant push (ap (λ m. tokens_in (move_of index m ∷ [])) w.in-Make.is)
    ]
