use Rattle.std.proofs.Common.{◌≡◌, ◌+◌, [], ◌∷◌, ◌++◌, take, sym, subst, ◌∙◌, ap}
use Rattle.std.proofs.lemmas.List.{map_more}
use Rattle.lrpar_names.specs.Choosing.{AreTokensBelow, token_numbers}
use Rattle.lrpar_names.proofs.BitLemmas.{set_with, set_without}
use Rattle.lrpar_names.proofs.choosing.set_of.Goals as goal
use Rattle.lrpar_names.proofs.choosing.set_of.Goals.{then-number-len, else-number-len}

pub tokens-preserved : goal.tokens-preserved
tokens-preserved g c =
    let index = g.StorageT.StorageIndex.index in
    let tokens = c.args.tokens.now in
    let i = c.tokens.token-index in
    let token = c.token-item.result in
    let so_far = token_numbers index (take i tokens) in
    let number = c.from-number.result in
    let step : token_numbers index (take (i + 1) tokens) ≡ so_far ++ number ∷ [] =
    map_more (λ t. index t.0) tokens i token c.tokens-test.true ∙ ap (λ t. so_far ++ index t.0 ∷ []) (sym c.token-item.is)
    ∙ ap (λ n. so_far ++ n ∷ []) (sym c.from-number.ensures) in
    subst (λ ns. AreTokensBelow c.args.len ns c.if-number-len.set) (sym step)
    (elim c.if-number-len.branch [
      | then-number-len w ↦ subst (AreTokensBelow c.args.len (so_far ++ number ∷ [])) (sym w.set-is)
          (set_with c.args.len so_far c.tokens.set w.insert.new.self number w.insert.ensures.room w.insert.ensures.tokens w.if-number-len.true c.tokens.invariant)
      | else-number-len w ↦ subst (AreTokensBelow c.args.len (so_far ++ number ∷ [])) (sym w.set-is)
          (set_without c.args.len so_far c.tokens.set number w.if-number-len.false c.tokens.invariant)
    ])
