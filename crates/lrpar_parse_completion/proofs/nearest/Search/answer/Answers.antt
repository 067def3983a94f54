use Rattle.std.proofs.Common.{◌∷◌, ◌++◌, ◌∙◌, [], ap, arith, inl, inr}
use Rattle.std.proofs.lemmas.List.{length-map}
use Rattle.lrpar_parse_repair.specs.PlainSteps.{plain_sequences}
use Rattle.lrpar_parse_completion.proofs.nearest.Search.answer.Goals as goal

pub returns-in_default : goal.returns-in_default
returns-in_default g c =
    let index = g.StorageT.StorageIndex.index in
    let never = rw c.in_default.is at c.in_ok-repair.ensures in
    inl (never, ap (plain_sequences index) c.new-answer.ensures.items)

pub steps-requires : goal.steps-requires
steps-requires g c =
    let index = g.StorageT.StorageIndex.index in
    let found = rw c.in-Some.is at c.in_ok-repair.ensures in
    record {
      tokens = let some = found.tried.some in omega (arith, some, length-map c.args.self.now.tokens.now (λ t. index t.0));
      after = found.tried.after_stop;
    }

pub returns : goal.returns
returns g c =
    let index = g.StorageT.StorageIndex.index in
    let found = rw c.in-Some.is at c.in_ok-repair.ensures in
    let one =
    ap (plain_sequences index) (c.in_ok-push.ensures.items ∙ ap (λ l. l ++ c.in_ok-steps.steps ∷ []) c.new-answer.ensures.items)
    ∙ ap (λ s. s ∷ []) c.in_ok-steps.ensures in
    inr (c.in-Some.repair, found, one)
