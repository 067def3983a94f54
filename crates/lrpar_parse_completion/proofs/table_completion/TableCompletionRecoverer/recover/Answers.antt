use Rattle.std.proofs.Common.{ap, inl, inr}
use Rattle.std.proofs.lemmas.Bool.{both_ways}
use Rattle.std.proofs.lemmas.Result.{IfOk-weaker}
use Rattle.lrpar_table_stacks.specs.Expected.{tokens_of}
use Rattle.lrpar_table_stacks.specs.Stack.{states_of}
use Rattle.lrpar_parse_lexemes.specs.Views.{token_by}
use Rattle.lrpar_parse_repair.specs.PlainSteps.{plain_sequences}
use Rattle.lrpar_parse_completion.specs.Answer.{Completer}
use Rattle.lrpar_parse_completion.proofs.FinishLemmas.{finished, no_stack}
use Rattle.lrpar_parse_completion.proofs.table_completion.TableCompletionRecoverer.recover.Goals as goal

pub returns : goal.returns
returns g c =
    let index = g.StorageT.StorageIndex.index in
    let token = token_by index g.LexemeT.Lexeme.parts in
    let same = ap (λ (o : Completer). o.checked) c.self.view_is in
    let most = ap (λ (o : Completer). o.most) c.self.view_is in
    let st = states_of index c.stack-2.result.now in
    let tokens = tokens_of index c.in_ok-tokens.tokens.items in
    record {
      allowed = IfOk-weaker c.answer.result _ _ (λ answer h.
          finished token c.args.self.now c.args.point.now c.stack-2.ensures.stop tokens c.self.inside.checked.now st same c.stack-2.ensures.stack
          c.in_ok-tokens.ensures (plain_sequences index answer.items) c.self.inside.most most (elim h [
            | inl none ↦ inl none
            | inr found ↦ inr (found.0.place, found.0.inserted, found.1, found.2)
          ])) (rw c.deref.ensures.value at c.answer.ensures);
    }

pub returns-then-not-is_stack : goal.returns-then-not-is_stack
returns-then-not-is_stack g c =
    let index = g.StorageT.StorageIndex.index in
    let token = token_by index g.LexemeT.Lexeme.parts in
    let same = ap (λ (o : Completer). o.checked) c.self.view_is in
    let st = states_of index c.stack.result.now in
    let none =
    no_stack token c.args.self.now c.args.point.now c.stack.ensures.stop c.self.inside.checked.now st same c.stack.ensures.stack
    (λ is. both_ways _ c.if-not-is_stack.true (c.is_stack.ensures.1 is)) in
    record { allowed = rw c.new.ensures.items none }
