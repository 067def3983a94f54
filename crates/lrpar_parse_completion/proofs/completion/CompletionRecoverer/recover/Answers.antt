use Rattle.std.proofs.Common.{ap, inl, inr}
use Rattle.std.below.core.specs.declared.int.usize.TheConstants.{MAX}
use Rattle.std.proofs.lemmas.Result.{IfOk-weaker}
use Rattle.lrpar_table_stacks.specs.Expected.{tokens_of}
use Rattle.lrpar_table_stacks.specs.Stack.{states_of}
use Rattle.lrpar_parse_lexemes.specs.Views.{token_by}
use Rattle.lrpar_parse_repair.specs.PlainSteps.{plain_sequences}
use Rattle.lrpar_parse_completion.specs.Answer.{Completer}
use Rattle.lrpar_parse_completion.proofs.AnswerLemmas.{answered, no_completion}
use Rattle.lrpar_parse_completion.proofs.completion.CompletionRecoverer.recover.Goals as goal

pub returns-in_default : goal.returns-in_default
returns-in_default g c =
    let index = g.StorageT.StorageIndex.index in
    let token = token_by index g.LexemeT.Lexeme.parts in
    let same = ap (λ (o : Completer). o.checked) c.self.view_is in
    let st = states_of index c.stack.result.now in
    let says = rw c.in_default.is at c.in_ok-tokens.ensures in
    let none =
    no_completion token c.args.self.now MAX c.self.inside.shortest c.self.inside.data.now c.self.invariant same c.args.point.now c.stack.ensures.stop st c.stack.ensures.stack
    says in
    record { allowed = rw c.new.ensures.items none }

pub returns : goal.returns
returns g c =
    let index = g.StorageT.StorageIndex.index in
    let token = token_by index g.LexemeT.Lexeme.parts in
    let same = ap (λ (o : Completer). o.checked) c.self.view_is in
    let most = ap (λ (o : Completer). o.most) c.self.view_is in
    let st = states_of index c.stack.result.now in
    let tokens = tokens_of index c.in-Some.tokens.items in
    let says = rw c.in-Some.is at c.in_ok-tokens.ensures in
    record {
      allowed = IfOk-weaker c.answer.result _ _ (λ answer h.
          answered token c.args.self.now MAX c.self.inside.shortest c.self.inside.data.now c.self.invariant same c.args.point.now c.stack.ensures.stop st
          c.stack.ensures.stack tokens says (plain_sequences index answer.items) c.self.inside.most most (elim h [
            | inl none ↦ inl none
            | inr found ↦ inr (found.0.place, found.0.inserted, found.1, found.2)
          ])) (rw c.deref.ensures.value at c.answer.ensures);
    }
