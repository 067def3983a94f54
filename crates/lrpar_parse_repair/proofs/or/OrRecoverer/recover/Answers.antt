use Rattle.std.proofs.Common.{IfOk, subst}
use Rattle.std.proofs.lemmas.Result.{IfOk-weaker}
use Rattle.lrpar_parse_lexemes.specs.Views.{token_by}
use Rattle.lrpar_parse_repair.specs.AlwaysRepairs.{FirstOrSecond, TwoRecoverers}
use Rattle.lrpar_parse_repair.specs.PlainSteps.{plain_sequences}
use Rattle.lrpar_parse_repair.proofs.SomeWorksLemmas.{asks_second}
use Rattle.lrpar_parse_repair.proofs.or.OrRecoverer.recover.Goals as goal

pub returns : goal.returns
returns g c =
    let index = g.StorageT.StorageIndex.index in
    let token = token_by index g.LexemeT.Lexeme.parts in
    let at = c.args.point.now in
    let first = g.A.Recoverer.allows in
    let second = g.B.Recoverer.allows in
    let tested = rw c.deref.ensures.value at c.in_ok-some_works.ensures.works in
    let asked = IfOk-weaker c.recover-2.result _ (λ answer. FirstOrSecond token (first c.self.inside.first) (second c.self.inside.second) at (plain_sequences index answer.items))
    (λ answer allowed. asks_second token (first c.self.inside.first) (second c.self.inside.second) at (plain_sequences index c.in_ok-answer.answer.items) (plain_sequences index answer.items)
    c.in_ok-some_works.field-0 c.in_ok-answer.ensures.allowed tested c.if-branch.false allowed)
    c.recover-2.ensures.allowed in
    record {
      allowed = subst
          (λ (both : TwoRecoverers g.row.A.Denot g.row.B.Denot). IfOk c.recover-2.result (λ answer. FirstOrSecond token (first both.first) (second both.second) at (plain_sequences index answer.items)))
          c.self.view_is asked;
    }
