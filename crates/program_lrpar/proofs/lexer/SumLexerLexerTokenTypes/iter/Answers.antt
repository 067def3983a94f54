use Rattle.std.proofs.Common.{rules}
use Rattle.program_lrpar.proofs.AnswerLemmas.{answers_step, answers_off}
use Rattle.program_lrpar.proofs.lexer.SumLexerLexerTokenTypes.iter.Goals as goal

pub loop-at-init : goal.loop-at-init
loop-at-init c = search rules

pub loop-at-preserved : goal.loop-at-preserved
loop-at-preserved c =
    answers_step c.loop-at.answers.items c.push.new.self.items _ c.answer.result c.loop-at.at-iterator.rest.now c.next.new.self.rest.now
    c.loop-at.at-iterator.at c.next.new.self.at c.in-Some.at c.in-Some.c
    c.loop-at.invariant c.in-Some.ensures.steps c.answer.ensures c.in_ok-push.ensures.items

pub returns : goal.returns
returns c = record {
  allowed = answers_off c.loop-at.answers.items _ c.loop-at.at-iterator.rest.now c.loop-at.at-iterator.at
      c.in-None.ensures.steps.0 c.loop-at.invariant.1;
}
