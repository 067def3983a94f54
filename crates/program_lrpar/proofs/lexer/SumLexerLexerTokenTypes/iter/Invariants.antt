use Rattle.std.proofs.Common.{◌≡◌, ◌++◌}
use Rattle.std.specs.Str.{IsUtf8, chars}
use Rattle.program_lrpar.specs.SumAnswers.{answers, answers_from}
use Rattle.program_lrpar.proofs.lexer.SumLexerLexerTokenTypes.iter.Given as goal

-- the answers so far, and those for what is left, are those for the text
abbrev pub invariant-loop-at : goal.invariant-loop-at
invariant-loop-at l =
    IsUtf8 l.at-iterator.rest.now
    × (l.answers.items ++ answers_from l.at-iterator.at (chars l.at-iterator.rest.now) ≡ answers l.self.input.now)
