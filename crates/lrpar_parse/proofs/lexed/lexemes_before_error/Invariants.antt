use Rattle.std.proofs.Common.{◌≡◌, ◌++◌}
use Rattle.std.specs.Vec.Iter.{into_iter_items}
use Rattle.lrpar_parse.specs.Lexed.{first_error, lexemes_of}
use Rattle.lrpar_parse.proofs.lexed.lexemes_before_error.Given as goal

-- the lexemes so far and those of what is left are those of all, and so is the first error
abbrev pub invariant-loop-answer : goal.invariant-loop-answer
invariant-loop-answer g l = record {
  lexemes : l.lexemes.items ++ lexemes_of (into_iter_items l.answer-iterator) ≡ lexemes_of l.fn.answers.items;
  error : first_error (into_iter_items l.answer-iterator) ≡ first_error l.fn.answers.items;
}
