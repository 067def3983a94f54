use Rattle.std.proofs.Common.{sym, ◌∙◌, arith}
use Rattle.std.proofs.lemmas.List.Sums.{prefix_len_is}
use Rattle.lrpar_grammar_words.specs.Words.{is_digit}
use Rattle.lrpar_grammar_yacc.proofs.parts.digits_len.Goals as goal

pub returns-then-not-is_digit-clause-len : goal.returns-then-not-is_digit-clause-len
returns-then-not-is_digit-clause-len c =
    sym (prefix_len_is is_digit c.args.text.now c.loop-i.i 0 (omega arith) c.loop-i.invariant
    (λ _. sym c.is_digit.ensures ∙ c.if-not-is_digit.true))

pub returns-clause-len : goal.returns-clause-len
returns-clause-len c =
    sym (prefix_len_is is_digit c.args.text.now _ 0 (omega arith) (λ k within. c.loop-i.invariant k (omega arith))
    (λ past. absurd (omega arith)))
