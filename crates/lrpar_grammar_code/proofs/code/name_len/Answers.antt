use Rattle.std.proofs.Common.{sym, ◌∙◌, arith}
use Rattle.std.proofs.lemmas.List.Sums.{prefix_len_is}
use Rattle.lrpar_grammar_code.specs.Code.{is_in_word}
use Rattle.lrpar_grammar_code.proofs.code.name_len.Goals as goal

pub returns-then-not-is_in_word-clause-len : goal.returns-then-not-is_in_word-clause-len
returns-then-not-is_in_word-clause-len c =
    sym (prefix_len_is is_in_word c.args.text.now c.loop-i.i 0 (omega arith) c.loop-i.invariant
    (λ _. sym c.is_in_word.ensures ∙ c.if-not-is_in_word.true))

pub returns-clause-len : goal.returns-clause-len
returns-clause-len c =
    sym (prefix_len_is is_in_word c.args.text.now _ 0 (omega arith) (λ k within. c.loop-i.invariant k (omega arith))
    (λ past. absurd (omega arith)))
