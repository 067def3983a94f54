use Rattle.std.proofs.Common.{sym, ◌∙◌, arith}
use Rattle.std.proofs.lemmas.List.Sums.{prefix_len_is}
use Rattle.lrpar_grammar_bison.specs.Words.{is_space}
use Rattle.lrpar_grammar_bison.proofs.words.space_len.Goals as goal

pub returns-then-not-is_space-clause-len : goal.returns-then-not-is_space-clause-len
returns-then-not-is_space-clause-len c =
    sym (prefix_len_is is_space c.args.text.now c.loop-i.i 0 (omega arith) c.loop-i.invariant
    (λ _. sym c.is_space.ensures ∙ c.if-not-is_space.true))

pub returns-clause-len : goal.returns-clause-len
returns-clause-len c =
    sym (prefix_len_is is_space c.args.text.now _ 0 (omega arith) (λ k within. c.loop-i.invariant k (omega arith))
    (λ past. absurd (omega arith)))
