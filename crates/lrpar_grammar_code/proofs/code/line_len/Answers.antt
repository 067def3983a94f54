use Rattle.std.proofs.Common.{◌==◌, sym, arith, eq-eqb}
use Rattle.std.proofs.lemmas.List.Sums.{position_or_len_is}
use Rattle.lrpar_grammar_code.proofs.code.line_len.Goals as goal

pub returns-then-byte-eq10-clause-len : goal.returns-then-byte-eq10-clause-len
returns-then-byte-eq10-clause-len c =
    sym (position_or_len_is (λ x. x == 10) c.args.text.now c.loop-i.i 0 (omega arith) c.loop-i.invariant
    (λ _. eq-eqb _ 10 c.if-byte-eq10.true))

pub returns-clause-len : goal.returns-clause-len
returns-clause-len c =
    sym (position_or_len_is (λ x. x == 10) c.args.text.now _ 0 (omega arith) (λ k within. c.loop-i.invariant k (omega arith))
    (λ past. absurd (omega arith)))
