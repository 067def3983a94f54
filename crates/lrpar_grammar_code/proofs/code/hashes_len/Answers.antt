use Rattle.std.proofs.Common.{◌==◌, sym, arith}
use Rattle.std.proofs.lemmas.Bool.Decides.{nat_tests}
use Rattle.std.proofs.lemmas.List.Sums.{prefix_len_is}
use Rattle.lrpar_grammar_code.proofs.code.hashes_len.Goals as goal

pub returns-then-byte-ne35-clause-len : goal.returns-then-byte-ne35-clause-len
returns-then-byte-ne35-clause-len c =
    sym (prefix_len_is (λ x. x == 35) c.args.text.now c.loop-i.i 0 (omega arith) c.loop-i.invariant
    (λ _. grind (arith, nat_tests)))

pub returns-clause-len : goal.returns-clause-len
returns-clause-len c =
    sym (prefix_len_is (λ x. x == 35) c.args.text.now _ 0 (omega arith) (λ k within. c.loop-i.invariant k (omega arith))
    (λ past. absurd (omega arith)))
