use Rattle.std.proofs.Common.{◌==◌, ◌||◌, sym, arith}
use Rattle.std.proofs.lemmas.Bool.Decides.{nat_tests}
use Rattle.std.proofs.lemmas.List.Sums.{position_or_len_is}
use Rattle.lrpar_grammar_bison.proofs.words.label_len.Goals as goal
use Rattle.lrpar_grammar_bison.proofs.words.label_len.Goals.{then-byte-eq93-via-then-byte-eq93, then-byte-eq93-via-else-byte-eq93+then-byte-eq10}

pub returns-clause-len : goal.returns-clause-len
returns-clause-len c =
    sym (position_or_len_is (λ x. (x == 93) || (x == 10)) c.args.text.now _ 0 (omega arith)
    (λ k within. c.loop-i.invariant k (omega arith)) (λ past. absurd (omega arith)))

pub returns-then-byte-eq93-clause-len : goal.returns-then-byte-eq93-clause-len
returns-then-byte-eq93-clause-len c =
    sym (position_or_len_is (λ x. (x == 93) || (x == 10)) c.args.text.now c.loop-i.i 0 (omega arith) c.loop-i.invariant
    (λ _. elim c.then-byte-eq93.branch [
      | then-byte-eq93-via-then-byte-eq93 w ↦ grind (arith, nat_tests)
      | then-byte-eq93-via-else-byte-eq93+then-byte-eq10 w ↦ grind (arith, nat_tests)
    ]))
