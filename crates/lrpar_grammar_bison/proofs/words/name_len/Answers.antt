use Rattle.std.proofs.Common.{sym, ◌∙◌, arith}
use Rattle.std.proofs.lemmas.List.Sums.{prefix_len_is}
use Rattle.lrpar_grammar_bison.specs.Words.{is_in_name}
use Rattle.lrpar_grammar_bison.proofs.words.name_len.Goals as goal

pub returns-then-not-is_in_name-clause-len : goal.returns-then-not-is_in_name-clause-len
returns-then-not-is_in_name-clause-len c =
    sym (prefix_len_is is_in_name c.args.text.now c.loop-i.i 0 (omega arith) c.loop-i.invariant.met
    (λ _. sym c.is_in_name.ensures.within ∙ c.if-not-is_in_name.true))

pub returns-clause-len : goal.returns-clause-len
returns-clause-len c =
    sym (prefix_len_is is_in_name c.args.text.now _ 0 (omega arith) (λ k within. c.loop-i.invariant.met k (omega arith))
    (λ past. absurd (omega arith)))
