use Rattle.std.proofs.Common.{subst, sym, ◌^◌, ◌%◌, ◌*◌, ◌-◌}
use Rattle.std.specs.Prelude.{bit_and}
use Rattle.lrpar_grammar.specs.Words.{IsWordBelow}
use Rattle.lrpar_grammar.proofs.WordLemmas.{some_below}
use Rattle.lrpar_grammar.proofs.token_set.word_below.Goals as goal

pub returns-then-k-end-2 : goal.returns-then-k-end-2
returns-then-k-end-2 c =
    subst (λ word. IsWordBelow c.args.words.now c.args.k c.args.end (bit_and word (1 * 2 ^ (c.args.end % 64) % 2 ^ 64 - 1))) (sym c.word_of-word.ensures)
    (some_below c.args.words.now c.args.k c.args.end c.if-k-end-2.true)
