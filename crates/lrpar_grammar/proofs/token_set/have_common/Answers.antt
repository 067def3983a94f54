use Rattle.std.proofs.Common.{arith, refl}
use Rattle.lrpar_grammar.proofs.WordLemmas.{have_both, have_no_both}
use Rattle.lrpar_grammar.proofs.token_set.have_common.Goals as goal

pub returns-then-words-k-ne0 : goal.returns-then-words-k-ne0
returns-then-words-k-ne0 c =
    let k = c.loop-k.k in
    (λ _. have_both c.args.words.now c.args.others.now k c.word_of.result c.word_of.ensures (c.type_inv.words k).fits c.if-words-k-ne0.true, λ _. refl)

pub returns : goal.returns
returns c = (
  λ none. absurd (cc),
  λ both.
      let past = c.loop-k-test.false in
      absurd (have_no_both c.args.words.now c.args.others.now (λ k within. c.loop-k.invariant k (omega (arith, within, past))) both),
)
