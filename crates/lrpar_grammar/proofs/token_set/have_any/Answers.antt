use Rattle.std.proofs.Common.{arith, refl}
use Rattle.lrpar_grammar.proofs.WordLemmas.{have_none, have_one}
use Rattle.lrpar_grammar.proofs.token_set.have_any.Goals as goal

pub returns-then-word-ne0 : goal.returns-then-word-ne0
returns-then-word-ne0 c =
    let k = c.loop-word.word-index in (λ _. have_one c.args.words.now k c.if-word-ne0.true (c.type_inv.words k).fits, λ _. refl)

pub returns : goal.returns
returns c = (
  λ some. absurd (cc),
  λ any.
      let past = c.loop-word-test.false in
      let none = have_none c.args.words.now (λ k within. c.loop-word.invariant k (omega (arith, within, past))) any.0 in
      let bit = any.1 in absurd (cc),
)
