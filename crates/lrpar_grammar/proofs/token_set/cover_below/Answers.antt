use Rattle.std.proofs.Common.{◌/◌, arith, inl, inr}
use Rattle.std.proofs.lemmas.Bool.{cases_lt}
use Rattle.lrpar_grammar.proofs.WordLemmas.{covers_word, lack_one}
use Rattle.lrpar_grammar.proofs.token_set.cover_below.Goals as goal

pub returns-then-word_below-word_of-ne0 : goal.returns-then-word_below-word_of-ne0
returns-then-word_below-word_of-ne0 c = (
  λ none. absurd (cc),
  λ cover. absurd (lack_one c.args.words.now c.args.others.now c.loop-k.k c.args.end c.word_below.result c.word_of.result c.word_below.ensures
      c.word_below.type_inv c.word_of.ensures c.word_of.type_inv c.if-word_below-word_of-ne0.true cover),
)

pub loop-k-preserved : goal.loop-k-preserved
loop-k-preserved c t low less set =
    elim (cases_lt (t / 64) c.loop-k.k) [
      | inl earlier ↦ c.loop-k.invariant t earlier less set
      | inr late ↦
          covers_word c.args.words.now c.args.others.now c.loop-k.k c.args.end c.word_below.result c.word_of.result c.word_below.ensures
          c.word_of.ensures c.word_of.type_inv c.if-word_below-word_of-ne0.false t (omega (arith, low, late)) less set
    ]
