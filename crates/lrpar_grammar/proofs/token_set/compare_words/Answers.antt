use Rattle.std.proofs.Common.{◌∙◌, sym}
use Rattle.lrpar_grammar.proofs.WordLemmas.{differ_greater, differ_less, place_fits}
use Rattle.lrpar_grammar.proofs.token_set.compare_words.Goals as goal

pub has_bit-requires : goal.has_bit-requires
has_bit-requires c =
    place_fits c.args.words.now c.args.others.now c.loop-k.k c.word_of.result c.word_of-other.result c.word_of.ensures c.word_of-other.ensures
    c.loop-k.invariant c.if-differ-ne0.true c.word_of.type_inv c.word_of-other.type_inv

pub returns-then-has_bit : goal.returns-then-has_bit
returns-then-has_bit c =
    differ_less c.args.words.now c.args.others.now c.loop-k.k c.word_of.result c.word_of-other.result c.word_of.ensures c.word_of-other.ensures
    c.loop-k.invariant c.if-differ-ne0.true c.word_of.type_inv c.word_of-other.type_inv (sym c.has_bit.ensures ∙ c.if-has_bit.true)

pub returns-else-has_bit : goal.returns-else-has_bit
returns-else-has_bit c =
    differ_greater c.args.words.now c.args.others.now c.loop-k.k c.word_of.result c.word_of-other.result c.word_of.ensures c.word_of-other.ensures
    c.loop-k.invariant c.if-differ-ne0.true c.word_of.type_inv c.word_of-other.type_inv (sym c.has_bit.ensures ∙ c.if-has_bit.false)
