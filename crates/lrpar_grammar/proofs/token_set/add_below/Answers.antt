use Rattle.std.proofs.Common.{◌<◌, ◌+◌, ◌∙◌, sym, subst, arith, length, slice_set}
use Rattle.std.specs.Prelude.{bit_or}
use Rattle.std.proofs.lemmas.Grind.{get_or_default_zero}
use Rattle.lrpar_grammar.proofs.WordLemmas.{IsUnited, united_all, unites_word}
use Rattle.lrpar_grammar.proofs.token_set.add_below.Goals as goal

pub loop-k-preserved : goal.loop-k-preserved
loop-k-preserved c =
    let k = c.loop-k.k in
    let now = c.loop-k.words.items in
    let long = c.loop-k.invariant.0 in
    let within : k < length now = omega (arith, c.loop-k-test.true, long) in
    let word = c.index-word.ensures ∙ get_or_default_zero now k c.index-word.result.now within in
    subst (λ old. IsUnited c.args.words.now.items (slice_set now k (bit_or old c.word_below.result)) c.args.others.now (k + 1) c.args.end) (sym word)
    (unites_word c.args.words.now.items now c.args.others.now k c.args.end c.word_below.result within c.word_below.ensures c.loop-k.invariant)

pub returns-clause-bits : goal.returns-clause-bits
returns-clause-bits c =
    let past = c.loop-k-test.false in
    let count = c.len-k-end.ensures in
    united_all c.args.words.now.items c.loop-k.words.items c.args.others.now c.loop-k.k c.args.end (omega (arith, past, count)) c.requires c.loop-k.invariant
