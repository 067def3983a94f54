use Rattle.std.proofs.Common.{◌/◌, ◌%◌, ◌*◌, ◌^◌, ◌∙◌, subst, sym, slice_set}
use Rattle.std.specs.Prelude.{bit_or}
use Rattle.std.proofs.lemmas.Grind.{get_or_default_zero}
use Rattle.lrpar_grammar.specs.Words.{AddsBit}
use Rattle.lrpar_grammar.proofs.WordLemmas.{adds_bit}
use Rattle.lrpar_grammar.proofs.token_set.insert_bit.Goals as goal

pub returns-clause-bits : goal.returns-clause-bits
returns-clause-bits c =
    let k = c.args.token / 64 in
    let word = c.index-word.ensures ∙ get_or_default_zero c.args.words.now.items k c.index-word.result.now c.requires in
    subst
    (λ old. AddsBit c.args.words.now.items (slice_set c.args.words.now.items k (bit_or old (1 * 2 ^ (c.args.token % 64) % 2 ^ 64))) c.args.token)
    (sym word) (adds_bit c.args.words.now.items c.args.token c.requires)
