use Rattle.std.proofs.Common.{◌∙◌, ◌%◌, ◌/◌, sym, ap}
use Rattle.lrpar_grammar.specs.Words.{bit, word_at}
use Rattle.lrpar_grammar.proofs.TokenSetLemmas.{set_has}
use Rattle.lrpar_grammar.proofs.token_set.TokenSet.contains.Goals as goal

pub returns : goal.returns
returns c =
    c.has_bit.ensures
    ∙ ap (λ word. bit word (c.args.token % 64)) (c.word_of.ensures ∙ ap (λ words. word_at words (c.args.token / 64)) c.deref.ensures.value)
    ∙ sym (set_has c.self.inside.len c.self.inside.words.items c.self.invariant c.args.self.now c.self.view_is c.args.token)
