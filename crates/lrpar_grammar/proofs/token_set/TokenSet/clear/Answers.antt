use Rattle.std.proofs.Common.{◌∙◌}
use Rattle.lrpar_grammar.proofs.TokenSetLemmas.{has_is, words_stay}
use Rattle.lrpar_grammar.proofs.token_set.TokenSet.clear.Goals as goal

pub returns-clause-none : goal.returns-clause-none
returns-clause-none c t =
    has_is c.self.inside.len c.clear_words.new.words.items
    (words_stay c.self.inside.len c.self.inside.words.items c.clear_words.new.words.items c.self.invariant c.clear_words.ensures.room (λ n _. c.clear_words.ensures.none n)) t
    ∙ c.clear_words.ensures.none t
