use Rattle.std.proofs.Common.{◌∙◌, sym, ap, length}
use Rattle.lrpar_grammar.proofs.TokenSetLemmas.{room_is}
use Rattle.lrpar_grammar.proofs.token_set.TokenSet.len.Goals as goal

pub returns : goal.returns
returns c = sym (room_is c.self.inside.len c.self.inside.words.items) ∙ ap (λ bits. length bits) c.self.view_is
