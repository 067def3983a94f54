use Rattle.std.proofs.Common.{◌∙◌}
use Rattle.lrpar_grammar.proofs.TokenSetLemmas.{has_is, room_is}
use Rattle.lrpar_grammar.proofs.token_set.TokenSet.new.Goals as goal

pub returns-clause-room : goal.returns-clause-room
returns-clause-room c = room_is c.args.len _

pub returns-clause-none : goal.returns-clause-none
returns-clause-none c t = has_is c.args.len _ c.in_ok-words.ensures.are t ∙ c.in_ok-words.ensures.none t
