use Rattle.lrpar_grammar_words.proofs.LongestLemmas.{nothing_is_passed_over, pieces_are_longest}
use Rattle.lrpar_grammar_words.proofs.laws.pieces_are_longest.Goals as goal

pub returns-clause-read : goal.returns-clause-read
returns-clause-read c = pieces_are_longest

pub returns-clause-unread : goal.returns-clause-unread
returns-clause-unread c = nothing_is_passed_over
