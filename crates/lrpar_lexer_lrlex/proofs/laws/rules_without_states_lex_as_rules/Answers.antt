use Rattle.lrpar_lexer_lrlex.proofs.LawLemmas.{lexes_as_rules}
use Rattle.lrpar_lexer_lrlex.proofs.laws.rules_without_states_lex_as_rules.Goals as goal

pub returns : goal.returns
returns c = lexes_as_rules
