use Rattle.lrpar_lexer.proofs.LexesEachLemmas.{lexes_each_text}
use Rattle.lrpar_lexer.proofs.LexingAllLawLemmas.{lexes_all_as_lexemes, lexes_all_as_rules, lexes_all_one_way}
use Rattle.lrpar_lexer.proofs.laws.texts_are_lexed_without_errors.Goals as goal

pub returns : goal.returns
returns c = record {
  some = lexes_each_text;
  one = lexes_all_one_way;
  lexemes = lexes_all_as_lexemes;
  rules = lexes_all_as_rules;
}
