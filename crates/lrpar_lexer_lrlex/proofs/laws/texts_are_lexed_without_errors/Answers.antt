use Rattle.lrpar_lexer_lrlex.proofs.LexingAllInLawLemmas.{lexes_all_in_as_lexemes, lexes_all_in_as_rules, lexes_all_in_one_way, lexes_each_text_in}
use Rattle.lrpar_lexer_lrlex.proofs.laws.texts_are_lexed_without_errors.Goals as goal

pub returns : goal.returns
returns c = record {
  some = lexes_each_text_in;
  one = lexes_all_in_one_way;
  lexemes = lexes_all_in_as_lexemes;
  rules = lexes_all_in_as_rules;
}
