use Rattle.std.proofs.Common.{[], ◌≡◌, ◌↔◌, IsTrue, subst, sym}
use Rattle.lrpar_table_check.specs.Checked.{Checked}
use Rattle.lrpar_table_conditions.specs.Complete.{IsComplete}
use Rattle.lrpar_parse.specs.Parser.{subject}
use Rattle.lrpar_parse_lexemes.specs.Views.{token_by}
use Rattle.test_headline.specs.Answered.{OfAnswer}
use Rattle.test_headline.specs.Sentences.{AnswersSentence}
use Rattle.test_headline.proofs.SentenceLemmas.{determined_by_errors}
use Rattle.test_headline.proofs.sentences.is_sentence.Goals as goal

pub returns-in-Ok-parse_noaction : goal.returns-in-Ok-parse_noaction
returns-in-Ok-parse_noaction g c =
    let token = token_by g.StorageT.StorageIndex.index g.LexerTypesT.LexemeT.Lexeme.parts in
    let complete = subst (λ (d : Checked). IsComplete d.grammar d.graph d.table) (sym c.new.ensures.made) c.in-Ok.ensures.complete in
    subst (λ (d : Checked). OfAnswer (g.L.Lexer.allows c.args.lexer.now) (λ lexed. IsTrue c.is_empty.result ↔ AnswersSentence token d.grammar lexed)) c.new.ensures.made
    (determined_by_errors (subject g.StorageT.StorageIndex.index g.LexerTypesT.LexemeT.Lexeme.parts (λ _ _ answer. answer ≡ []) c.new.result)
    (g.L.Lexer.allows c.args.lexer.now) _ complete c.parse_noaction.result c.in-Ok-parse_noaction.errors c.is_empty.result c.in-Ok-parse_noaction.is c.is_empty.ensures c.parse_noaction.ensures.parse)
