use Rattle.lrpar_parse.specs.Parser.{subject}
use Rattle.test_headline.proofs.AnswerLemmas.{due_refusal}
use Rattle.test_headline.proofs.ends.errors_of.Goals as goal

pub returns : goal.returns
returns g c =
    due_refusal (subject g.StorageT.StorageIndex.index g.LexerTypesT.LexemeT.Lexeme.parts g.R.Recoverer.allows c.args.parser.now) (g.L.Lexer.allows c.args.lexer.now)
    _ _ c.parse_noaction.result c.parse_noaction.ensures.parse
