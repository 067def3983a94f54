use Rattle.std.specs.Prelude.{◌≡◌, []}
use Rattle.lrpar_parse.specs.Parser.{subject}
use Rattle.test_headline.proofs.SentenceLemmas.{errors_are_few}
use Rattle.test_headline.proofs.repairs.errors_without_repairs.Goals as goal

pub returns : goal.returns
returns g c =
    errors_are_few (subject g.StorageT.StorageIndex.index g.LexerTypesT.LexemeT.Lexeme.parts (λ _ _ answer. answer ≡ []) c.new.result)
    (g.L.Lexer.allows c.args.lexer.now) (λ point answer none. none) c.parse_noaction.result c.parse_noaction.ensures.parse
