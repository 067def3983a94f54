use Rattle.lrpar_parse.specs.Parser.{subject}
use Rattle.test_headline.proofs.RepairedLemmas.{values_of_repaired}
use Rattle.test_headline.proofs.derivations.folded_value.Goals as goal

pub returns : goal.returns
returns g c =
    values_of_repaired (subject g.StorageT.StorageIndex.index g.LexerTypesT.LexemeT.Lexeme.parts g.R.Recoverer.allows c.args.parser.now)
    (g.L.Lexer.allows c.args.lexer.now) _ c.parse_map.result c.parse_map.ensures.parse
