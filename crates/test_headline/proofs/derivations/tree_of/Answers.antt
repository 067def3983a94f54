use Rattle.lrpar_parse.specs.Parser.{subject}
use Rattle.test_headline.proofs.LeafLemmas.{trees_over_lexemes}
use Rattle.test_headline.proofs.derivations.tree_of.Goals as goal

pub returns : goal.returns
returns g c =
    trees_over_lexemes g.StorageT.StorageIndex.index (subject g.StorageT.StorageIndex.index g.LexerTypesT.LexemeT.Lexeme.parts g.R.Recoverer.allows c.args.parser.now)
    (g.L.Lexer.allows c.args.lexer.now) c.parse_generictree.result c.parse_generictree.ensures.parse
