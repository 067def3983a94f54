use Rattle.lrpar_parse_lexemes.specs.Views.{facts_by}
use Rattle.lrpar_parse.proofs.EveryTextLemmas.{has_value}
use Rattle.lrpar_parse.proofs.every_text.every_text_has_an_acted_value.Goals as goal

pub returns : goal.returns
returns g c =
    let facts = facts_by g.StorageT.StorageIndex.index g.LexerTypesT.LexemeT.Lexeme.parts in
    let parser = c.args.parser.now in
    λ always result parses.
    has_value facts (g.R.Recoverer.allows parser.recoverer) parser.checked parser.shifts always c.is_checked.ensures.checked c.is_checked.ensures.shifts
    (g.L.Lexer.allows c.args._lexer.now) _ result parses
