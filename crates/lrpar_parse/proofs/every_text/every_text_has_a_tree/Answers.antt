use Rattle.lrpar_parse_lexemes.specs.Views.{facts_by}
use Rattle.lrpar_parse.proofs.EveryTextLemmas.{has_repairs, has_value}
use Rattle.lrpar_parse.proofs.every_text.every_text_has_a_tree.Goals as goal

pub returns : goal.returns
returns g c =
    let facts = facts_by g.StorageT.StorageIndex.index g.LexerTypesT.LexemeT.Lexeme.parts in
    let parser = c.args.parser.now in
    let allows = g.R.Recoverer.allows parser.recoverer in
    record {
      tree = λ always result parses.
          has_value facts allows parser.checked parser.shifts always c.is_checked.ensures.checked c.is_checked.ensures.shifts (g.L.Lexer.allows c.args._lexer.now) _ result parses;
      errors = λ always result parses.
          has_repairs facts allows parser.checked parser.shifts always c.is_checked.ensures.checked c.is_checked.ensures.shifts (g.L.Lexer.allows c.args._lexer.now) result parses;
    }
