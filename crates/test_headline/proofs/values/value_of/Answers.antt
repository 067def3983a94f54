use Rattle.lrpar_parse.specs.Parser.{subject}
use Rattle.test_headline.proofs.RepairedLemmas.{values_where_repaired}
use Rattle.test_headline.proofs.values.value_of.Goals as goal

pub returns : goal.returns
returns g c =
    let parser = c.args.parser.now in
    values_where_repaired (subject g.StorageT.StorageIndex.index g.LexerTypesT.LexemeT.Lexeme.parts g.R.Recoverer.allows c.args.parser.now) _ _
    (c.runs_with_repairs_are_sound.ensures.accepts parser.recoverer parser.checked parser.shifts) c.parse_map.result c.parse_map.ensures.parse
