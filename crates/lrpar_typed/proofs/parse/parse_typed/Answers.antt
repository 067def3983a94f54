use Rattle.lrpar_parse_lexemes.specs.Views.{span_by}
use Rattle.lrpar_parse.specs.Parser.{subject}
use Rattle.lrpar_typed.proofs.KindLemmas.{both_of, start_kept}
use Rattle.lrpar_typed.proofs.parse.parse_typed.Goals as goal

pub returns-clause-start : goal.returns-clause-start
returns-clause-start g c =
    let parts = g.LexerTypesT.LexemeT.Lexeme.parts in
    let about = subject g.StorageT.StorageIndex.index parts g.R.Recoverer.allows c.args.parser.now in
    (both_of _ (g.T.Typed.holds c.args.typed.now) c.come_out.result (start_kept about _ (span_by parts) g.T.Typed.rule (g.T.Typed.holds c.args.typed.now) _ c.args.lexer.now _ _ g.T.Typed.rows g.T.Typed.start c.requires.rows c.parse_actions.result c.come_out.result c.parse_actions.ensures.parse c.come_out.ensures)).0

pub returns-clause-holds : goal.returns-clause-holds
returns-clause-holds g c =
    let parts = g.LexerTypesT.LexemeT.Lexeme.parts in
    let about = subject g.StorageT.StorageIndex.index parts g.R.Recoverer.allows c.args.parser.now in
    (both_of _ (g.T.Typed.holds c.args.typed.now) c.come_out.result (start_kept about _ (span_by parts) g.T.Typed.rule (g.T.Typed.holds c.args.typed.now) _ c.args.lexer.now _ _ g.T.Typed.rows g.T.Typed.start c.requires.rows c.parse_actions.result c.come_out.result c.parse_actions.ensures.parse c.come_out.ensures)).1
