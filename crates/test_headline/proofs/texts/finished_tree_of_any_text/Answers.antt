use Rattle.std.proofs.Common.{subst}
use Rattle.lrpar_parse_completion.specs.TableAnswer.{IsFinished}
use Rattle.lrpar_parse_lexemes.specs.Views.{token_by}
use Rattle.lrpar_parse_repair.specs.AlwaysRepairs.{AlwaysRepairs}
use Rattle.test_headline.proofs.texts.finished_tree_of_any_text.Goals as goal

pub returns : goal.returns
returns g c =
    let token = token_by g.StorageT.StorageIndex.index g.LexerTypesT.LexemeT.Lexeme.parts in
    let both = c.args.parser.now.recoverer in
    let finishes = subst (AlwaysRepairs token (IsFinished token both.second)) c.requires.own (c.table_completions_always_repair.ensures.repair token both.second) in
    let repairs = c.or_repairs_where_one_does.ensures.second both c.args.parser.now.checked finishes in
    c.every_text_has_a_tree.ensures.tree repairs c.parse_generictree.result c.parse_generictree.ensures.parse
