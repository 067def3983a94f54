use Rattle.std.proofs.Common.{subst, sym}
use Rattle.lrpar_table_build.specs.Built.{IsBuilt}
use Rattle.lrpar_table_check.specs.Checked.{Checked}
use Rattle.lrpar_parse_lexemes.specs.Views.{token_by}
use Rattle.lrpar_parse_repair.specs.AlwaysRepairs.{AlwaysRepairs}
use Rattle.lrpar_parse_completion.specs.Answer.{IsCompleted}
use Rattle.test_headline.proofs.texts.completed_tree_of_any_text.Goals as goal

pub returns : goal.returns
returns g c =
    let token = token_by g.StorageT.StorageIndex.index g.LexerTypesT.LexemeT.Lexeme.parts in
    let both = c.args.parser.now.recoverer in
    let built = subst (λ (d : Checked). IsBuilt d.grammar d.graph d.table) (sym c.requires.own) c.requires.built in
    let completes = subst (AlwaysRepairs token (IsCompleted token both.second)) c.requires.own (c.completions_always_repair.ensures.repair token both.second built) in
    let repairs = c.or_repairs_where_one_does.ensures.second both c.args.parser.now.checked completes in
    c.every_text_has_a_tree.ensures.tree repairs c.parse_generictree.result c.parse_generictree.ensures.parse
