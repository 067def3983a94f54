use Rattle.std.proofs.Common.{[], ◌≡◌, subst, sym}
use Rattle.lrpar_table_check.specs.Checked.{Checked}
use Rattle.lrpar_table_conditions.specs.Complete.{IsComplete}
use Rattle.lrpar_parse_run.specs.Folds.{Folds}
use Rattle.lrpar_parse_run.specs.Nodes.{IsNonterm, IsTerm}
use Rattle.lrpar_parse.specs.Parser.{subject}
use Rattle.lrpar_parse_lexemes.specs.Views.{token_by}
use Rattle.test_headline.specs.Answered.{OfAnswer}
use Rattle.test_headline.specs.Sentences.{IsOfOnlyTree}
use Rattle.test_headline.proofs.SentenceLemmas.{determined_by_tree}
use Rattle.test_headline.proofs.sentences.only_tree.Goals as goal

pub returns-in-Ok-parse_generictree : goal.returns-in-Ok-parse_generictree
returns-in-Ok-parse_generictree g c =
    let index = g.StorageT.StorageIndex.index in
    let token = token_by index g.LexerTypesT.LexemeT.Lexeme.parts in
    let complete = subst (λ (d : Checked). IsComplete d.grammar d.graph d.table) (sym c.new.ensures.made) c.in-Ok.ensures.complete in
    subst (λ (d : Checked). OfAnswer (g.L.Lexer.allows c.args.lexer.now) (IsOfOnlyTree token d.grammar (Folds IsTerm (IsNonterm index) d.grammar) c.in-Ok-parse_generictree.tree)) c.new.ensures.made
    (determined_by_tree (subject g.StorageT.StorageIndex.index g.LexerTypesT.LexemeT.Lexeme.parts (λ _ _ answer. answer ≡ []) c.new.result)
    (g.L.Lexer.allows c.args.lexer.now) _ complete (λ point answer none. none) c.parse_generictree.result _ c.in-Ok-parse_generictree.is c.parse_generictree.ensures.parse)
