use Rattle.std.proofs.Common.{◌≡◌, ◌≢◌, ◌∙◌, ap, sym}
use Rattle.lrpar_grammar.specs.Grammar.{rule_of, start_prod}
use Rattle.lrpar_table_rows.specs.PlainRows.{plain_goto}
use Rattle.lrpar_table_rows.specs.Table.{goto_of}
use Rattle.lrpar_table_conditions.proofs.CoreLemmas.{goto_test}
use Rattle.lrpar_table_conditions.proofs.checkable.Checkable.goes_by_rule_of.Goals as goal

pub returns-else-from : goal.returns-else-from
returns-else-from g c =
    let index = g.StorageT.StorageIndex.index in
    let grm = c.args.self.now.grm.now in
    let goes : plain_goto index c.goto.result ≡ goto_of c.args.self.now.stable.now (index c.args.s.0) (rule_of grm (index c.args.pidx.0)) =
    c.goto.ensures.goto ∙ ap (goto_of c.args.self.now.stable.now (index c.args.s.0)) c.prod_to_rule.ensures.rule in
    let test = goto_test index c.goto.result _ goes in
    let other : index c.args.pidx.0 ≢ start_prod grm =
    λ e. c.if-from.false (c.from.ensures ∙ e ∙ sym c.start_prod.ensures.number ∙ sym c.from-2.ensures) in (
      λ h _. test.0 (sym c.is_some.ensures ∙ h),
      λ goes_on. c.is_some.ensures ∙ test.1 (goes_on other),
    )
