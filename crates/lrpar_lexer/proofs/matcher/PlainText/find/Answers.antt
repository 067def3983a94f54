use Rattle.std.proofs.Common.{sym, ◌∙◌}
use Rattle.std.proofs.lemmas.Bool.{cond-false, cond-true}
use Rattle.lrpar_lexer.proofs.AnchoredLemmas.{text_span}
use Rattle.lrpar_lexer.proofs.matcher.PlainText.find.Goals as goal

pub returns-then-starts_with : goal.returns-then-starts_with
returns-then-starts_with c =
    sym (text_span c.args.self.now.program.now c.args.self.now.text.now c.args.text.now c.starts_with.result c.args.self.now.finds c.starts_with.ensures.value
    ∙ cond-true c.starts_with.result _ _ c.if-starts_with.true)

pub returns-else-starts_with : goal.returns-else-starts_with
returns-else-starts_with c =
    sym (text_span c.args.self.now.program.now c.args.self.now.text.now c.args.text.now c.starts_with.result c.args.self.now.finds c.starts_with.ensures.value
    ∙ cond-false c.starts_with.result _ _ c.if-starts_with.false)
