use Rattle.std.proofs.Common.{sym, ◌∙◌}
use Rattle.lrpar_lexer.proofs.AnchoredLemmas.{nothing_begins}
use Rattle.lrpar_lexer.proofs.rule_tree.can_begin.Goals as goal

pub returns-in-Some : goal.returns-in-Some
returns-in-Some c missing text =
    nothing_begins c.args.program.now c.in-Some.bytes c.in-Some.is c.args.byte c.find_near.result c.find_near.ensures
    (sym c.is_some.ensures ∙ missing) text
