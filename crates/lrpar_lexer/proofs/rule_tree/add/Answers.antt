use Rattle.std.proofs.lemmas.Result.{on_ok_weaker}
use Rattle.lrpar_lexer.proofs.WalkLemmas.{text_is_met}
use Rattle.lrpar_lexer.proofs.rule_tree.add.Goals as goal

pub returns-in-Some-clause-met : goal.returns-in-Some-clause-met
returns-in-Some-clause-met c =
    on_ok_weaker c.add_text.result
    (λ meets. text_is_met c.add_text.new.nodes.items c.args.program.now c.in-Some.text.now c.args.rule c.in-Some.ensures.text c.in-Some.ensures.some meets)
    c.add_text.ensures.met
