use Rattle.std.proofs.Common.{◌+◌, drop, sym, ap, ◌∙◌}
use Rattle.lrpar_grammar_code.specs.Code.{literal_len, more}
use Rattle.lrpar_grammar_code.proofs.CodeLemmas.{literal_more}
use Rattle.lrpar_grammar_code.proofs.code.literal_len.Goals as goal

pub loop-i-preserved : goal.loop-i-preserved
loop-i-preserved c =
    let text = c.args.text.now in
    let i = c.loop-i.i in
    c.loop-i.invariant
    ∙ literal_more c.args.quote c.loop-i.escaped text i c.loop-i-test.true (sym c.is_unescaped.ensures.unescaped ∙ c.if-is_unescaped.false)
    (sym c.is_unescaped-in-loop-i.ensures.unescaped ∙ c.if-is_unescaped-2.false)
    ∙ ap (λ e. more (i + 1) (literal_len c.args.quote e (drop (i + 1) text))) (sym c.is_unescaped-escaped.ensures.unescaped)
