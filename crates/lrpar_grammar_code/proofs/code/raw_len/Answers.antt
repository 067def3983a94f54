use Rattle.std.proofs.Common.{◌≡◌, ◌+◌, ◌-◌, get_or, length, length-drop, take, drop, sym, ap, ◌∙◌, arith}
use Rattle.std.proofs.lemmas.List.{take_all}
use Rattle.lrpar_grammar_code.specs.Code.{ends_raw}
use Rattle.lrpar_grammar_code.proofs.CodeLemmas.{raw_more}
use Rattle.lrpar_grammar_code.proofs.code.raw_len.Goals as goal

pub loop-i-preserved : goal.loop-i-preserved
loop-i-preserved c =
    let text = c.args.text.now in
    let i = c.loop-i.i in
    let rest : take (length text - (i + 1)) (drop (i + 1) text) ≡ drop (i + 1) text = take_all _ _ (omega (arith, length-drop (i + 1) text)) in
    c.loop-i.invariant ∙ raw_more c.args.hashes text i c.loop-i-test.true (ap (ends_raw c.args.hashes (get_or text i 0)) (sym rest) ∙ sym c.ends_raw.ensures.ends ∙ c.if-ends_raw.false)
