use Rattle.std.proofs.Common.{◌-◌, take, drop, length, length-drop, nat_eq, codes, sym, ap, ◌∙◌, ◌≡◌, arith}
use Rattle.std.specs.List.{starts_with}
use Rattle.std.proofs.lemmas.List.{take_all}
use Rattle.lrpar_grammar_words.proofs.WordsLemmas.{closed_len_more}
use Rattle.lrpar_grammar_words.proofs.words.closed_len.Goals as goal

pub loop-i-preserved : goal.loop-i-preserved
loop-i-preserved c =
    let text = c.args.text.now in
    let i = c.loop-i.i in
    let rest : take (length text - i) (drop i text) ≡ drop i text = take_all _ _ (omega (arith, length-drop i text)) in
    c.loop-i.invariant
    ∙ closed_len_more text i c.loop-i-test.true (ap (λ s. starts_with nat_eq s (codes "*/")) (sym rest) ∙ sym c.starts_with.ensures.value ∙ c.if-starts_with.false)
