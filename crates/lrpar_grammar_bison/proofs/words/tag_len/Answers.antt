use Rattle.std.proofs.Common.{◌+◌, ◌==◌, ℕ, drop, get_or, sym, ap, ◌∙◌, arith}
use Rattle.lrpar_grammar_code.specs.Code.{more}
use Rattle.lrpar_grammar_bison.specs.Words.{tag_len}
use Rattle.lrpar_grammar_bison.proofs.WordsLemmas.{tag_here, tag_more}
use Rattle.lrpar_grammar_bison.proofs.words.tag_len.Goals as goal

pub loop-i-preserved : goal.loop-i-preserved
loop-i-preserved c =
    let text = c.args.text.now in
    let i = c.loop-i.i in
    let rest = drop (i + 1) text in
    record {
      few = omega (arith, c.loop-i.invariant.few, c.tag_depth-depth.ensures.few);
      len = c.loop-i.invariant.len
          ∙ tag_more text c.loop-i.depth c.loop-i.dashed i c.loop-i-test.true (sym c.ends_tag.ensures.ends ∙ c.if-ends_tag.false)
          ∙ ap (λ (d : ℕ). more (i + 1) (tag_len d (get_or text i 0 == 45) rest)) (sym c.tag_depth-depth.ensures.depth);
    }

pub returns-then-ends_tag-clause-len : goal.returns-then-ends_tag-clause-len
returns-then-ends_tag-clause-len c =
    sym (c.loop-i.invariant.len
    ∙ tag_here c.args.text.now c.loop-i.depth c.loop-i.dashed c.loop-i.i c.loop-i-test.true (sym c.ends_tag.ensures.ends ∙ c.if-ends_tag.true))
