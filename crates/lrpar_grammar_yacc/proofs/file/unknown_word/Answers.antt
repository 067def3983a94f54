use Rattle.std.proofs.Common.{sym, ◌∙◌}
use Rattle.lrpar_grammar_yacc.proofs.YaccFileLemmas.{unknown_here, unknown_later}
use Rattle.lrpar_grammar_yacc.proofs.file.unknown_word.Goals as goal

pub returns-then-not-contains_key : goal.returns-then-not-contains_key
returns-then-not-contains_key c = λ names known.
    unknown_here names c.args.words.now c.loop-word.word-index _ c.span.result c.loop-word-test.true c.span.ensures
    (sym (known _) ∙ sym c.contains_key.ensures ∙ c.if-not-contains_key.true)
    ∙ sym (c.loop-word.invariant names known)

pub loop-word-preserved : goal.loop-word-preserved
loop-word-preserved c = λ names known.
    c.loop-word.invariant names known
    ∙ unknown_later names c.args.words.now c.loop-word.word-index _ c.loop-word-test.true
    (sym (known _) ∙ sym c.contains_key.ensures ∙ c.if-not-contains_key.false)
