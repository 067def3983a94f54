use Rattle.std.proofs.Common.{map, ap, sym, ◌∙◌}
use Rattle.lrpar_grammar_words.specs.Words.{placed}
use Rattle.lrpar_grammar_reader.specs.Spells.{is_token}
use Rattle.lrpar_grammar_reader.proofs.GrowthLemmas.{left_out, pushed_passing}
use Rattle.lrpar_grammar_reader.proofs.tables.push_tokens.Goals as goal
use Rattle.lrpar_grammar_reader.proofs.tables.push_tokens.Goals.{then-is_token+in_ok-push, else-is_token}

pub loop-word-preserved : goal.loop-word-preserved
loop-word-preserved c =
    let symbols = c.args.symbols.now in
    let items = c.loop-word.words.items in
    let base = map placed c.args.words.now.items in
    let i = c.loop-word.word-index in
    elim c.if-is_token.branch [
      | then-is_token+in_ok-push w ↦
          pushed_passing placed (is_token c.args.declared.now) items _ base symbols i _ c.loop-word-test.true
          (ap (λ v. v.items) w.words-is ∙ w.in_ok-push.ensures.items) (sym c.is_token.ensures ∙ w.if-is_token.true) c.loop-word.invariant
      | else-is_token w ↦
          left_out placed (is_token c.args.declared.now) items _ base symbols i _ c.loop-word-test.true
          (ap (λ v. v.items) w.words-is) (sym c.is_token.ensures ∙ w.if-is_token.false) c.loop-word.invariant
    ]
