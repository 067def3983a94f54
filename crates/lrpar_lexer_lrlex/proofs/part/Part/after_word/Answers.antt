use Rattle.std.proofs.Common.{sym}
use Rattle.lrpar_lexer_lrlex.specs.Parts.{placed}
use Rattle.lrpar_lexer_lrlex.proofs.PartLemmas.{no_word_after, word_after}
use Rattle.lrpar_lexer_lrlex.proofs.part.Part.after_word.Goals as goal

pub returns-in_err-text : goal.returns-in_err-text
returns-in_err-text c =
    rw c.from_residual.ensures (sym (no_word_after c.args.word.now (placed c.args.self) c.in_err-text.ensures.cases))

pub returns : goal.returns
returns c = word_after c.args.word.now (placed c.args.self) c.in_ok-text.text.now c.in_ok-text.ensures.cases
