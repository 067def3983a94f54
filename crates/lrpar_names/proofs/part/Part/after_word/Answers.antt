use Rattle.std.proofs.Common.{sym}
use Rattle.lrpar_names.specs.Parts.{plain}
use Rattle.lrpar_names.proofs.PartLemmas.{no_word_after, word_after}
use Rattle.lrpar_names.proofs.part.Part.after_word.Goals as goal

pub returns-in_err-text : goal.returns-in_err-text
returns-in_err-text c =
    rw c.from_residual.ensures (sym (no_word_after c.args.word.now (plain c.args.self) c.in_err-text.ensures.cases))

pub returns : goal.returns
returns c = word_after c.args.word.now (plain c.args.self) c.in_ok-text.text.now c.in_ok-text.ensures.cases
