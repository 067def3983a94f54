use Rattle.std.proofs.Common.{None, sym}
use Rattle.std.proofs.lemmas.Str.Pattern.{strip_prefix_char}
use Rattle.lrpar_names.specs.Parts.{plain}
use Rattle.lrpar_names.proofs.PartLemmas.{none_after}
use Rattle.lrpar_names.proofs.part.Part.after_byte.Goals as goal

pub returns-in_err-text : goal.returns-in_err-text
returns-in_err-text c =
    rw c.from_residual.ensures (sym (none_after c.args.byte (plain c.args.self)
    (strip_prefix_char c.args.byte c.args.self.text.now None c.in_err-text.ensures.cases c.requires)))
