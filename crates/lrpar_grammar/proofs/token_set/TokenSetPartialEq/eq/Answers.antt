use Rattle.std.proofs.Common.{◌∙◌, ap, sym}
use Rattle.std.specs.Ordering.{is_eq}
use Rattle.lrpar_grammar.specs.SetOrder.{sets_tie}
use Rattle.lrpar_grammar.proofs.token_set.TokenSetPartialEq.eq.Goals as goal

pub returns : goal.returns
returns c = c.is_eq.ensures ∙ ap is_eq c.cmp.ensures ∙ sym (sets_tie c.args.self.now c.args.other.now)
