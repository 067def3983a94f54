use Rattle.std.proofs.Common.{◌∙◌, ap, subst}
use Rattle.std.specs.Ordering.{ordering_then}
use Rattle.lrpar_grammar.specs.Words.{AreComparedAs}
use Rattle.lrpar_grammar.proofs.TokenSetLemmas.{sets_compare}
use Rattle.lrpar_grammar.proofs.token_set.TokenSetOrd.cmp.Goals as goal

pub returns : goal.returns
returns c =
    let compared = subst (λ words. AreComparedAs words c.other.inside.words.items c.compare_words.result) c.deref.ensures.value
    (subst (λ others. AreComparedAs c.deref.result.now others c.compare_words.result) c.deref-2.ensures.value c.compare_words.ensures) in
    c.then.ensures ∙ ap (ordering_then c.compare_words.result) c.cmp.ensures ∙ sets_compare c.self.inside.len c.self.inside.words.items c.self.invariant c.args.self.now c.self.view_is c.other.inside.len c.other.inside.words.items c.other.invariant c.args.other.now c.other.view_is c.compare_words.result compared
