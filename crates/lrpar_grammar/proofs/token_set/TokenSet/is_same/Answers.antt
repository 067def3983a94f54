use Rattle.std.proofs.Common.{◌∙◌, sym, subst}
use Rattle.std.proofs.lemmas.Bool.{eqb-true}
use Rattle.lrpar_grammar.specs.Words.{AreComparedAs}
use Rattle.lrpar_grammar.proofs.TokenSetLemmas.{rooms_differ, sets_same}
use Rattle.lrpar_grammar.proofs.token_set.TokenSet.is_same.Goals as goal

pub returns-then-self-other : goal.returns-then-self-other
returns-then-self-other c =
    let compared = subst (λ words. AreComparedAs words c.other.inside.words.items c.compare_words.result) c.deref.ensures.value
    (subst (λ others. AreComparedAs c.deref.result.now others c.compare_words.result) c.deref-then-self-other.ensures.value c.compare_words.ensures) in
    let same = sets_same c.self.inside.len c.self.inside.words.items c.self.invariant c.args.self.now c.self.view_is c.other.inside.len c.other.inside.words.items c.other.invariant c.args.other.now c.other.view_is c.compare_words.result compared c.if-self-other.true in (
      λ equal. same.0 (sym c.is_eq.ensures ∙ equal),
      λ one. c.is_eq.ensures ∙ same.1 one,
    )

pub returns-else-self-other : goal.returns-else-self-other
returns-else-self-other c = (
  λ equal. absurd (c.if-self-other.false (eqb-true c.self.inside.len c.other.inside.len equal)),
  λ same. absurd (c.if-self-other.false (rooms_differ c.self.inside.len c.self.inside.words.items c.self.invariant c.args.self.now c.self.view_is c.other.inside.len c.other.inside.words.items c.other.invariant c.args.other.now c.other.view_is same)),
)
