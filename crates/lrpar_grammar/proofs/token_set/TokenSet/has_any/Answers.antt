use Rattle.std.proofs.Common.{◌∙◌, sym, subst, ◌↔◌, IsTrue}
use Rattle.lrpar_grammar.specs.Words.{HaveAny}
use Rattle.lrpar_grammar.proofs.TokenSetLemmas.{set_has}
use Rattle.lrpar_grammar.proofs.token_set.TokenSet.has_any.Goals as goal

pub returns : goal.returns
returns c =
    let in_set = set_has c.self.inside.len c.self.inside.words.items c.self.invariant c.args.self.now c.self.view_is in
    let has = subst (λ words. IsTrue c.have_any.result ↔ HaveAny words) c.deref.ensures.value c.have_any.ensures in (
      λ found. let any = has.0 found in (any.0, in_set any.0 ∙ any.1),
      λ any. has.1 (any.0, sym (in_set any.0) ∙ any.1),
    )
