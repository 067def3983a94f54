use Rattle.std.proofs.Common.{subst, ◌↔◌, IsTrue}
use Rattle.lrpar_grammar.specs.Words.{HaveOneBoth}
use Rattle.lrpar_grammar.proofs.TokenSetLemmas.{have_common}
use Rattle.lrpar_grammar.proofs.token_set.TokenSet.has_common.Goals as goal

pub returns : goal.returns
returns c =
    let same = have_common c.self.inside.len c.self.inside.words.items c.self.invariant c.args.self.now c.self.view_is c.other.inside.len c.other.inside.words.items c.other.invariant c.args.other.now c.other.view_is in
    let both = subst (λ words. IsTrue c.have_common.result ↔ HaveOneBoth words c.other.inside.words.items) c.deref.ensures.value
    (subst (λ others. IsTrue c.have_common.result ↔ HaveOneBoth c.deref.result.now others) c.deref-2.ensures.value c.have_common.ensures) in (
      λ found. same.0 (both.0 found),
      λ common. both.1 (same.1 common),
    )
