use Rattle.std.proofs.Common.{subst, ◌↔◌, IsTrue}
use Rattle.lrpar_grammar.specs.Words.{CoverBelow}
use Rattle.lrpar_grammar.proofs.TokenSetLemmas.{covers_all}
use Rattle.lrpar_grammar.proofs.token_set.TokenSet.covers.Goals as goal

pub returns : goal.returns
returns c =
    let same = covers_all c.self.inside.len c.self.inside.words.items c.self.invariant c.args.self.now c.self.view_is c.other.inside.len c.other.inside.words.items c.other.invariant c.args.other.now c.other.view_is in
    let cover = subst (λ words. IsTrue c.cover_below.result ↔ CoverBelow words c.other.inside.words.items c.other.inside.len) c.deref.ensures.value
    (subst (λ others. IsTrue c.cover_below.result ↔ CoverBelow c.deref.result.now others c.other.inside.len) c.deref-2.ensures.value c.cover_below.ensures) in (
      λ found. same.0 (cover.0 found),
      λ all. cover.1 (same.1 all),
    )
