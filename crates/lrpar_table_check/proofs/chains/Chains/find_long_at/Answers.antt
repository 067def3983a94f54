use Rattle.std.proofs.Common.{◌<◌, arith}
use Rattle.lrpar_table_rows.specs.Table.{gotos_at}
use Rattle.lrpar_table_check.proofs.ChainEntryLemmas.{first_more, first_of_all, gotos_len, stored_goto}
use Rattle.lrpar_table_check.proofs.chains.Chains.find_long_at.Goals as goal

pub find_long_until-requires-in-loop-place-clause-above : goal.find_long_until-requires-in-loop-place-clause-above
find_long_until-requires-in-loop-place-clause-above g c =
    let index = g.StorageT.StorageIndex.index in
    let at = c.gotos_of.ensures in
    let stored =
    stored_goto index _ c.args.s _ _ at.entries at.states at.exact at.within _ _ _ c.loop-place-test.true c.index-rules-place.is c.index-nexts-place.is in
    stored.within

pub loop-place-preserved : goal.loop-place-preserved
loop-place-preserved g c =
    let index = g.StorageT.StorageIndex.index in
    let d = c.args.self.now in
    let at = c.gotos_of.ensures in
    let stored =
    stored_goto index _ c.args.s _ _ at.entries at.states at.exact at.within _ _ _ c.loop-place-test.true c.index-rules-place.is c.index-nexts-place.is in
    first_more d.grm.now d.stable.now d.cap (index c.args.s.0) (gotos_at d.stable.now (index c.args.s.0)) d.stable.now.tokens at.exact c.loop-place.place
    c.loop-place.end (index c.index-rules-place.result.0, index c.index-nexts-place.result.0) c.in_ok-end-2.end stored.below stored.read
    c.loop-place.invariant c.in_ok-end-2.ensures

pub returns-then-end-tokens : goal.returns-then-end-tokens
returns-then-end-tokens g c =
    let index = g.StorageT.StorageIndex.index in
    let d = c.args.self.now in
    let at = c.gotos_of.ensures in
    let len = gotos_len index d.stable.now c.args.s _ _ at.entries at.states in
    let token : c.loop-place.end < d.stable.now.tokens = omega (arith, c.if-end-tokens.true, c.tokens_len-tokens.ensures.tokens) in (
      token,
      c.loop-place.invariant.long token,
      first_of_all d.grm.now d.stable.now d.cap (index c.args.s.0) (gotos_at d.stable.now (index c.args.s.0)) d.stable.now.tokens at.exact c.loop-place.place
          c.loop-place.end (omega (arith, len, c.loop-place-test.false)) c.loop-place.invariant,
    )

pub returns-else-end-tokens : goal.returns-else-end-tokens
returns-else-end-tokens g c = λ t token.
    let index = g.StorageT.StorageIndex.index in
    let d = c.args.self.now in
    let at = c.gotos_of.ensures in
    let len = gotos_len index d.stable.now c.args.s _ _ at.entries at.states in
    first_of_all d.grm.now d.stable.now d.cap (index c.args.s.0) (gotos_at d.stable.now (index c.args.s.0)) d.stable.now.tokens at.exact c.loop-place.place
    c.loop-place.end (omega (arith, len, c.loop-place-test.false)) c.loop-place.invariant t
    (omega (arith, c.if-end-tokens.false, c.tokens_len-tokens.ensures.tokens, token))
