use Rattle.std.proofs.Common.{◌<◌, arith, subst, sym, ℕ, Bool, List, IsTrue, length}
use Rattle.std.specs.Bool.{OnFalse}
use Rattle.std.proofs.lemmas.Bool.{OnFalse_at, OnFalse_from}
use Rattle.lrpar_table_first.specs.FirstRows.{total_missing}
use Rattle.lrpar_table_sentences.proofs.GrowthLemmas.{pass_grows, pass_stays}
use Rattle.lrpar_table_stops.specs.Met.{HasRoomFor, is_met}
use Rattle.lrpar_table_stops.specs.ErrorStates.{LooksAt}
use Rattle.lrpar_table_stops.proofs.MetLemmas.{room_for}
use Rattle.lrpar_table_stops.proofs.met.add_tokens.Goals as goal
use Rattle.lrpar_table_stops.proofs.met.add_tokens.Goals.{then-add_token, else-add_token}

pub add_token-requires : goal.add_token-requires
add_token-requires g c =
    let index = g.StorageT.StorageIndex.index in
    let are = c.loop-token.invariant.0 in
    let states = are.states in
    let low = c.requires.state in
    let within : index c.args.state.0 < length c.loop-token.sets = omega (arith, low, states) in
    let token : c.loop-token.token < c.args.stable.now.tokens = let count = c.tokens_len-token-end.ensures.tokens in omega (arith, count, c.loop-token-test.true) in
    record {
      room = subst (λ s. HasRoomFor c.loop-token.sets s c.loop-token.token) (sym c.from.ensures)
          (within, room_for c.args.grm.now c.args.stable.now c.loop-token.sets (index c.args.state.0) c.loop-token.token are within token);
    }

pub loop-token-preserved : goal.loop-token-preserved
loop-token-preserved g c =
    let index = g.StorageT.StorageIndex.index in
    let done = λ (xs : List (List Bool)) (n : ℕ). IsTrue (is_met xs (index c.args.state.0) n) in
    let n = c.loop-token.token in
    let token : n < c.args.stable.now.tokens = let count = c.tokens_len-token-end.ensures.tokens in omega (arith, count, c.loop-token-test.true) in
    let here = subst (λ s. OnFalse c.add_token.result (IsTrue (is_met c.add_token.new.sets s n))) c.from.ensures c.add_token.ensures.closed in
    let looks = subst (λ s. LooksAt c.args.grm.now c.args.stable.now s n) (sym c.from.ensures) (c.requires.looks n token) in
    let right = c.add_token.ensures.right c.args.grm.now c.args.stable.now c.loop-token.invariant.0 looks in
    elim c.if-add_token.branch [
      | then-add_token w ↦
          let both = pass_grows total_missing done c.args.sets.now c.loop-token.sets c.add_token.new.sets n c.loop-token.grown c.add_token.result c.if-add_token.grown
          c.loop-token.invariant.1 c.loop-token.invariant.2 c.add_token.ensures.grown c.add_token.ensures.same here w.if-add_token.true w.grown-is in
          (right, both.0, both.1)
      | else-add_token w ↦
          let both = pass_stays total_missing done c.args.sets.now c.loop-token.sets c.add_token.new.sets n c.loop-token.grown c.add_token.result c.if-add_token.grown
          c.loop-token.invariant.1 c.loop-token.invariant.2 c.add_token.ensures.grown c.add_token.ensures.same here w.if-add_token.false w.grown-is in
          (right, both.0, both.1)
    ]

pub returns-clause-closed : goal.returns-clause-closed
returns-clause-closed g c =
    OnFalse_from c.loop-token.grown _ (λ h n known.
    (OnFalse_at h c.loop-token.invariant.2).1 n (let count = c.tokens_len-token-end.ensures.tokens in omega (arith, known, count, c.loop-token-test.false)))
