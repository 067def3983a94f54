use Rattle.std.proofs.Common.{◌≡◌, ◌<◌, ◌+◌, ◌∙◌, arith, false, refl, Some, sym, true}
use Rattle.std.specs.Bool.{OnTrue}
use Rattle.lrpar_table_pops.specs.StoredAll.{IsClosedIf}
use Rattle.lrpar_table_pops.specs.StoredPops.{room_of}
use Rattle.lrpar_table_pops.proofs.ExitLemmas.{less_new, less_on}
use Rattle.lrpar_table_pops.proofs.GrowthLemmas.{read_at}
use Rattle.lrpar_table_pops.proofs.SaturateLemmas.{AreTokensClosed, saturates_none, saturates_by, saturates_then, tokens_closed_all, tokens_closed_more}
use Rattle.lrpar_table_pops.proofs.pops.Pops.add_at_tokens.Goals.{then-add_at, else-add_at}
use Rattle.lrpar_table_pops.proofs.pops.Pops.add_at_tokens.Goals as goal

pub tokens-init : goal.tokens-init
tokens-init g c =
    let d = c.args.checked.now in
    record {
      pops = c.requires.pops;
      all = λ sound low room places. (saturates_none d.grammar d.graph d.table _ _ c.args.self.now places (λ i token under at. absurd (omega (arith, under))), room);
      less = tt;
      no_more = omega arith;
    }

pub tokens-preserved : goal.tokens-preserved
tokens-preserved g c =
    let index = g.StorageT.StorageIndex.index in
    let d = c.args.checked.now in
    let s = index c.args.state.0 in
    let l = c.tokens in
    let first = c.args.self.now in
    let next = c.add_at.new.self in
    let tokens = c.actions_at.result.0.now in
    let token = c.index-tokens-place.result in
    let there = read_at tokens tokens l.place token refl c.tokens-test.true c.index-tokens-place.is in
    let up : c.add_at.result ≡ true → c.if-add_at.grown ≡ true = elim c.if-add_at.branch [
      | then-add_at w ↦ λ is. w.grown-is
      | else-add_at w ↦ λ is. absurd (let no : true ≡ false = sym is ∙ w.if-add_at.false in let none : ⊥ = cc in none)
    ] in
    let keep : c.add_at.result ≡ false → c.if-add_at.grown ≡ l.grown = elim c.if-add_at.branch [
      | then-add_at w ↦ λ is. absurd (let no : true ≡ false = sym w.if-add_at.true ∙ is in let none : ⊥ = cc in none)
      | else-add_at w ↦ λ is. w.grown-is
    ] in
    let was = room_of first in
    let less : OnTrue c.if-add_at.grown (room_of next < was) = elim c.if-add_at.branch [
      | then-add_at w ↦ less_new c.add_at.result c.if-add_at.grown was (room_of l.self) (room_of next) w.if-add_at.true l.invariant.no_more c.add_at.ensures.less
      | else-add_at w ↦ less_on l.grown c.if-add_at.grown was (room_of l.self) (room_of next) w.grown-is c.add_at.ensures.no_more l.invariant.less
    ] in
    record {
      pops = c.add_at.ensures.pops;
      less = less;
      no_more = omega (arith, l.invariant.no_more, c.add_at.ensures.no_more);
      all = λ sound low room places.
          let before = l.invariant.all sound low room places in
          let now = c.add_at.ensures.all sound low before.1 before.0.ways in (
            saturates_then d.grammar d.graph d.table s l.grown c.add_at.result c.if-add_at.grown (AreTokensClosed index d.grammar d.graph d.table first s tokens l.place)
                (IsClosedIf d.grammar d.graph d.table l.self s (Some (index token.0))) (AreTokensClosed index d.grammar d.graph d.table first s tokens (l.place + 1)) first l.self next up keep
                (tokens_closed_more index d.grammar d.graph d.table first l.self s tokens l.place token there) before.0 now.0,
            now.1,
          );
    }

pub returns-clause-all : goal.returns-clause-all
returns-clause-all g c = λ sound low room places.
    let index = g.StorageT.StorageIndex.index in
    let d = c.args.checked.now in
    let s = index c.args.state.0 in
    let l = c.tokens in
    let tokens = c.actions_at.result.0.now in
    let first = c.args.self.now in
    let done = l.invariant.all sound low room places in
    let all = rw c.stable.ensures.table at c.actions_at.ensures.all in (
      saturates_by d.grammar d.graph d.table s l.grown (AreTokensClosed index d.grammar d.graph d.table first s tokens l.place) _ first l.self
          (tokens_closed_all index d.grammar d.graph d.table first c.args.state tokens l.place c.tokens-test.false all) done.0,
      done.1,
    )
