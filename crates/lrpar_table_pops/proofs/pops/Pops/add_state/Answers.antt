use Rattle.std.proofs.Common.{◌∙◌, None, Some, subst, sym, ℕ}
use Rattle.lrpar_table_pops.specs.FoundAll.{HasRoomFor}
use Rattle.lrpar_table_pops.specs.Growth.{HaveRoomFor}
use Rattle.lrpar_table_pops.specs.StoredAll.{IsClosedIf, IsClosedState}
use Rattle.lrpar_table_pops.specs.Sets.{RuleTokens}
use Rattle.lrpar_table_pops.proofs.SaturateLemmas.{saturates_then, state_closed}
use Rattle.lrpar_table_pops.proofs.pops.Pops.add_state.Goals as goal

pub returns-else-at_tokens-clause-all : goal.returns-else-at_tokens-clause-all
returns-else-at_tokens-clause-all g c = λ sound low sets places.
    let d = c.args.checked.now in
    let s = g.StorageT.StorageIndex.index c.args.state.0 in
    let first = c.args.self.now in
    let at_tokens = c.add_at_tokens-at_tokens in
    let at_any = c.add_at_any-at_any in
    let now = at_tokens.new.self in
    let next = at_any.new.self in
    let room : HasRoomFor d.grammar d.graph s c.enter.new.self = record {
      exits = c.in_ok-enter.ensures.places;
      reduced = subst (λ (v : RuleTokens). HaveRoomFor d.grammar v.items) (sym c.in_ok-enter.ensures.sets.0) sets.0;
      followed = subst (λ (v : RuleTokens). HaveRoomFor d.grammar v.items) (sym c.in_ok-enter.ensures.sets.1) sets.1;
    } in
    let tokens = at_tokens.ensures.all sound low room places in
    let any = at_any.ensures.all sound low tokens.1 tokens.0.ways in (
      saturates_then d.grammar d.graph d.table s at_tokens.result at_any.result at_any.result ((t : ℕ) → IsClosedIf d.grammar d.graph d.table first s (Some t))
          (IsClosedIf d.grammar d.graph d.table now s None) (IsClosedState d.grammar d.graph d.table first s) first now next (λ is. is)
          (λ off. off ∙ sym c.if-at_tokens.false) (state_closed d.grammar d.graph d.table first now s) tokens.0 any.0,
      (any.1.reduced, any.1.followed),
    )
