use Rattle.std.proofs.Common.{◌≡◌, ◌<◌, ◌≤◌, ◌+◌, ℕ, List, ap, arith, length, min, refl, subst}
use Rattle.std.specs.Int.{from_bool}
use Rattle.lrpar_table_shared_stacks.specs.SharedStacks.{current_stack}
use Rattle.lrpar_parse_lexemes.specs.Views.{token_by}
use Rattle.lrpar_parse_cpctplus.specs.Reaching.{is_far}
use Rattle.lrpar_parse_cpctplus.specs.RoundView.{ReachesBy}
use Rattle.lrpar_parse_cpctplus.specs.SearchRound.{ReachesFrom}
use Rattle.lrpar_parse_cpctplus.proofs.DistanceLemmas.{configured}
use Rattle.lrpar_parse_cpctplus.proofs.ReachLemmas.{reach_ends, reach_fails, reach_fed}
use Rattle.lrpar_parse_cpctplus.proofs.SharedLemmas.{extends_both, extends_none, extends_same, gone_stack, moved_extends}
use Rattle.lrpar_parse_cpctplus.proofs.search.Search.reach.Goals as goal

pub feeding-init : goal.feeding-init
feeding-init g c =
    let token = token_by g.StorageT.StorageIndex.index g.LexemeT.Lexeme.parts in
    let at = c.args.self.now.point.now in
    let old = c.args.stacks.now in
    let mid = c.go_to.new.self in
    record {
      stack = gone_stack at.checked.table old mid c.args.at.stack c.go_to.ensures.current c.requires.held.stack;
      extends = extends_same old mid mid c.go_to.ensures.stacks (extends_none mid);
      last = omega arith;
      left = λ far h.
          subst (λ (st : List ℕ). ReachesFrom token at (configured st c.args.at.place) far)
          c.go_to.ensures.current h;
    }

pub shift-requires-clause-tokens : goal.shift-requires-clause-tokens
shift-requires-clause-tokens g c = rw (c.engine-engine.ensures.checked, c.engine-engine.ensures.lexemes) c.engine-engine.ensures.tokens

pub shift-requires-clause-stack : goal.shift-requires-clause-stack
shift-requires-clause-stack g c = rw c.engine-engine.ensures.checked c.feeding.invariant.stack

pub returns-in_default : goal.returns-in_default
returns-in_default g c =
    let token = token_by g.StorageT.StorageIndex.index g.LexemeT.Lexeme.parts in
    let at = c.args.self.now.point.now in
    let l = c.feeding in
    let engine = c.engine-engine.ensures in
    let taken = rw (engine.checked, engine.lexemes) at c.in_ok-_next.ensures.taken in
    let long : length c.lexemes-end.result.now ≡ length at.lexemes = ap (λ (ls : List g.row.LexemeT.Denot). length ls) c.lexemes-end.ensures.lexemes in
    let within : l.place < at.place + 250 = omega (arith, c.feeding-test.true, c.min-place-end.ensures, c.saturating_add-most.ensures, c.place.ensures.place) in
    let inside : l.place < length at.lexemes = omega (arith, c.feeding-test.true, c.min-place-end.ensures, long) in
    record {
      reach = l.invariant.left l.place
          (reach_fails token at.checked.grammar at.checked.table at.lexemes (at.place + 250) (current_stack l.stacks) (current_stack c.shift.new.stack) l.place _ within inside
          taken c.in_default.is);
      extends = extends_both c.args.stacks.now l.stacks c.shift.new.stack l.invariant.extends (moved_extends _ _ _ _ _ l.stacks c.shift.new.stack c.in_ok-_next.ensures.moved);
    }

pub feeding-preserved : goal.feeding-preserved
feeding-preserved g c =
    let token = token_by g.StorageT.StorageIndex.index g.LexemeT.Lexeme.parts in
    let at = c.args.self.now.point.now in
    let l = c.feeding in
    let engine = c.engine-engine.ensures in
    let taken = rw (engine.checked, engine.lexemes) at c.in_ok-_next.ensures.taken in
    let within : l.place < at.place + 250 = omega (arith, c.feeding-test.true, c.min-place-end.ensures, c.saturating_add-most.ensures, c.place.ensures.place) in
    record {
      stack = rw engine.checked at c.in_ok-_next.ensures.stack;
      extends = extends_both c.args.stacks.now l.stacks c.shift.new.stack l.invariant.extends (moved_extends _ _ _ _ _ l.stacks c.shift.new.stack c.in_ok-_next.ensures.moved);
      last = omega (arith, c.feeding-test.true);
      left = λ far rest.
          l.invariant.left far
          (reach_fed token at.checked.grammar at.checked.table at.lexemes (at.place + 250) (current_stack l.stacks) (current_stack c.shift.new.stack) l.place c.in-Some._next _ within
          taken c.in-Some.is far rest);
    }

pub returns-then-max-end : goal.returns-then-max-end
returns-then-max-end g c =
    let index = g.StorageT.StorageIndex.index in
    let search = c.args.self.now in
    let at = search.point.now in
    let l = c.feeding in
    let long : length c.lexemes-end.result.now ≡ length at.lexemes = ap (λ (ls : List g.row.LexemeT.Denot). length ls) c.lexemes-end.ensures.lexemes in
    let short = c.if-max-end.true in
    let most : at.place + 250 ≡ c.saturating_add-most.result =
    omega (arith, short, c.max.ensures, c.saturating_add-most.ensures, c.place.ensures.place, c.lexemes-end.type_inv.0) in
    let past : at.place + 250 ≤ l.place =
    omega (arith, most, short, c.max.ensures, c.feeding-test.false, c.min-place-end.ensures) in
    let inside : l.place < length at.lexemes = omega (arith, long, short, c.max.ensures, l.invariant.last, c.min-place-end.ensures) in
    record {
      reach = subst (λ (n : ℕ). ReachesBy index g.LexemeT.Lexeme.parts search c.args.stacks.now c.args.at n) most
          (l.invariant.left (at.place + 250) (is_far (current_stack l.stacks) l.place past inside));
      extends = l.invariant.extends;
    }

pub try_accept-requires-clause-stack : goal.try_accept-requires-clause-stack
try_accept-requires-clause-stack g c = rw c.engine-engine.ensures.checked c.feeding.invariant.stack

pub returns : goal.returns
returns g c =
    let index = g.StorageT.StorageIndex.index in
    let token = token_by index g.LexemeT.Lexeme.parts in
    let search = c.args.self.now in
    let at = search.point.now in
    let l = c.feeding in
    let long : length c.lexemes-end.result.now ≡ length at.lexemes = ap (λ (ls : List g.row.LexemeT.Denot). length ls) c.lexemes-end.ensures.lexemes in
    let past : length at.lexemes ≤ l.place =
    omega (arith, long, c.if-max-end.false, c.max.ensures, c.feeding-test.false, c.min-place-end.ensures, c.feeding.auto.place) in
    let last : l.place ≤ length at.lexemes = omega (arith, long, l.invariant.last, c.min-place-end.ensures, c.requires.held.place) in
    let fact = rw c.engine-engine.ensures.checked at c.in_ok-ends.ensures.accepts in
    let far = reach_ends token at.checked.grammar at.checked.table at.lexemes (at.place + 250) (current_stack l.stacks) l.place c.in_ok-ends.ends past fact in
    let same : min l.place (at.place + 250) ≡ c.min.result =
    omega (arith, past, last, long, c.min.ensures, c.saturating_add-most.ensures, c.place.ensures.place, c.lexemes-end.type_inv.0) in
    let sum : min l.place (at.place + 250) + from_bool c.in_ok-ends.ends ≡ c.min.result + c.from.result = rw (same, c.from.ensures) refl in
    record {
      reach = subst (λ (n : ℕ). ReachesBy index g.LexemeT.Lexeme.parts search c.args.stacks.now c.args.at n) sum
          (l.invariant.left (min l.place (at.place + 250) + from_bool c.in_ok-ends.ends) far);
      extends = extends_both c.args.stacks.now l.stacks c.try_accept.new.stack l.invariant.extends (moved_extends _ _ _ _ _ l.stacks c.try_accept.new.stack c.in_ok-ends.ensures.moved);
    }
