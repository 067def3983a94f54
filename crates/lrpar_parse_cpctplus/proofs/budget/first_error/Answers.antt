use Rattle.std.proofs.Common.{◌≡◌, ◌<◌, ℕ, [], arith, length, subst}
use Rattle.lrpar_table_stacks.specs.Run.{stays}
use Rattle.lrpar_table_stacks.specs.Stack.{states_of}
use Rattle.lrpar_parse_lexemes.specs.Views.{token_by}
use Rattle.lrpar_parse_cpctplus.specs.Budget.{IsFirstError}
use Rattle.lrpar_parse_cpctplus.proofs.BudgetLemmas.{comes_fed, stops_there}
use Rattle.lrpar_parse_cpctplus.proofs.budget.first_error.Goals as goal

pub returns-in_default : goal.returns-in_default
returns-in_default g c =
    let index = g.StorageT.StorageIndex.index in
    let token = token_by index g.LexemeT.Lexeme.parts in
    let at = c.args.point.now in
    let l = c.feeding in
    let states = states_of index l.states.items in
    let taken = rw (c.new-engine.ensures.checked, c.data.ensures.data, c.new-engine.ensures.lexemes, c.lexemes.ensures.lexemes) at c.in_ok-_next.ensures.taken in
    let before : l.place < at.place = omega (arith, c.feeding-test.true, c.place-place-end.ensures.place) in
    let inside : l.place < length at.lexemes = omega (arith, before, c.place-place-end.ensures.stop.within) in
    record {
      stack = states;
      fed = l.invariant.comes states l.place [] (stays states l.place);
      within = omega (arith, before);
      stops = λ _. stops_there token at.checked.grammar at.checked.table at.lexemes states (states_of index c.shift.new.stack.items) l.place _ inside taken c.in_default.is;
    }

pub feeding-preserved : goal.feeding-preserved
feeding-preserved g c =
    let index = g.StorageT.StorageIndex.index in
    let token = token_by index g.LexemeT.Lexeme.parts in
    let at = c.args.point.now in
    let l = c.feeding in
    let taken = rw (c.new-engine.ensures.checked, c.data.ensures.data, c.new-engine.ensures.lexemes, c.lexemes.ensures.lexemes) at c.in_ok-_next.ensures.taken in
    record {
      stack = rw (c.new-engine.ensures.checked, c.data.ensures.data) at c.in_ok-_next.ensures.stack;
      comes = λ after k ps rest.
          let fed =
          comes_fed token at.checked.grammar at.checked.table at.lexemes (states_of index l.states.items) (states_of index c.shift.new.stack.items) l.place c.in-Some._next _
          taken c.in-Some.is after k ps rest in
          l.invariant.comes after k fed.0 fed.1;
    }

pub returns : goal.returns
returns g c =
    let index = g.StorageT.StorageIndex.index in
    let token = token_by index g.LexemeT.Lexeme.parts in
    let at = c.args.point.now in
    let l = c.feeding in
    let states = states_of index l.states.items in
    let last : l.place ≡ c.place.result =
    omega (arith, c.feeding-test.false, c.feeding.auto.place-end, c.place-place-end.ensures.place, c.place.ensures.place) in
    let there : IsFirstError token at l.place =
    record {
      stack = states;
      fed = l.invariant.comes states l.place [] (stays states l.place);
      within = omega (arith, last, c.place.ensures.place);
      stops = λ before. absurd (omega (arith, before, last, c.place.ensures.place));
    } in
    subst (λ (n : ℕ). IsFirstError token at n) last there
