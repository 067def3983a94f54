use Rattle.std.proofs.Common.{◌≡◌, ◌+◌, refl, take, ◌∙◌, List, arith, subst}
use Rattle.std.proofs.lemmas.List.{take_all}
use Rattle.lrpar_table_pops.specs.Exits.{HasExit}
use Rattle.lrpar_table_pops.specs.Found.{StaysFound}
use Rattle.lrpar_table_pops.specs.declared.exits.Exit.{Exit}
use Rattle.std.specs.Prelude.{IsTrue}
use Rattle.lrpar_grammar.specs.Tokens.{has}
use Rattle.lrpar_table_pops.specs.FoundAll.{FindsAll, IsAmong}
use Rattle.lrpar_table_pops.specs.Growth.{SomeHasLookahead}
use Rattle.lrpar_table_pops.proofs.FoundAllLemmas.{among_more, among_none, finds_none, finds_then}
use Rattle.lrpar_table_pops.proofs.FoundLemmas.{stays_more}
use Rattle.lrpar_table_pops.proofs.found.Found.add_all.Goals as goal

pub loop-place-init : goal.loop-place-init
loop-place-init g c = record {
  stays = λ table s at leads found. found;
  all = finds_none c.args.grm.now (IsAmong c.args.grm.now (SomeHasLookahead (take 0 c.args.above.now))) c.args.self.now (among_none c.args.grm.now c.args.above.now);
  followed = refl;
}

pub loop-place-preserved : goal.loop-place-preserved
loop-place-preserved g c = record {
  stays = stays_more c.args.grm.now c.args.above.now c.loop-place.place c.get.result.now c.args.self.now c.loop-place.self c.add_exit.new.self c.get.ensures.at
      c.loop-place.invariant.stays c.add_exit.ensures.stays;
  all = finds_then c.args.grm.now (IsAmong c.args.grm.now (SomeHasLookahead (take c.loop-place.place c.args.above.now)))
      (IsAmong c.args.grm.now (λ w t. (w ≡ c.get.result.now.way) × IsTrue (has c.get.result.now.tokens t)))
      (IsAmong c.args.grm.now (SomeHasLookahead (take (c.loop-place.place + 1) c.args.above.now))) c.args.self.now c.loop-place.self c.add_exit.new.self
      (among_more c.args.grm.now c.args.above.now c.loop-place.place c.get.result.now c.get.ensures.at) c.loop-place.invariant.all c.add_exit.ensures.all;
  followed = c.add_exit.ensures.followed ∙ c.loop-place.invariant.followed;
}

pub returns-clause-stays : goal.returns-clause-stays
returns-clause-stays g c =
    let all = take_all c.loop-place.place c.args.above.now (omega (arith, c.len-place-end.ensures, c.loop-place-test.false)) in
    subst (λ (l : List Exit). StaysFound c.args.grm.now (HasExit l) c.args.self.now c.loop-place.self) all c.loop-place.invariant.stays

pub returns-clause-all : goal.returns-clause-all
returns-clause-all g c =
    let whole = take_all c.loop-place.place c.args.above.now (omega (arith, c.len-place-end.ensures, c.loop-place-test.false)) in
    subst (λ (l : List Exit). FindsAll c.args.grm.now (IsAmong c.args.grm.now (SomeHasLookahead l)) c.args.self.now c.loop-place.self) whole c.loop-place.invariant.all
