use Rattle.std.proofs.Common.{[], ◌++◌, ◌∷◌, List, subst, sym}
use Rattle.std.proofs.lemmas.Bool.{OnTrue_at}
use Rattle.lrpar_table_pops.specs.Searched.{AreStacks, IsMet, IsMetAt, IsStackAt, KeepsStacks}
use Rattle.lrpar_table_pops.specs.declared.searched.Stack.{Stack}
use Rattle.lrpar_table_pops.proofs.SearchLemmas.{at_read, at_same, at_before, covered_met, joined_within, keeps_all, keeps_pushed, pushed_met, stacks_pushed}
use Rattle.lrpar_table_pops.specs.Searched.{AreAllGood}
use Rattle.lrpar_table_pops.proofs.StuckLemmas.{all_good_pushed}
use Rattle.lrpar_table_pops.proofs.searched.Searched.add.Goals as goal

pub returns-then-is_covered-clause-met : goal.returns-then-is_covered-clause-met
returns-then-is_covered-clause-met g c = λ stack there.
    let index = g.StorageT.StorageIndex.index in
    let gr = c.args.checked.now.grammar in
    let table = c.args.checked.now.table in
    let stacks = c.args.self.now.stacks.items in
    let next = index c.args.next.0 in
    let under = c.index.result.now in
    let at : IsStackAt stacks c.args.place under = at_read stacks c.args.place under c.requires.place c.index.ensures in
    let leads = c.in_ok-good.ensures.good (index under.top.0) (c.requires.reduced under at) in
    subst (λ (x : Stack g.row.StorageT.Denot). IsMet index gr table stacks x next) (at_same stacks c.args.place under stack at there)
    (covered_met index gr table stacks under next c.in_ok-good.good (OnTrue_at c.if-is_covered.true c.is_covered.ensures) leads)

pub returns-then-is_covered-clause-added : goal.returns-then-is_covered-clause-added
returns-then-is_covered-clause-added g c = record {
  stacks = c.requires.stacks;
  keeps = keeps_all c.args.self.now.stacks.items;
  all_good = λ all_good all_reduced. all_good;
}

pub returns-clause-met : goal.returns-clause-met
returns-clause-met g c =
    let index = g.StorageT.StorageIndex.index in
    let gr = c.args.checked.now.grammar in
    let table = c.args.checked.now.table in
    let stacks = c.args.self.now.stacks.items in
    let next = index c.args.next.0 in
    let under = c.index.result.now in
    let new : Stack g.row.StorageT.Denot = record { below = c.args.place; top = c.args.next; good = c.in_ok-good.good } in
    let at : IsStackAt stacks c.args.place under = at_read stacks c.args.place under c.requires.place c.index.ensures in
    let leads = c.in_ok-good.ensures.good (index under.top.0) (c.requires.reduced under at) in
    let more = stacks ++ new ∷ [] in
    let met : IsMetAt index gr table more c.args.place next = λ stack there.
    let same = at_same stacks c.args.place under stack at (at_before stacks more (keeps_pushed stacks new) c.args.place stack c.requires.place there) in
    subst (λ (x : Stack g.row.StorageT.Denot). IsMet index gr table more x next) same (pushed_met index gr table stacks under new leads) in
    subst (λ (l : List (Stack g.row.StorageT.Denot)). IsMetAt index gr table l c.args.place next) (sym c.in_ok-push.ensures) met

pub returns-clause-added : goal.returns-clause-added
returns-clause-added g c =
    let index = g.StorageT.StorageIndex.index in
    let d = c.args.checked.now in
    let stacks = c.args.self.now.stacks.items in
    let under = c.index.result.now in
    let sound = c.stable-lemma.ensures.sound in
    let new : Stack g.row.StorageT.Denot = record { below = c.args.place; top = c.args.next; good = c.in_ok-good.good } in
    let at : IsStackAt stacks c.args.place under = at_read stacks c.args.place under c.requires.place c.index.ensures in
    let within = joined_within d.table (index under.top.0) (index c.args.next.0) sound.closed (c.requires.joined under at) in
    record {
      stacks = subst (λ (l : List (Stack g.row.StorageT.Denot)). AreStacks index d.grammar d.table l) (sym c.in_ok-push.ensures)
          (stacks_pushed index d.grammar d.table stacks new c.requires.stacks c.requires.place c.requires.joined within);
      keeps = subst (λ (l : List (Stack g.row.StorageT.Denot)). KeepsStacks stacks l) (sym c.in_ok-push.ensures) (keeps_pushed stacks new);
      all_good = λ all_good all_reduced.
          subst (λ (l : List (Stack g.row.StorageT.Denot)). AreAllGood index d.grammar d.graph d.table l) (sym c.in_ok-push.ensures)
          (all_good_pushed index d.grammar d.graph d.table sound stacks new under c.args.reduced.now c.requires.stacks all_good at
          (c.requires.joined under at) (all_reduced under at) c.in_ok-good.ensures.all);
    }
