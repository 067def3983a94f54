use Rattle.std.proofs.Common.{arith, subst}
use Rattle.lrpar_grammar.specs.Grammar.{Grammar}
use Rattle.lrpar_table_pops.specs.Growth.{HaveRoomFor}
use Rattle.lrpar_table_pops.specs.StoredPops.{any_of}
use Rattle.lrpar_table_pops.proofs.SearchLemmas.{done_all, done_more, done_none}
use Rattle.lrpar_table_pops.proofs.check_completable.search.Goals as goal

pub stacks-init : goal.stacks-init
stacks-init g c = record {
  stacks = c.requires.stacks;
  all_good = λ whole pops. c.requires.all_good;
  room = subst (λ (x : Grammar). HaveRoomFor x c.in_ok-reduced.reduced.items) c.grm.ensures c.in_ok-reduced.ensures.room;
  done = done_none g.StorageT.StorageIndex.index c.args.checked.now.grammar c.args.checked.now.table (any_of c.args.pops.now) c.args.searched.now.stacks.items;
}

pub stacks-preserved : goal.stacks-preserved
stacks-preserved g c =
    let went = c.in_ok-go_on.ensures.gone_on in
    let test = c.stacks-test.true in
    let len = c.len.ensures in
    record {
      stacks = went.stacks;
      all_good = λ whole pops. went.all_good whole pops (c.stacks.invariant.all_good whole pops);
      room = c.in_ok-go_on.ensures.room;
      done = done_more g.StorageT.StorageIndex.index c.args.checked.now.grammar c.args.checked.now.table (any_of c.args.pops.now) c.stacks.searched.stacks.items
          c.go_on.new.searched.stacks.items c.stacks.place went.keeps (omega (arith, test, len)) c.stacks.invariant.done c.in_ok-go_on.ensures.completes went.gone_on;
    }

pub returns-clause-done : goal.returns-clause-done
returns-clause-done g c =
    let test = c.stacks-test.false in
    let len = c.len.ensures in
    done_all g.StorageT.StorageIndex.index c.args.checked.now.grammar c.args.checked.now.table (any_of c.args.pops.now) c.stacks.searched.stacks.items c.stacks.place
    (omega (arith, test, len)) c.stacks.invariant.done
