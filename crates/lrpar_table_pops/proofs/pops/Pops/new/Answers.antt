use Rattle.std.proofs.Common.{◌∙◌, ap, arith, Bool, List, subst, sym}
use Rattle.std.proofs.lemmas.Bool.{OnFalse_at}
use Rattle.lrpar_grammar.specs.Grammar.{Grammar}
use Rattle.lrpar_table_rows.specs.Table.{states_len}
use Rattle.lrpar_table_pops.specs.Growth.{HaveRoomFor}
use Rattle.lrpar_table_pops.specs.StoredAll.{IsMarked}
use Rattle.lrpar_table_pops.proofs.MarkLemmas.{all_marked}
use Rattle.lrpar_table_pops.proofs.RoundLemmas.{all_settled}
use Rattle.lrpar_table_pops.proofs.StepLemmas.{safe_alone}
use Rattle.lrpar_table_pops.proofs.pops.Pops.new.Goals as goal

pub add_round-requires-clause-alone : goal.add_round-requires-clause-alone
add_round-requires-clause-alone g c =
    let d = c.args.checked.now in
    let sound = c.stable.ensures.sound in
    safe_alone d.grammar d.graph d.table sound.safe sound.states

pub rounds-init : goal.rounds-init
rounds-init g c =
    let d = c.args.checked.now in
    let made = c.in_ok-changed.ensures.items_if_clones_equal (λ y same. same) in
    let states = c.states_len.ensures.states ∙ ap states_len c.stable.ensures.table in
    record {
      pops = c.in_ok-pops.ensures.pops;
      places = c.in_ok-pops.ensures.places;
      sets = (
        subst (λ (x : Grammar). HaveRoomFor x c.in_ok-found.found.reduced.items) c.grm.ensures c.in_ok-found.ensures.0,
        subst (λ (x : Grammar). HaveRoomFor x c.in_ok-found.found.followed.items) c.grm.ensures c.in_ok-found.ensures.1,
      );
      settled = λ s low untouched. absurd (untouched.itself
          (subst (λ (m : List Bool). IsMarked m s) (sym made) (all_marked c.states_len.result s (omega (arith, low, states)))));
    }

pub rounds-preserved : goal.rounds-preserved
rounds-preserved g c = record {
  pops = c.in_ok-add_round.ensures.pops;
  places = c.in_ok-add_round.ensures.all.ways;
  sets = c.in_ok-add_round.ensures.all.sets;
  settled = c.in_ok-add_round.ensures.all.closed;
}

pub returns-then-not-branch-clause-all : goal.returns-then-not-branch-clause-all
returns-then-not-branch-clause-all g c =
    let d = c.args.checked.now in
    let round = c.in_ok-add_round.ensures.all in
    let sound = c.stable.ensures.sound in
    all_settled d.grammar d.graph d.table c.add_round.new.self c.add_round.new.changed.items sound round.closed (OnFalse_at c.if-not-branch.true round.marks)
