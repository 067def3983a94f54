use Rattle.std.proofs.Common.{List, arith, subst}
use Rattle.std.proofs.lemmas.Bool.{OnTrue_at}
use Rattle.std.proofs.lemmas.List.{take_all}
use Rattle.lrpar_table_pops.specs.Exits.{HaveAllExits}
use Rattle.lrpar_table_pops.specs.declared.exits.Exit.{Exit}
use Rattle.lrpar_table_pops.proofs.ExitLemmas.{covers_more}
use Rattle.lrpar_table_pops.proofs.exits.Exits.cover.Goals as goal

pub loop-place-preserved : goal.loop-place-preserved
loop-place-preserved c =
    covers_more c.args.self.now c.args.others.now c.loop-place.place c.get.result.now c.get.ensures.at c.loop-place.invariant
    (OnTrue_at c.if-not-covers.false c.covers.ensures)

pub returns : goal.returns
returns c =
    let all = take_all c.loop-place.place c.args.others.now (omega (arith, c.len-place-end.ensures, c.loop-place-test.false)) in
    subst (λ (l : List Exit). HaveAllExits c.args.self.now l) all c.loop-place.invariant
