use Rattle.std.proofs.Common.{length, subst}
use Rattle.std.proofs.lemmas.Bool.{both_ways}
use Rattle.lrpar_parse_lexemes.specs.Views.{token_by}
use Rattle.lrpar_parse_repair.specs.PlainSteps.{plain_step}
use Rattle.lrpar_parse_cpctplus.specs.Configurations.{Configured, GoesOnFrom}
use Rattle.lrpar_parse_cpctplus.specs.GraphView.{configured_at}
use Rattle.lrpar_parse_cpctplus.specs.SearchRound.{ReachesFrom}
use Rattle.lrpar_parse_cpctplus.proofs.GrowLemmas.{edge_one}
use Rattle.lrpar_parse_cpctplus.proofs.HeldLemmas.{configured_stays}
use Rattle.lrpar_parse_cpctplus.proofs.SharedLemmas.{extends_both}
use Rattle.lrpar_parse_cpctplus.proofs.search.Search.reach_after.Goals as goal

pub returns-in_default-clause-reach : goal.returns-in_default-clause-reach
returns-in_default-clause-reach g c =
    let none = rw c.in_default.is at c.in_ok-reached.ensures.leads.leads in
    λ v edge on. none v edge

pub returns-in_ok-reach : goal.returns-in_ok-reach
returns-in_ok-reach g c =
    let index = g.StorageT.StorageIndex.index in
    let token = token_by index g.LexemeT.Lexeme.parts in
    let at = c.args.self.now.point.now in
    let mid = c.try_step.new.stacks in
    let late = c.can_go_on.new.stacks in
    let held = rw c.in-Some.is at c.in_ok-reached.ensures.leads.held in
    let same = configured_stays at.checked.table (length at.lexemes) mid late c.in_ok-can_go_on.ensures.extends c.in-Some.reached held.within in
    record {
      reach = record {
        head = configured_at mid.stacks c.in-Some.reached;
        edge = rw c.in-Some.is at c.in_ok-reached.ensures.leads.leads;
        goes_on = c.in_ok-can_go_on.ensures.goes_on.0 c.if-branch.true;
        reach = subst (λ (v : Configured). ReachesFrom token at v c.in_ok-reach.field-0) same c.in_ok-reach.ensures.reach;
      };
      extends = extends_both c.args.stacks.now mid c.reach.new.stacks c.in_ok-reached.ensures.extends
          (extends_both mid late c.reach.new.stacks c.in_ok-can_go_on.ensures.extends c.in_ok-reach.ensures.extends);
    }

pub returns-else-branch-clause-reach : goal.returns-else-branch-clause-reach
returns-else-branch-clause-reach g c =
    let index = g.StorageT.StorageIndex.index in
    let token = token_by index g.LexemeT.Lexeme.parts in
    let at = c.args.self.now.point.now in
    let mid = c.try_step.new.stacks in
    let own = rw c.in-Some.is at c.in_ok-reached.ensures.leads.leads in
    λ v edge on.
    let same = edge_one token at (configured_at c.args.stacks.now.stacks c.args.at) v (configured_at mid.stacks c.in-Some.reached) (plain_step index c.args.step) edge own in
    absurd (both_ways _ c.if-branch.false (c.in_ok-can_go_on.ensures.goes_on.1 (subst (λ (w : Configured). GoesOnFrom token at w) same on)))
