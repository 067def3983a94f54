use Rattle.std.proofs.Common.{◌-◌, length, refl}
use Rattle.lrpar_parse_lexemes.specs.Views.{token_by}
use Rattle.lrpar_parse_repair.specs.PlainSteps.{plain_step}
use Rattle.lrpar_parse_cpctplus.specs.GraphView.{plain_links}
use Rattle.lrpar_parse_cpctplus.proofs.HeldLemmas.{all_held_stay, held_numbered}
use Rattle.lrpar_parse_cpctplus.proofs.SharedLemmas.{step_linked, step_stopped}
use Rattle.lrpar_parse_cpctplus.proofs.search.Search.add_step.Goals as goal

pub try_step-requires : goal.try_step-requires
try_step-requires g c = record { held = c.requires.growing.held c.args.from c.at.result c.at.ensures }

pub returns-in_ok-link : goal.returns-in_ok-link
returns-in_ok-link g c =
    let index = g.StorageT.StorageIndex.index in
    let token = token_by index g.LexemeT.Lexeme.parts in
    let at = c.args.self.now.point.now in
    let graph = c.args.graph.now in
    let keys = graph.configurations.keys in
    let old = c.args.stacks.now in
    let new = c.try_step.new.stacks in
    let growing = c.requires.growing in
    let extends = c.in_ok-reached.ensures.extends in
    let linked = c.in_ok-link.ensures.linked in
    let stay = all_held_stay at.checked.table (length at.lexemes) old new extends keys growing.held in
    let held = rw c.in-Some.is at c.in_ok-reached.ensures.leads.held in
    record {
      held = held_numbered at.checked.table (length at.lexemes) new.stacks keys c.link.new.self.configurations.keys c.in-Some.reached linked.to stay held linked.numbered;
      firsts = c.in_ok-link.ensures.firsts;
      grown = step_linked token c.args.self.now.terms.now.costs at c.args.first (length graph.firsts.items - 1) old new extends keys growing.held
          (plain_links index graph.links.items) growing.known c.args.from c.at.result (plain_step index c.args.step) c.at.ensures c.requires.due c.in-Some.reached
          (rw c.in-Some.is at c.in_ok-reached.ensures.leads.leads) c.len-lemma.ensures.apart held stay linked.to c.link.new.self.configurations.keys
          (plain_links index c.link.new.self.links.items) linked.numbered linked.kept;
    }

pub returns-in_default : goal.returns-in_default
returns-in_default g c =
    let index = g.StorageT.StorageIndex.index in
    let token = token_by index g.LexemeT.Lexeme.parts in
    let at = c.args.self.now.point.now in
    let graph = c.args.graph.now in
    let keys = graph.configurations.keys in
    let growing = c.requires.growing in
    let extends = c.in_ok-reached.ensures.extends in
    record {
      held = all_held_stay at.checked.table (length at.lexemes) c.args.stacks.now c.try_step.new.stacks extends keys growing.held;
      firsts = refl;
      grown = step_stopped token c.args.self.now.terms.now.costs at c.args.first (length graph.firsts.items - 1) c.args.stacks.now c.try_step.new.stacks extends keys growing.held
          (plain_links index graph.links.items) growing.known c.args.from c.at.result (plain_step index c.args.step) c.at.ensures c.requires.due
          (rw c.in_default.is at c.in_ok-reached.ensures.leads.leads);
    }
