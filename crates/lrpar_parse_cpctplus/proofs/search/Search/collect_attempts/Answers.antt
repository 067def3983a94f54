use Rattle.std.proofs.Common.{◌∙◌, [], get_or, length, refl}
use Rattle.std.proofs.lemmas.List.{get_or_default}
use Rattle.lrpar_parse_lexemes.specs.Views.{token_by}
use Rattle.lrpar_parse_cpctplus.specs.GraphView.{nodes_in}
use Rattle.lrpar_parse_cpctplus.specs.RoundView.{plain_attempts}
use Rattle.lrpar_parse_cpctplus.proofs.AddLemmas.{weights_begin, weights_end, weights_more}
use Rattle.lrpar_parse_cpctplus.proofs.AttemptLemmas.{attempts_are}
use Rattle.lrpar_parse_cpctplus.proofs.search.Search.collect_attempts.Goals as goal

pub loop-weight-init : goal.loop-weight-init
loop-weight-init g c =
    let index = g.StorageT.StorageIndex.index in
    let search = c.args.self.now in
    let graph = c.args.graph.now in
    let none = weights_begin (token_by index g.LexemeT.Lexeme.parts) search.terms.now.costs search.point.now (nodes_in c.args.stacks.now.stacks graph.configurations.keys)
    graph.firsts.items (length graph.firsts.items) c.args.weights.now [] in
    record { adds = rw c.new-attempts.ensures.items none; stacks = refl }

pub add_attempts_at-requires : goal.add_attempts_at-requires
add_attempts_at-requires g c = record { held = rw c.loop-weight.invariant.stacks c.requires.held; levels = c.requires.levels }

pub loop-weight-preserved : goal.loop-weight-preserved
loop-weight-preserved g c =
    let index = g.StorageT.StorageIndex.index in
    let search = c.args.self.now in
    let graph = c.args.graph.now in
    let l = c.loop-weight in
    let weights = c.args.weights.now in
    let weight = get_or weights l.weight-index 0 in
    let below = c.loop-weight-test.true in
    let own = rw l.invariant.stacks at c.in_ok-add_attempts_at.ensures.adds in
    record {
      adds = weights_more (token_by index g.LexemeT.Lexeme.parts) search.terms.now.costs search.point.now (nodes_in c.args.stacks.now.stacks graph.configurations.keys)
          graph.firsts.items (length graph.firsts.items) weights l.weight-index weight [] (plain_attempts index l.attempts.items)
          (plain_attempts index c.add_attempts_at.new.attempts.items) c.requires.weights.once below (get_or_default weights l.weight-index 0 weight below) l.invariant.adds own;
      stacks = c.in_ok-add_attempts_at.ensures.stacks ∙ l.invariant.stacks;
    }

pub returns-clause-attempts : goal.returns-clause-attempts
returns-clause-attempts g c =
    let index = g.StorageT.StorageIndex.index in
    let token = token_by index g.LexemeT.Lexeme.parts in
    let search = c.args.self.now in
    let graph = c.args.graph.now in
    let l = c.loop-weight in
    let nodes = nodes_in c.args.stacks.now.stacks graph.configurations.keys in
    let weights = c.args.weights.now in
    let all = plain_attempts index l.attempts.items in
    attempts_are token search.terms.now.costs search.point.now nodes graph.firsts.items (length graph.firsts.items) weights all c.requires.weights
    (weights_end token search.terms.now.costs search.point.now nodes graph.firsts.items (length graph.firsts.items) weights l.weight-index [] all
    c.loop-weight-test.false l.invariant.adds)
