use Rattle.std.proofs.Common.{◌≡◌, ◌+◌, ◌-◌, ◌∙◌, ℕ, ap, arith, length, refl, subst, sym}
use Rattle.lrpar_parse_lexemes.specs.Views.{token_by}
use Rattle.lrpar_parse_cpctplus.specs.GraphView.{configured_at, nodes_in}
use Rattle.lrpar_parse_cpctplus.specs.Levels.{first_of}
use Rattle.lrpar_parse_cpctplus.specs.RoundView.{nodes_of, plain_attempts}
use Rattle.lrpar_parse_cpctplus.specs.SearchRound.{Adds, IsAttemptWithin}
use Rattle.lrpar_parse_cpctplus.proofs.AddLemmas.{range_begins, range_more, weight_past, weight_range}
use Rattle.lrpar_parse_cpctplus.proofs.HeldLemmas.{at_node, nodes_len}
use Rattle.lrpar_parse_cpctplus.proofs.LevelLemmas.{first_most}
use Rattle.lrpar_parse_cpctplus.proofs.search.Search.add_attempts_at.Goals as goal

pub returns-then-levels-less-clause-adds : goal.returns-then-levels-less-clause-adds
returns-then-levels-less-clause-adds g c =
    let index = g.StorageT.StorageIndex.index in
    let search = c.args.self.now in
    let graph = c.args.graph.now in
    weight_past (token_by index g.LexemeT.Lexeme.parts) search.terms.now.costs search.point.now (nodes_in c.args.stacks.now.stacks graph.configurations.keys) graph.firsts.items
    (length graph.firsts.items) c.args.weight (plain_attempts index c.args.attempts.now.items)
    (omega (arith, c.levels-levels.ensures.levels, c.from-less.ensures, c.if-levels-less.true))

pub loop-from-init : goal.loop-from-init
loop-from-init g c =
    let index = g.StorageT.StorageIndex.index in
    let token = token_by index g.LexemeT.Lexeme.parts in
    let search = c.args.self.now in
    let graph = c.args.graph.now in
    let nodes = nodes_in c.args.stacks.now.stacks graph.configurations.keys in
    let first = first_of graph.firsts.items (length nodes) (c.levels-levels.result - c.from-less.result) in
    let list = plain_attempts index c.args.attempts.now.items in
    let count = nodes_len c.args.stacks.now.stacks graph.configurations.keys in
    let same : first ≡ c.first-from.result =
    ap (λ (n : ℕ). first_of graph.firsts.items n (c.levels-levels.result - c.from-less.result)) count ∙ sym c.first-from.ensures in
    record {
      adds = subst (λ (n : ℕ). Adds (IsAttemptWithin token search.terms.now.costs search.point.now nodes first n c.args.weight) list list) same
          (range_begins token search.terms.now.costs search.point.now nodes first c.args.weight list);
      stacks = refl;
    }

pub at-requires : goal.at-requires
at-requires g c =
    let graph = c.args.graph.now in
    let most = first_most graph.firsts.items (length graph.configurations.keys) c.requires.levels (c.levels-levels.result - c.from-less.result + 1) in
    omega (arith, most, c.first-from-end.ensures, c.loop-from-test.true)

pub add_attempts_of-requires : goal.add_attempts_of-requires
add_attempts_of-requires g c =
    record { held = rw c.loop-from.invariant.stacks (c.requires.held c.loop-from.from c.at.result c.at.ensures) }

pub loop-from-preserved : goal.loop-from-preserved
loop-from-preserved g c =
    let index = g.StorageT.StorageIndex.index in
    let token = token_by index g.LexemeT.Lexeme.parts in
    let search = c.args.self.now in
    let graph = c.args.graph.now in
    let l = c.loop-from in
    let stacks = c.args.stacks.now.stacks in
    let keys = graph.configurations.keys in
    let nodes = nodes_in stacks keys in
    let distance = c.levels-levels.result - c.from-less.result in
    let first = first_of graph.firsts.items (length nodes) distance in
    let same : first ≡ c.first-from.result =
    ap (λ (n : ℕ). first_of graph.firsts.items n distance) (nodes_len stacks keys) ∙ sym c.first-from.ensures in
    let own = rw l.invariant.stacks at c.in_ok-add_attempts_of.ensures.adds in
    record {
      adds = range_more token search.terms.now.costs search.point.now nodes first c.args.weight l.from (configured_at stacks c.at.result)
          (plain_attempts index c.args.attempts.now.items) (plain_attempts index l.attempts.items) (plain_attempts index c.add_attempts_of.new.attempts.items)
          (omega (arith, same, l.auto.from)) (at_node stacks keys l.from c.at.result c.at.ensures) l.invariant.adds own;
      stacks = c.in_ok-add_attempts_of.ensures.stacks ∙ l.invariant.stacks;
    }

pub returns-clause-adds : goal.returns-clause-adds
returns-clause-adds g c =
    let index = g.StorageT.StorageIndex.index in
    let graph = c.args.graph.now in
    let nodes = nodes_of c.args.stacks.now graph in
    let l = c.loop-from in
    let distance = c.levels-levels.result - c.from-less.result in
    let rises = c.requires.levels.rising distance in
    let end : l.from ≡ first_of graph.firsts.items (length graph.configurations.keys) (distance + 1) =
    omega (arith, rises, c.first-from.ensures, c.first-from-end.ensures, c.loop-from-test.false, l.auto.from, l.auto.from-end) in
    let last : l.from ≡ first_of graph.firsts.items (length nodes) (distance + 1) =
    end ∙ ap (λ (n : ℕ). first_of graph.firsts.items n (distance + 1)) (sym (nodes_len c.args.stacks.now.stacks graph.configurations.keys)) in
    weight_range (token_by index g.LexemeT.Lexeme.parts) c.args.self.now.terms.now.costs c.args.self.now.point.now nodes graph.firsts.items (length graph.firsts.items)
    c.args.weight distance l.from (plain_attempts index c.args.attempts.now.items) (plain_attempts index l.attempts.items)
    (omega (arith, c.levels-levels.ensures.levels, c.from-less.ensures, c.if-levels-less.false)) last l.invariant.adds
