use Rattle.std.proofs.Common.{◌≤◌, ◌-◌, ◌∙◌, arith, length, refl}
use Rattle.std.proofs.lemmas.List.{length-map}
use Rattle.lrpar_parse_lexemes.specs.Views.{token_by}
use Rattle.lrpar_parse_cpctplus.specs.GraphView.{nodes_in, plain_links}
use Rattle.lrpar_parse_cpctplus.specs.RoundView.{plain_attempt, plain_attempts}
use Rattle.lrpar_parse_cpctplus.proofs.NumberLemmas.{mapped_at, taken_at}
use Rattle.lrpar_parse_cpctplus.proofs.SearchLemmas.{exceeds, still_growing}
use Rattle.lrpar_parse_cpctplus.proofs.StepsLemmas.{among_begins, among_due, among_end, among_more}
use Rattle.lrpar_parse_cpctplus.proofs.search.Search.add_reached.Goals as goal

pub loop-attempt-init : goal.loop-attempt-init
loop-attempt-init g c =
    let index = g.StorageT.StorageIndex.index in
    let graph = c.args.graph.now in
    record {
      grows = record {
        held = c.requires.growing.held;
        firsts = refl;
        grown = among_begins (token_by index g.LexemeT.Lexeme.parts) c.args.self.now.terms.now.costs c.args.self.now.point.now c.args.first (length graph.firsts.items - 1)
            (nodes_in c.args.stacks.now.stacks graph.configurations.keys) (plain_links index graph.links.items) (plain_attempts index c.args.attempts.now)
            c.requires.growing.known;
      };
      within = c.requires.growing.within;
    }

pub add_step-requires : goal.add_step-requires
add_step-requires g c =
    let index = g.StorageT.StorageIndex.index in
    let graph = c.args.graph.now in
    let l = c.loop-attempt in
    let k = l.attempt-index in
    let attempts = plain_attempts index c.args.attempts.now in
    let x = plain_attempt index c.attempt-item.result in
    let here = mapped_at (plain_attempt index) c.args.attempts.now k c.attempt-item.result c.loop-attempt-test.true c.attempt-item.is in
    let due = c.requires.due.each x (taken_at attempts k x here.0 here.1) in
    record {
      growing = still_growing index g.LexemeT.Lexeme.parts c.args.self.now c.requires.growing l.invariant.grows l.invariant.within;
      due = rw l.invariant.grows.firsts (among_due (token_by index g.LexemeT.Lexeme.parts) c.args.self.now.terms.now.costs c.args.self.now.point.now c.args.first (length graph.firsts.items - 1)
          (nodes_in c.args.stacks.now.stacks graph.configurations.keys) (plain_links index graph.links.items) attempts k x here.0 here.1
          (nodes_in l.stacks.stacks l.graph.configurations.keys) (plain_links index l.graph.links.items) l.invariant.grows.grown c.requires.due.once due);
    }

pub returns-then-limit-len : goal.returns-then-limit-len
returns-then-limit-len g c =
    exceeds g.StorageT.StorageIndex.index g.LexemeT.Lexeme.parts c.args.self.now c.args.first c.args.stacks.now c.args.graph.now
    c.loop-attempt.stacks c.loop-attempt.graph c.add_step.new.stacks c.add_step.new.graph c.requires.growing c.loop-attempt.invariant.grows c.in_ok-add_step.ensures (omega (arith, c.limit.ensures.limit, c.len.ensures.len, c.if-limit-len.true))

pub loop-attempt-preserved : goal.loop-attempt-preserved
loop-attempt-preserved g c =
    let index = g.StorageT.StorageIndex.index in
    let graph = c.args.graph.now in
    let l = c.loop-attempt in
    let k = l.attempt-index in
    let attempts = plain_attempts index c.args.attempts.now in
    let x = plain_attempt index c.attempt-item.result in
    let here = mapped_at (plain_attempt index) c.args.attempts.now k c.attempt-item.result c.loop-attempt-test.true c.attempt-item.is in
    let own = rw l.invariant.grows.firsts at c.in_ok-add_step.ensures.grown in
    record {
      grows = record {
        held = c.in_ok-add_step.ensures.held;
        firsts = c.in_ok-add_step.ensures.firsts ∙ l.invariant.grows.firsts;
        grown = among_more (token_by index g.LexemeT.Lexeme.parts) c.args.self.now.terms.now.costs c.args.self.now.point.now c.args.first (length graph.firsts.items - 1)
            (nodes_in c.args.stacks.now.stacks graph.configurations.keys) (plain_links index graph.links.items) attempts k x here.0 here.1
            (nodes_in l.stacks.stacks l.graph.configurations.keys) (plain_links index l.graph.links.items) l.invariant.grows.grown
            (nodes_in c.add_step.new.stacks.stacks c.add_step.new.graph.configurations.keys) (plain_links index c.add_step.new.graph.links.items) own;
      };
      within = omega (arith, c.limit.ensures.limit, c.len.ensures.len, c.if-limit-len.false);
    }

pub returns : goal.returns
returns g c =
    let index = g.StorageT.StorageIndex.index in
    let graph = c.args.graph.now in
    let l = c.loop-attempt in
    let attempts = plain_attempts index c.args.attempts.now in
    let past : length attempts ≤ l.attempt-index = omega (arith, length-map c.args.attempts.now (plain_attempt index), c.loop-attempt-test.false) in (
      record {
        held = l.invariant.grows.held;
        firsts = l.invariant.grows.firsts;
        grown = among_end (token_by index g.LexemeT.Lexeme.parts) c.args.self.now.terms.now.costs c.args.self.now.point.now c.args.first (length graph.firsts.items - 1)
            (nodes_in c.args.stacks.now.stacks graph.configurations.keys) (plain_links index graph.links.items) attempts l.attempt-index
            (nodes_in l.stacks.stacks l.graph.configurations.keys) (plain_links index l.graph.links.items) past l.invariant.grows.grown;
      },
      l.invariant.within,
    )
