use Rattle.std.proofs.Common.{◌<◌, ◌-◌, ◌∙◌, arith, get_or, length, refl}
use Rattle.std.proofs.lemmas.Option.{slice_get-get_or}
use Rattle.lrpar_parse_lexemes.specs.Views.{token_by}
use Rattle.lrpar_parse_cpctplus.specs.Configurations.{root_of}
use Rattle.lrpar_parse_cpctplus.specs.GraphView.{nodes_in, plain_links}
use Rattle.lrpar_parse_cpctplus.proofs.HeldLemmas.{nodes_len}
use Rattle.lrpar_parse_cpctplus.proofs.SearchLemmas.{exceeds, still_growing}
use Rattle.lrpar_parse_cpctplus.proofs.StepsLemmas.{shift_due, shifts_begin, shifts_end, shifts_more}
use Rattle.lrpar_parse_cpctplus.proofs.search.Search.add_shifts.Goals as goal

pub shifts-init : goal.shifts-init
shifts-init g c =
    let index = g.StorageT.StorageIndex.index in
    let graph = c.args.graph.now in
    record {
      grows = record {
        held = c.requires.growing.held;
        firsts = refl;
        grown = shifts_begin (token_by index g.LexemeT.Lexeme.parts) c.args.self.now.terms.now.costs c.args.self.now.point.now c.args.first (length graph.firsts.items - 1)
            (nodes_in c.args.stacks.now.stacks graph.configurations.keys) (plain_links index graph.links.items) c.requires.growing.known;
      };
      low = omega arith;
      within = c.requires.growing.within;
    }

pub add_step-requires : goal.add_step-requires
add_step-requires g c =
    let index = g.StorageT.StorageIndex.index in
    let at = c.args.self.now.point.now in
    let graph = c.args.graph.now in
    let l = c.shifts in
    let nodes = nodes_in l.stacks.stacks l.graph.configurations.keys in
    let below : l.from < length nodes = omega (arith, c.len.ensures.len, nodes_len l.stacks.stacks l.graph.configurations.keys, c.shifts-test.true) in
    let is = slice_get-get_or nodes l.from (root_of at) below in
    record {
      growing = still_growing index g.LexemeT.Lexeme.parts c.args.self.now c.requires.growing l.invariant.grows l.invariant.within;
      due = rw l.invariant.grows.firsts (shift_due (token_by index g.LexemeT.Lexeme.parts) c.args.self.now.terms.now.costs at c.args.first (length graph.firsts.items - 1)
          (nodes_in c.args.stacks.now.stacks graph.configurations.keys) (plain_links index graph.links.items) l.from l.invariant.low nodes
          (plain_links index l.graph.links.items) l.invariant.grows.grown (get_or nodes l.from (root_of at)) is c.requires.none);
    }

pub returns-then-limit-len : goal.returns-then-limit-len
returns-then-limit-len g c =
    exceeds g.StorageT.StorageIndex.index g.LexemeT.Lexeme.parts c.args.self.now c.args.first c.args.stacks.now c.args.graph.now
    c.shifts.stacks c.shifts.graph c.add_step.new.stacks c.add_step.new.graph c.requires.growing c.shifts.invariant.grows c.in_ok-add_step.ensures (omega (arith, c.limit.ensures.limit, c.len-in-shifts.ensures.len, c.if-limit-len.true))

pub shifts-preserved : goal.shifts-preserved
shifts-preserved g c =
    let index = g.StorageT.StorageIndex.index in
    let graph = c.args.graph.now in
    let l = c.shifts in
    let own = rw l.invariant.grows.firsts at c.in_ok-add_step.ensures.grown in
    record {
      grows = record {
        held = c.in_ok-add_step.ensures.held;
        firsts = c.in_ok-add_step.ensures.firsts ∙ l.invariant.grows.firsts;
        grown = shifts_more (token_by index g.LexemeT.Lexeme.parts) c.args.self.now.terms.now.costs c.args.self.now.point.now c.args.first (length graph.firsts.items - 1)
            (nodes_in c.args.stacks.now.stacks graph.configurations.keys) (plain_links index graph.links.items) l.from l.invariant.low
            (nodes_in l.stacks.stacks l.graph.configurations.keys) (plain_links index l.graph.links.items) l.invariant.grows.grown
            (nodes_in c.add_step.new.stacks.stacks c.add_step.new.graph.configurations.keys) (plain_links index c.add_step.new.graph.links.items) own;
      };
      low = omega (arith, l.invariant.low);
      within = omega (arith, c.limit.ensures.limit, c.len-in-shifts.ensures.len, c.if-limit-len.false);
    }

pub returns : goal.returns
returns g c =
    let index = g.StorageT.StorageIndex.index in
    let graph = c.args.graph.now in
    let l = c.shifts in
    let keys = l.graph.configurations.keys in (
      record {
        held = l.invariant.grows.held;
        firsts = l.invariant.grows.firsts;
        grown = shifts_end (token_by index g.LexemeT.Lexeme.parts) c.args.self.now.terms.now.costs c.args.self.now.point.now c.args.first (length graph.firsts.items - 1)
            (nodes_in c.args.stacks.now.stacks graph.configurations.keys) (plain_links index graph.links.items) l.from l.invariant.low
            (nodes_in l.stacks.stacks keys) (plain_links index l.graph.links.items) l.invariant.grows.grown (length keys) (nodes_len l.stacks.stacks keys)
            (omega (arith, c.len.ensures.len, c.shifts-test.false));
      },
      l.invariant.within,
    )
