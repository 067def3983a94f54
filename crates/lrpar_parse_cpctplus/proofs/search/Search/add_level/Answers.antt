use Rattle.std.proofs.lemmas.Result.{IfOk-weaker}
use Rattle.lrpar_parse_cpctplus.specs.RoundView.{GrowsByShifts, IsAddedLevel}
use Rattle.lrpar_parse_cpctplus.proofs.SearchLemmas.{dues_begin, level_begins, none_yet, round_begins_next, still_growing}
use Rattle.lrpar_parse_cpctplus.proofs.SharedLemmas.{either_way}
use Rattle.lrpar_parse_cpctplus.proofs.search.Search.add_level.Goals as goal

pub add_reached-requires : goal.add_reached-requires
add_reached-requires g c =
    let index = g.StorageT.StorageIndex.index in
    let parts = g.LexemeT.Lexeme.parts in
    let begun = c.in_ok-begin_level.ensures in
    record {
      growing = level_begins index parts c.args.self.now c.args.stacks.now c.args.graph.now c.begin_level.new.self c.len-first.result c.args.attempts.now c.requires.round
          c.requires.attempts c.requires.least begun.firsts begun.configurations begun.links c.len-first.ensures.len c.requires.within;
      due = dues_begin index parts c.args.self.now c.args.stacks.now c.args.graph.now c.begin_level.new.self c.len-first.result c.args.attempts.now c.requires.round
          c.requires.attempts c.requires.least begun.firsts begun.configurations begun.links c.len-first.ensures.len;
    }

pub add_shifts-requires : goal.add_shifts-requires
add_shifts-requires g c =
    let index = g.StorageT.StorageIndex.index in
    let parts = g.LexemeT.Lexeme.parts in
    let begun = c.in_ok-begin_level.ensures in
    let both = rw c.if-branch.true at c.in_ok-add_reached.ensures in
    record {
      growing = still_growing index parts c.args.self.now (level_begins index parts c.args.self.now c.args.stacks.now c.args.graph.now c.begin_level.new.self c.len-first.result
          c.args.attempts.now c.requires.round c.requires.attempts c.requires.least begun.firsts begun.configurations begun.links c.len-first.ensures.len c.requires.within)
          both.0 both.1;
      none = none_yet index parts c.args.self.now c.args.stacks.now c.args.graph.now c.begin_level.new.self c.len-first.result c.args.attempts.now c.requires.round
          c.requires.attempts c.requires.least begun.firsts begun.configurations begun.links c.len-first.ensures.len c.add_reached.new.stacks c.add_reached.new.graph both.0;
    }

pub returns-then-branch : goal.returns-then-branch
returns-then-branch g c =
    let index = g.StorageT.StorageIndex.index in
    let parts = g.LexemeT.Lexeme.parts in
    let search = c.args.self.now in
    let begun = c.in_ok-begin_level.ensures in
    let both = rw c.if-branch.true at c.in_ok-add_reached.ensures in
    let mid_stacks = c.add_reached.new.stacks in
    let mid = c.add_reached.new.graph in
    let new_stacks = c.add_shifts.new.stacks in
    let new_graph = c.add_shifts.new.graph in
    IfOk-weaker c.add_shifts.result _ _
    (either_way (GrowsByShifts index parts search c.len-first.result mid_stacks mid new_stacks new_graph)
    (IsAddedLevel index parts search c.args.stacks.now c.args.graph.now new_stacks new_graph)
    (λ good.
    round_begins_next index parts search c.args.stacks.now c.args.graph.now c.begin_level.new.self c.len-first.result c.args.attempts.now c.requires.round c.requires.attempts
    c.requires.least begun.firsts begun.configurations begun.links c.len-first.ensures.len mid_stacks mid both.0 c.limit-lemma.ensures.costs new_stacks new_graph good.0 good.1)
    (λ bad. bad.0))
    c.add_shifts.ensures

pub returns-else-branch : goal.returns-else-branch
returns-else-branch g c = let past = rw c.if-branch.false at c.in_ok-add_reached.ensures in past.0
