use Rattle.std.proofs.Common.{◌≤◌, ◌+◌, ◌∙◌, inl, inr, ℕ, List, arith, length, subst, sym}
use Rattle.lrpar_parse_lexemes.specs.Views.{token_by}
use Rattle.lrpar_parse_cpctplus.specs.Configurations.{Configured}
use Rattle.lrpar_parse_cpctplus.specs.GraphView.{nodes_in, plain_links}
use Rattle.lrpar_parse_cpctplus.specs.Levels.{AreLevels}
use Rattle.lrpar_parse_cpctplus.specs.RoundView.{nodes_of, plain_attempts, plain_endings}
use Rattle.lrpar_parse_cpctplus.specs.SearchRound.{AreAttempts, IsFoundBy}
use Rattle.lrpar_parse_cpctplus.proofs.EndingLemmas.{next_least}
use Rattle.lrpar_parse_cpctplus.proofs.HeldLemmas.{nodes_len}
use Rattle.lrpar_parse_cpctplus.proofs.NumberLemmas.{none_of, some_of}
use Rattle.lrpar_parse_cpctplus.proofs.ResultLemmas.{AreBehind, behind_more, behind_now, found_by, nothing_behind, nothing_past_limit, round_past_limit}
use Rattle.lrpar_parse_cpctplus.proofs.SearchLemmas.{endings_len, round_stays}
use Rattle.lrpar_parse_cpctplus.proofs.search.Search.run_rounds.Goals as goal

pub returns-then-limit-len : goal.returns-then-limit-len
returns-then-limit-len g c =
    let index = g.StorageT.StorageIndex.index in
    let token = token_by index g.LexemeT.Lexeme.parts in
    let search = c.args.self.now in
    let graph = c.args.graph.now in
    let stacks = c.args.stacks.now.stacks in
    let keys = graph.configurations.keys in
    let nodes = nodes_in stacks keys in
    nothing_past_limit token search.terms.now.costs search.point.now search.limit nodes
    (round_past_limit token search.terms.now.costs search.point.now nodes graph.firsts.items (plain_links index graph.links.items) c.requires.round.known search.limit
    (omega (arith, c.limit-limit.ensures.limit, c.len.ensures.len, nodes_len stacks keys, c.if-limit-len.true)))

pub rounds-init : goal.rounds-init
rounds-init g c =
    let index = g.StorageT.StorageIndex.index in
    let search = c.args.self.now in
    let graph = c.args.graph.now in
    record {
      round = c.requires.round;
      behind = behind_now (token_by index g.LexemeT.Lexeme.parts) search.terms.now.costs search.point.now (nodes_in c.args.stacks.now.stacks graph.configurations.keys)
          graph.firsts.items (plain_links index graph.links.items) c.requires.round.known;
      within = omega (arith, c.len.ensures.len, c.if-limit-len.false);
      few = omega arith;
    }

pub collect_attempts-requires : goal.collect_attempts-requires
collect_attempts-requires g c =
    let l = c.rounds in
    record {
      held = l.invariant.round.held;
      levels = subst (AreLevels l.graph.firsts.items) (nodes_len l.stacks.stacks l.graph.configurations.keys) l.invariant.round.known.levels;
      weights = c.requires.weights;
    }

pub collect_endings-requires-clause-held : goal.collect_endings-requires-clause-held
collect_endings-requires-clause-held g c = rw c.in_ok-attempts.ensures.stacks c.rounds.invariant.round.held

pub returns-then-not-is_empty : goal.returns-then-not-is_empty
returns-then-not-is_empty g c =
    let index = g.StorageT.StorageIndex.index in
    let parts = g.LexemeT.Lexeme.parts in
    let token = token_by index parts in
    let search = c.args.self.now in
    let l = c.rounds in
    let same = c.in_ok-attempts.ensures.stacks in
    let links = plain_links index l.graph.links.items in
    let there = (round_stays index parts search l.stacks c.collect_attempts.new.stacks c.collect_endings.new.stacks l.graph l.invariant.round same c.in_ok-endings.ensures.extends).1 in
    let endings = plain_endings index c.in_ok-endings.endings.items in
    let found = rw (c.deref.ensures.value, same) at c.in_ok-endings.ensures.endings in
    let some = some_of endings c.in_ok-endings.endings.len (endings_len index c.in_ok-endings.endings) (sym c.is_empty.ensures ∙ c.if-not-is_empty.true) in
    let within : length (nodes_of l.stacks l.graph) ≤ search.limit =
    omega (arith, nodes_len l.stacks.stacks l.graph.configurations.keys, l.invariant.within, c.limit-limit.ensures.limit) in
    subst (λ (ns : List Configured). IsFoundBy token search.terms.now.costs search.point.now search.limit ns links endings) (sym there)
    (found_by token search.terms.now.costs search.point.now (nodes_of l.stacks l.graph) l.graph.firsts.items links l.invariant.round.known search.limit
    c.limit-limit.ensures.costs (plain_attempts index c.in_ok-attempts.attempts.items) c.in_ok-attempts.ensures.attempts endings found some.0 some.1 within)

pub add_level-requires : goal.add_level-requires
add_level-requires g c =
    let index = g.StorageT.StorageIndex.index in
    let parts = g.LexemeT.Lexeme.parts in
    let token = token_by index parts in
    let search = c.args.self.now in
    let at = search.point.now in
    let l = c.rounds in
    let same = c.in_ok-attempts.ensures.stacks in
    let firsts = l.graph.firsts.items in
    let stays = round_stays index parts search l.stacks c.collect_attempts.new.stacks c.collect_endings.new.stacks l.graph l.invariant.round same c.in_ok-endings.ensures.extends in
    let attempts = plain_attempts index c.in_ok-attempts.attempts.items in
    let endings = plain_endings index c.in_ok-endings.endings.items in
    let found = rw (c.deref.ensures.value, same) at c.in_ok-endings.ensures.endings in
    let none = none_of endings c.in_ok-endings.endings.len (endings_len index c.in_ok-endings.endings) (sym c.is_empty.ensures ∙ c.if-not-is_empty.false) in
    record {
      round = stays.0;
      attempts = rw c.deref-in-rounds.ensures.value
          (subst (λ (ns : List Configured). AreAttempts token search.terms.now.costs at ns firsts (length firsts) attempts) (sym stays.1) c.in_ok-attempts.ensures.attempts);
      least = next_least token search.terms.now.costs at c.limit-limit.ensures.costs (nodes_of l.stacks l.graph) firsts (plain_links index l.graph.links.items)
          l.invariant.round.known attempts c.in_ok-attempts.ensures.attempts endings found c.shifts-lemma.ensures.stop none;
      within = omega (arith, l.invariant.within, c.limit-limit.ensures.limit);
    }

pub returns-then-not-branch : goal.returns-then-not-branch
returns-then-not-branch g c =
    let index = g.StorageT.StorageIndex.index in
    let search = c.args.self.now in
    let past = rw c.if-not-branch.true at c.in_ok-add_level.ensures in
    nothing_past_limit (token_by index g.LexemeT.Lexeme.parts) search.terms.now.costs search.point.now search.limit
    (nodes_in c.add_level.new.stacks.stacks c.add_level.new.graph.configurations.keys) past.past

pub rounds-preserved : goal.rounds-preserved
rounds-preserved g c =
    let index = g.StorageT.StorageIndex.index in
    let token = token_by index g.LexemeT.Lexeme.parts in
    let search = c.args.self.now in
    let costs = search.terms.now.costs in
    let at = search.point.now in
    let l = c.rounds in
    let keys = l.graph.configurations.keys in
    let firsts = l.graph.firsts.items in
    let late = c.collect_endings.new.stacks in
    let there = (round_stays index g.LexemeT.Lexeme.parts search l.stacks c.collect_attempts.new.stacks late l.graph l.invariant.round c.in_ok-attempts.ensures.stacks
    c.in_ok-endings.ensures.extends).1 in
    let new_stacks = c.add_level.new.stacks.stacks in
    let new_keys = c.add_level.new.graph.configurations.keys in
    let new_firsts = c.add_level.new.graph.firsts.items in
    let new = nodes_in new_stacks new_keys in
    let next = rw c.if-not-branch.false at c.in_ok-add_level.ensures in
    let behind = subst (λ (ns : List Configured). AreBehind token costs at ns (length firsts) l.empty) (sym there) l.invariant.behind in
    record {
      round = next.round;
      behind =
          elim c.rounds_without-empty.ensures as (λ _. AreBehind token costs at new (length new_firsts) c.rounds_without-empty.result) [
            | inl grown ↦
                subst (λ (n : ℕ). AreBehind token costs at new (length new_firsts) n) (sym grown.1)
                (behind_now token costs at new new_firsts (plain_links index c.add_level.new.graph.links.items) next.round.known)
            | inr same ↦
                let few : length new ≤ length (nodes_in late.stacks keys) =
                omega (arith, same.0, c.len-before.ensures.len, c.len-in-rounds.ensures.len, nodes_len new_stacks new_keys, nodes_len late.stacks keys) in
                let more = behind_more token costs at (nodes_in late.stacks keys) new (length firsts) l.empty next.stay few behind in
                let later = subst (λ (n : ℕ). AreBehind token costs at new n (l.empty + 1)) (sym next.next) more in
                subst (λ (n : ℕ). AreBehind token costs at new (length new_firsts) n) (sym same.1) later
          ];
      within = omega (arith, next.within, c.limit-limit.ensures.limit);
      few = elim c.rounds_without-empty.ensures as (λ _. c.rounds_without-empty.result ≤ 255) [
        | inl grown ↦ omega (arith, grown.1)
        | inr same ↦ omega (arith, same.1, c.rounds-test.true)
      ];
    }

pub returns : goal.returns
returns g c =
    let index = g.StorageT.StorageIndex.index in
    let search = c.args.self.now in
    let l = c.rounds in
    nothing_behind (token_by index g.LexemeT.Lexeme.parts) search.terms.now.costs search.point.now search.limit
    (nodes_in l.stacks.stacks l.graph.configurations.keys) l.graph.firsts.items (plain_links index l.graph.links.items) l.empty l.invariant.round.known
    c.limit-limit.ensures.costs l.invariant.behind c.rounds-test.false
