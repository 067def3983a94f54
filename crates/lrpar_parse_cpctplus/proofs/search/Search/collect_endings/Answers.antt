use Rattle.std.proofs.Common.{◌≤◌, ◌+◌, List, None, Some, arith, inl, inr, length, subst, sym, take}
use Rattle.std.proofs.lemmas.List.{length-map}
use Rattle.std.proofs.lemmas.Option.{slice_get_within}
use Rattle.lrpar_parse_lexemes.specs.Views.{token_by}
use Rattle.lrpar_parse_cpctplus.specs.Configurations.{Configured}
use Rattle.lrpar_parse_cpctplus.specs.Graph.{PlainEnding}
use Rattle.lrpar_parse_cpctplus.specs.GraphView.{configured_at, nodes_in}
use Rattle.lrpar_parse_cpctplus.specs.RoundView.{plain_attempt, plain_attempts, plain_endings}
use Rattle.lrpar_parse_cpctplus.specs.SearchRound.{AreEndingsOf, IsReach}
use Rattle.lrpar_parse_cpctplus.proofs.EndingLemmas.{endings_all, endings_more, endings_none, endings_skip}
use Rattle.lrpar_parse_cpctplus.proofs.HeldLemmas.{at_node, configured_stays, held_stays, nodes_len}
use Rattle.lrpar_parse_cpctplus.proofs.NumberLemmas.{mapped_at, taken_at}
use Rattle.lrpar_parse_cpctplus.proofs.SharedLemmas.{extends_both, extends_none}
use Rattle.lrpar_parse_cpctplus.proofs.search.Search.collect_endings.Goals as goal

pub loop-attempt-init : goal.loop-attempt-init
loop-attempt-init g c =
    let index = g.StorageT.StorageIndex.index in
    let none = endings_none (token_by index g.LexemeT.Lexeme.parts) c.args.self.now.point.now (nodes_in c.args.stacks.now.stacks c.args.graph.now.configurations.keys)
    (plain_attempts index c.args.attempts.now) in
    record { endings = rw c.new-endings.ensures.items none; extends = extends_none c.args.stacks.now }

pub at-requires : goal.at-requires
at-requires g c =
    let index = g.StorageT.StorageIndex.index in
    let stacks = c.args.stacks.now.stacks in
    let keys = c.args.graph.now.configurations.keys in
    let attempts = plain_attempts index c.args.attempts.now in
    let l = c.loop-attempt in
    let x = plain_attempt index c.attempt-item.result in
    let here = mapped_at (plain_attempt index) c.args.attempts.now l.attempt-index c.attempt-item.result c.loop-attempt-test.true c.attempt-item.is in
    let by = (c.requires.attempts.exact x).0 (taken_at attempts l.attempt-index x here.0 here.1) in
    omega (arith, slice_get_within (nodes_in stacks keys) x.from by.0 by.1, nodes_len stacks keys)

pub add_ending-requires : goal.add_ending-requires
add_ending-requires g c =
    let at = c.args.self.now.point.now in
    record {
      held = held_stays at.checked.table (length at.lexemes) c.args.stacks.now c.loop-attempt.stacks c.loop-attempt.invariant.extends c.at.result
          (c.requires.held c.attempt-item.result.from c.at.result c.at.ensures);
    }

pub loop-attempt-preserved : goal.loop-attempt-preserved
loop-attempt-preserved g c =
    let index = g.StorageT.StorageIndex.index in
    let token = token_by index g.LexemeT.Lexeme.parts in
    let at = c.args.self.now.point.now in
    let old = c.args.stacks.now in
    let keys = c.args.graph.now.configurations.keys in
    let nodes = nodes_in old.stacks keys in
    let attempts = plain_attempts index c.args.attempts.now in
    let l = c.loop-attempt in
    let k = l.attempt-index in
    let x = plain_attempt index c.attempt-item.result in
    let key = c.at.result in
    let u = configured_at old.stacks key in
    let here = mapped_at (plain_attempt index) c.args.attempts.now k c.attempt-item.result c.loop-attempt-test.true c.attempt-item.is in
    let held = c.requires.held x.from key c.at.ensures in
    let same = configured_stays at.checked.table (length at.lexemes) old l.stacks l.invariant.extends key held.within in
    let is = at_node old.stacks keys x.from key c.at.ensures in
    let seen = plain_endings index l.endings.items in
    record {
      endings =
          elim c.in_ok-add_ending.ensures.adds as (λ _. AreEndingsOf token at nodes (take (k + 1) attempts) (plain_endings index c.add_ending.new.endings.items)) [
            | inl none ↦
                let reach = subst (λ (v : Configured). IsReach token at v x.step None) same none.0 in
                subst (λ (es : List PlainEnding). AreEndingsOf token at nodes (take (k + 1) attempts) es) (sym none.1)
                (endings_skip token at nodes attempts k x u here.0 here.1 is seen l.invariant.endings reach)
            | inr some ↦
                let reach = subst (λ (v : Configured). IsReach token at v x.step (Some some.0)) same some.1 in
                subst (λ (es : List PlainEnding). AreEndingsOf token at nodes (take (k + 1) attempts) es) (sym some.2)
                (endings_more token at nodes attempts k x u here.0 here.1 is seen l.invariant.endings c.requires.attempts.once some.0 reach)
          ];
      extends = extends_both old l.stacks c.add_ending.new.stacks l.invariant.extends c.in_ok-add_ending.ensures.extends;
    }

pub returns-clause-endings : goal.returns-clause-endings
returns-clause-endings g c =
    let index = g.StorageT.StorageIndex.index in
    let l = c.loop-attempt in
    let attempts = plain_attempts index c.args.attempts.now in
    let past : length attempts ≤ l.attempt-index = omega (arith, length-map c.args.attempts.now (plain_attempt index), c.loop-attempt-test.false) in
    endings_all (token_by index g.LexemeT.Lexeme.parts) c.args.self.now.point.now (nodes_in c.args.stacks.now.stacks c.args.graph.now.configurations.keys) attempts
    l.attempt-index (plain_endings index l.endings.items) past l.invariant.endings
