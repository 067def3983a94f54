use Rattle.std.proofs.Common.{Some, map, take, sym, subst, ◌∙◌}
use Rattle.std.proofs.lemmas.List.{map_more}
use Rattle.std.proofs.lemmas.Map.Text.{btree_map_updates_str}
use Rattle.lrpar_grammar_bison_parts.specs.Precedences.{MapsRanks, named_rank_of}
use Rattle.lrpar_grammar_bison_parts.proofs.PrecedenceLemmas.{among_ranks, rank_more, repeated_here, repeated_later}
use Rattle.lrpar_grammar_bison_parts.proofs.precedences.rank_map.Goals as goal

pub returns-then-contains_key-clause-fault : goal.returns-then-contains_key-clause-fault
returns-then-contains_key-clause-fault c =
    let ranks = c.args.ranks.now in
    let i = c.loop-rank.rank-index in
    let before = map named_rank_of (take i ranks) in
    let among = among_ranks c.loop-rank.found before _ _ c.loop-rank.invariant.maps c.contains_key.ensures ∙ c.if-contains_key.true in
    c.loop-rank.invariant.distinct ∙ repeated_here ranks i _ before c.span.result c.loop-rank-test.true c.span.ensures among

pub loop-rank-preserved : goal.loop-rank-preserved
loop-rank-preserved c =
    let ranks = c.args.ranks.now in
    let i = c.loop-rank.rank-index in
    let before = map named_rank_of (take i ranks) in
    let within = c.loop-rank-test.true in
    let m = c.loop-rank.found in
    let n = c.insert.new.self in
    let other = among_ranks m before _ _ c.loop-rank.invariant.maps c.contains_key.ensures ∙ c.if-contains_key.false in
    record {
      maps = subst (MapsRanks n) (sym (map_more named_rank_of ranks i _ within))
          (rank_more m n before _ c.loop-rank.invariant.maps (sym c.contains_key.ensures ∙ c.if-contains_key.false)
          (btree_map_updates_str _ m n (Some _) c.in_ok-insert.ensures.updates));
      distinct = c.loop-rank.invariant.distinct ∙ repeated_later ranks i _ within other;
    }
