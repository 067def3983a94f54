use Rattle.std.proofs.Common.{◌≡◌, drop, map, take}
use Rattle.lrpar_grammar_bison_parts.specs.Precedences.{MapsRanks, named_rank_of, repeated_after, repeated_rank}
use Rattle.lrpar_grammar_bison_parts.proofs.precedences.rank_map.Given as goal

-- the map has the tokens so far, whose names are distinct
abbrev pub invariant-loop-rank : goal.invariant-loop-rank
invariant-loop-rank l = record {
  maps : MapsRanks l.found (map named_rank_of (take l.rank-index l.ranks));
  distinct : repeated_rank (map named_rank_of l.ranks) ≡ repeated_after (map named_rank_of (take l.rank-index l.ranks)) (map named_rank_of (drop l.rank-index l.ranks));
}
