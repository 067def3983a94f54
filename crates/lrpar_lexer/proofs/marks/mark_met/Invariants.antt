use Rattle.std.proofs.Common.{◌<◌, drop, vec_len}
use Rattle.lrpar_lexer.proofs.MarkLemmas.{AreMarkedSoFar}
use Rattle.lrpar_lexer.proofs.marks.mark_met.Given as goal

-- the rules that the walk has met are marked
abbrev pub invariant-walk : goal.invariant-walk
invariant-walk l = record {
  within : l.node < vec_len l.tree.nodes;
  marked : AreMarkedSoFar l.tree.nodes.items l.rest l.node (drop l.byte-index (drop 1 l.rest)) l.marks.items;
}
