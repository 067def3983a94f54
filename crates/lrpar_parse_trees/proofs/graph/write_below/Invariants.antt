use Rattle.std.proofs.Common.{List, ℕ, Option}
use Rattle.std.specs.Io.KnownBytes.{Appends}
use Rattle.lrpar_parse_lexemes.specs.Lexemes.{facts_of}
use Rattle.lrpar_parse_trees.specs.Lines.{trees_lines}
use Rattle.lrpar_parse_trees.proofs.GraphLemmas.{left_lines, measure_left}
use Rattle.lrpar_parse_trees.proofs.graph.write_below.Given as goal

-- with the lines of what is left, all lines are written
abbrev pub invariant-nodes : goal.invariant-nodes
invariant-nodes g l =
    let index = g.StorageT.StorageIndex.index in
    let facts = λ (x : g.row.LexemeT.Denot). facts_of index (g.LexemeT.Lexeme.parts x) in
    (last : Option (List ℕ)) → Appends (g.W.Write.contents l.out) last (left_lines facts index l.grm l.input l.parent l.next l.above.items l.left)
    → Appends (g.W.Write.contents l.fn.out) last (trees_lines facts index l.grm l.input 0 1 l.nodes)

-- the nodes that are left, and the lists to go back to
abbrev pub decreases-nodes : goal.decreases-nodes
decreases-nodes g l = measure_left l.above.items l.left
