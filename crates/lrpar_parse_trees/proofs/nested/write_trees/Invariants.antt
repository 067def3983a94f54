use Rattle.std.proofs.Common.{List, ℕ, Option}
use Rattle.std.specs.Io.KnownBytes.{Appends}
use Rattle.lrpar_parse_lexemes.specs.Lexemes.{facts_of}
use Rattle.lrpar_parse_trees.specs.Fronts.{trees_text}
use Rattle.lrpar_parse_trees.proofs.NestedLemmas.{left_measure, left_text}
use Rattle.lrpar_parse_trees.proofs.nested.write_trees.Given as goal

-- with the text of what is left, the whole text is written
abbrev pub invariant-nodes : goal.invariant-nodes
invariant-nodes g l =
    let index = g.StorageT.StorageIndex.index in
    let facts = λ (x : g.row.LexemeT.Denot). facts_of index (g.LexemeT.Lexeme.parts x) in
    (last : Option (List ℕ)) → Appends (g.W.Write.contents l.out) last (left_text l.form facts index l.grm l.input l.is_first l.below.items l.left)
    → Appends (g.W.Write.contents l.fn.out) last (trees_text l.form facts index l.grm l.input l.nodes)

abbrev pub decreases-nodes : goal.decreases-nodes
decreases-nodes g l = left_measure l.below.items l.left
