use Rattle.std.proofs.Common.{◌≡◌, ◌+◌, ◌*◌, ◌++◌, length}
use Rattle.std.specs.List.{AllByRecursion, flat_map}
use Rattle.std.specs.String.{string_bytes}
use Rattle.lrpar_parse_lexemes.specs.Lexemes.{facts_of}
use Rattle.lrpar_parse_trees.specs.TreeText.{MetFits, met_line, tree_text}
use Rattle.lrpar_parse_trees.proofs.TreeTextLemmas.{left_met}
use Rattle.lrpar_parse_trees.proofs.node.Node.push_lines.Given as goal

-- what is left fits, and with its lines the text so far is the whole
abbrev pub invariant-loop-node : goal.invariant-loop-node
invariant-loop-node g l =
    let index = g.StorageT.StorageIndex.index in
    let facts = λ (x : g.row.LexemeT.Denot). facts_of index (g.LexemeT.Lexeme.parts x) in
    record {
      fits : AllByRecursion (MetFits facts index l.grm l.input) (left_met l.below.items l.left);
      whole : string_bytes l.out ++ flat_map (met_line facts index l.grm l.input) (left_met l.below.items l.left)
          ≡ tree_text facts index l.grm l.input l.fn.self;
    }

-- the nodes that are left, and the levels to go back to
abbrev pub decreases-loop-node : goal.decreases-loop-node
decreases-loop-node g l = 2 * length (left_met l.below.items l.left) + length l.below.items
