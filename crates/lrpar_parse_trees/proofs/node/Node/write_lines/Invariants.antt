use Rattle.std.proofs.Common.{◌≡◌, ◌+◌, ◌*◌, length, replicate, take, List, ℕ, Option}
use Rattle.std.specs.List.{AllByRecursion, flat_map}
use Rattle.std.specs.Io.KnownBytes.{Appends}
use Rattle.std.specs.String.{string_bytes}
use Rattle.lrpar_parse_lexemes.specs.Lexemes.{facts_of}
use Rattle.lrpar_parse_trees.specs.TreeText.{MetFits, TreeFits, met_line, tree_text}
use Rattle.lrpar_parse_trees.proofs.TreeTextLemmas.{left_met}
use Rattle.lrpar_parse_trees.proofs.node.Node.write_lines.Given as goal

-- with the lines of what is left, the whole text is written; the tree fits if what is left does; and the last line begins with a
-- space for each level
abbrev pub invariant-loop-node : goal.invariant-loop-node
invariant-loop-node g l =
    let index = g.StorageT.StorageIndex.index in
    let facts = λ (x : g.row.LexemeT.Denot). facts_of index (g.LexemeT.Lexeme.parts x) in
    record {
      text : (last : Option (List ℕ)) → Appends (g.W.Write.contents l.out) last (flat_map (met_line facts index l.grm l.input) (left_met l.below.items l.left))
          → Appends (g.W.Write.contents l.fn.out) last (tree_text facts index l.grm l.input l.fn.self);
      fits : AllByRecursion (MetFits facts index l.grm l.input) (left_met l.below.items l.left) → TreeFits facts index l.grm l.input l.fn.self;
      indent : take (length l.below.items) (string_bytes l.line) ≡ replicate (length l.below.items) 32;
    }

-- the nodes that are left, and the levels to go back to
abbrev pub decreases-loop-node : goal.decreases-loop-node
decreases-loop-node g l = 2 * length (left_met l.below.items l.left) + length l.below.items
