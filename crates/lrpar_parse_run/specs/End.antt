-- What is left on the stack of a run that accepts: an entry that represents the whole tree.
use Rattle.std.specs.Prelude.{None}
use Rattle.lrpar_grammar.specs.Grammar.{Nonterminal}
use Rattle.lrpar_grammar.specs.Tree.{Tree}
use Rattle.lrpar_table_check.specs.Checked.{Checked}
use Rattle.lrpar_parse_run.specs.Building.{Building}
use Rattle.lrpar_parse_run.specs.RunStack.{Represents}

-- the entry represents the tree, with nothing to its left, and suits the start rule
pub record IsOfTree {X E : Type 0} (builds : Building X E) (d : Checked) (tree : Tree X) (entry : E) : Type 0 where
  pub represents : Represents builds.leaf (builds.node d.grammar) None tree entry
  pub suit : builds.suits (Nonterminal d.grammar.start) entry
