use Rattle.std.proofs.Common.{◌≡◌, ◌-◌, ℕ, List, length}
use Rattle.lrpar_table_stacks.specs.Chain.{most_reductions}
use Rattle.lrpar_table_stacks.specs.Stack.{IsStack}
use Rattle.lrpar_table_stacks.specs.StackReduction.{StackReducesBy}
use Rattle.lrpar_table_check.proofs.check.ParserData.settle_on.Given as goal

-- `count` reductions made a stack of the one at the start
abbrev pub invariant-reductions : goal.invariant-reductions
invariant-reductions g l =
    let kind = g.S.StateStack in
    record {
      suits : kind.suits l.self.grammar l.self.table l.stack;
      stack : IsStack l.self.table (kind.states l.stack);
      made : (prods : List ℕ) × StackReducesBy kind.states kind.reduces l.self.grammar l.self.table (g.StorageT.StorageIndex.index l.t.0) l.fn.stack prods l.stack × (l.count ≡ length prods);
    }

-- the reductions that may still be made
abbrev pub decreases-reductions : goal.decreases-reductions
decreases-reductions g l = most_reductions l.self.cap (length (g.S.StateStack.states l.fn.stack)) - l.count
