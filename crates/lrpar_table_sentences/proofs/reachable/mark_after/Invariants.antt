use Rattle.std.proofs.Common.{◌≡◌, ◌<◌, ℕ}
use Rattle.std.specs.Bool.{OnFalse, OnTrue}
use Rattle.lrpar_grammar.specs.Grammar.{symbols_of}
use Rattle.lrpar_table_sentences.specs.Reachable.{AreMarked, unmarked}
use Rattle.lrpar_table_sentences.proofs.ReachableLemmas.{MarkedAt}
use Rattle.lrpar_table_sentences.proofs.reachable.mark_after.Given as goal

-- either fewer rules are unmarked, or all is as before and the symbols so far are marked
abbrev pub invariant-loop-symbol : goal.invariant-loop-symbol
invariant-loop-symbol g l =
    let symbols = symbols_of l.grm (g.StorageT.StorageIndex.index l.fn.pidx.0) in
    AreMarked l.grm l.marks
    × OnTrue l.grown (unmarked l.marks < unmarked l.fn.marks)
    × OnFalse l.grown ((l.marks ≡ l.fn.marks) × ((k : ℕ) → k < l.symbol-index → MarkedAt symbols l.marks k))
