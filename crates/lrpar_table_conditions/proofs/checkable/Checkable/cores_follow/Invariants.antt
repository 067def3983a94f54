use Rattle.std.proofs.Common.{◌≡◌, ◌<◌, ◌+◌, ℕ, Some, get_or, slice_get}
use Rattle.lrpar_grammar.specs.Grammar.{symbols_of}
use Rattle.lrpar_grammar.specs.Symbols.{symbol_of}
use Rattle.lrpar_table_rows.specs.Graph.{HasCore}
use Rattle.lrpar_table_conditions.proofs.checkable.Checkable.cores_follow.Given as goal

-- the cores so far follow
abbrev pub invariant-loop-pidx : goal.invariant-loop-pidx
invariant-loop-pidx g l =
    let index = g.StorageT.StorageIndex.index in
    (k : ℕ) (d : _) → k < l.pidx-index → (before : ℕ) → (get_or l.pidx-items k d).1 ≡ before + 1
    → (slice_get (symbols_of l.self.grm.now (index (get_or l.pidx-items k d).0.0)) before ≡ Some (symbol_of index l.symbol)) × HasCore l.self.sgraph.now (index l.s.0) (index (get_or l.pidx-items k d).0.0) before
