use Rattle.std.proofs.Common.{◌≡◌, ◌≢◌, ◌<◌, ℕ, Some, get_or}
use Rattle.lrpar_grammar.specs.Grammar.{rule_of, start_prod}
use Rattle.lrpar_table_rows.specs.Table.{goto_of}
use Rattle.lrpar_table_conditions.proofs.checkable.Checkable.goes_by_rules.Given as goal

-- the cores so far have their gotos
abbrev pub invariant-loop-pidx : goal.invariant-loop-pidx
invariant-loop-pidx g l =
    let index = g.StorageT.StorageIndex.index in
    (k : ℕ) (d : _) → k < l.pidx-index → (get_or l.pidx-items k d).1 ≡ 0 → index (get_or l.pidx-items k d).0.0 ≢ start_prod l.self.grm.now
    → (next : ℕ) × (goto_of l.self.stable.now (index l.s.0) (rule_of l.self.grm.now (index (get_or l.pidx-items k d).0.0)) ≡ Some next)
