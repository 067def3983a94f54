use Rattle.std.proofs.Common.{◌≡◌, [], All, Vec, length}
use Rattle.std.specs.declared.alloc.Global.{Global}
use Rattle.lrpar_parse_cpctplus.proofs.nodes.empty_rows.Given as goal

-- the rows so far are empty
abbrev pub invariant-loop : goal.invariant-loop
invariant-loop g l = record {
  len : length l.rows.items ≡ l.counter;
  empty : All (λ (row : Vec g.row.T.Denot Global). row.items ≡ []) l.rows.items;
}
