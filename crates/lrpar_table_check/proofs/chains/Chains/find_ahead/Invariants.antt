use Rattle.std.specs.List.{All}
use Rattle.lrpar_table_check.specs.Counts.{IsGoto}
use Rattle.lrpar_table_check.proofs.chains.Chains.find_ahead.Given as goal

-- all that was found are gotos of the state, and so is the next one
abbrev pub invariant-loop-row : goal.invariant-loop-row
invariant-loop-row g l =
    let index = g.StorageT.StorageIndex.index in
    let table = l.self.stable.now in
    record {
      next : IsGoto table (index l.s.0) (index l.goto.0.0) (index l.goto.1.0);
      found : All (λ goto. IsGoto table (index l.s.0) (index goto.0.0) (index goto.1.0)) l.ahead.items;
    }
