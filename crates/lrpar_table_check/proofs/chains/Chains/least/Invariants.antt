use Rattle.lrpar_table_check.specs.Counts.{HasRoom}
use Rattle.lrpar_table_check.proofs.LeastCapLemmas.{IsLeastOf}
use Rattle.lrpar_table_check.proofs.chains.Chains.least.Given as goal

-- the least cap of the states so far
abbrev pub invariant-loop-s : goal.invariant-loop-s
invariant-loop-s g l =
    record {
      least : IsLeastOf l.self.grm.now l.self.stable.now l.self.cap l.s l.least;
      room : HasRoom l.self.stable.now l.counts.rows.items l.counts.row.items;
    }
