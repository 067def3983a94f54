use Rattle.std.proofs.Common.{subst}
use Rattle.lrpar_table_check.specs.Checked.{IsChecked}
use Rattle.lrpar_table_stacks.proofs.ChainLemmas.{bounds_reductions}
use Rattle.lrpar_table_stacks.proofs.PathLemmas.{checked_runs_never_stick}
use Rattle.lrpar_table_check.proofs.check.ParserData.stable.Goals as goal

pub returns-clause-runs : goal.returns-clause-runs
returns-clause-runs g c =
    let checked : IsChecked c.args.self.now = subst IsChecked c.self.view_is c.self.invariant.checked in
    checked_runs_never_stick c.args.self.now.grammar c.args.self.now.graph c.args.self.now.table checked.well_formed checked.closed checked.safe

pub returns-clause-bounds : goal.returns-clause-bounds
returns-clause-bounds g c =
    let checked : IsChecked c.args.self.now = subst IsChecked c.self.view_is c.self.invariant.checked in
    bounds_reductions c.args.self.now.grammar c.args.self.now.table c.args.self.now.cap checked.closed checked.chains
