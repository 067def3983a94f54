use Rattle.lrpar_table_items.proofs.RestLemmas.{grown_itself}
use Rattle.lrpar_table_items.proofs.reach.spread_waiting.Goals as goal

pub returns-then-not-index-clause-growth : goal.returns-then-not-index-clause-growth
returns-then-not-index-clause-growth g c = grown_itself c.args.grm.now c.args.sets.now
