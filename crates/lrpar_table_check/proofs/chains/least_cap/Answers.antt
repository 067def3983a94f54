use Rattle.lrpar_table_check.proofs.chains.least_cap.Goals as goal

pub returns-clause-short : goal.returns-clause-short
returns-clause-short g c = rw (c.new.ensures.grammar, c.new.ensures.table, c.new.ensures.cap) at c.least.ensures.short
