use Rattle.lrpar_table_build.proofs.TablesLemmas.{AreRowsBelow}
use Rattle.lrpar_table_build.proofs.tables.make_action_rows.Given as goal

-- the rows and the conflicts of the states so far, none of which is refused
abbrev pub invariant-loop-number : goal.invariant-loop-number
invariant-loop-number g l =
    AreRowsBelow g.StorageT.StorageIndex.index l.precedences l.grm l.states l.initial.found l.found l.rows l.number
