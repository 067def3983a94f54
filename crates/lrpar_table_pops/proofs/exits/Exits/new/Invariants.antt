use Rattle.std.proofs.Common.{map}
use Rattle.lrpar_grammar.specs.Grammar.{tokens_len}
use Rattle.lrpar_table_rows.specs.PlainItems.{core_of}
use Rattle.lrpar_table_pops.proofs.PlaceLemmas.{AreExitsSoFar}
use Rattle.lrpar_table_pops.proofs.exits.Exits.new.Given as goal

-- no exit has a lookahead; there is one for each core so far, with room for all tokens
abbrev pub invariant-cores : goal.invariant-cores
invariant-cores g l =
    AreExitsSoFar (tokens_len l.checked.grammar) (map (core_of g.StorageT.StorageIndex.index) l.prod-items) l.prod-index l.exits.items
