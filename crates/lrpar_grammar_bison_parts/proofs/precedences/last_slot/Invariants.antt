use Rattle.std.proofs.Common.{◌≡◌, drop}
use Rattle.lrpar_grammar_bison_parts.specs.Precedences.{last_slot, slot_after, symbols_in}
use Rattle.lrpar_grammar_bison_parts.proofs.precedences.last_slot.Given as goal

-- the last token of all symbols is that among those that are left, or the last one so far
abbrev pub invariant-loop-symbol : goal.invariant-loop-symbol
invariant-loop-symbol g l =
    slot_after l.slots l.last (symbols_in g.StorageT.StorageIndex.index (drop l.symbol-index l.symbols)) ≡ last_slot l.slots (symbols_in g.StorageT.StorageIndex.index l.symbols)
