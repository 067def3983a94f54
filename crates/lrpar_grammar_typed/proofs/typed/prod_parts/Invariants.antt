use Rattle.std.proofs.Common.{◌≡◌, ◌<◌, ◌^◌, length, map, take}
use Rattle.std.specs.List.{enumerate_from, flat_map}
use Rattle.lrpar_grammar_reader.specs.Parts.{prod_of}
use Rattle.lrpar_grammar_typed.specs.PartsOf.{productions_of}
use Rattle.lrpar_grammar_typed.proofs.typed.prod_parts.Given as goal

-- the productions of the rules so far
abbrev pub invariant-loop-index : goal.invariant-loop-index
invariant-loop-index l =
    length l.rules < 2 ^ 32 → map (prod_of (λ n. n)) l.parts.items ≡ flat_map productions_of (take l.index (enumerate_from 1 l.rules))
