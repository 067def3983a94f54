use Rattle.std.proofs.Common.{◌≡◌, map, take, List}
use Rattle.lrpar_grammar_reader.specs.Parts.{token_name_of}
use Rattle.lrpar_grammar_bison_parts.specs.Precedences.{MapsRanks, NamedRank, token_slots}
use Rattle.lrpar_grammar_bison_parts.proofs.precedences.token_slots.Given as goal

-- the precedences of the tokens so far
abbrev pub invariant-loop-token : goal.invariant-loop-token
invariant-loop-token l = (ranks : List NamedRank) → MapsRanks l.found ranks → l.slots.items ≡ token_slots ranks (map token_name_of (take l.token-index l.tokens))
