use Rattle.std.proofs.Common.{◌≡◌, map, option_map, take, List}
use Rattle.lrpar_grammar_reader.specs.Parts.{prod_of}
use Rattle.lrpar_grammar_words.specs.Words.{placed as text_placed}
use Rattle.lrpar_grammar_bison_parts.specs.Precedences.{MapsRanks, NamedRank, prod_slots, ranking_by}
use Rattle.lrpar_grammar_bison_parts.proofs.precedences.prod_slots.Given as goal

-- the precedences of the productions so far
abbrev pub invariant-loop-i : goal.invariant-loop-i
invariant-loop-i g l =
    (ranks : List NamedRank) → MapsRanks l.ranks.by_name.now ranks
    → l.slots.items ≡ prod_slots (ranking_by l.ranks ranks) (map (option_map text_placed) l.words) (map (prod_of g.StorageT.StorageIndex.index) (take l.i l.prods))
