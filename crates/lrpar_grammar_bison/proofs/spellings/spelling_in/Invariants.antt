use Rattle.std.proofs.Common.{◌≡◌, drop, map}
use Rattle.lrpar_grammar_bison.specs.Spellings.{spelling_in, spelling_of}
use Rattle.lrpar_grammar_bison.proofs.spellings.spelling_in.Given as goal

-- the character is none of those so far
abbrev pub invariant-loop-spelling : goal.invariant-loop-spelling
invariant-loop-spelling l = spelling_in (map spelling_of l.spellings) l.character ≡ spelling_in (map spelling_of (drop l.spelling-index l.spellings)) l.character
