-- What searches find in a text. A definition is about all patterns for which the programs search: at the start of each text a program finds
-- what its pattern finds there.
use Rattle.std.specs.Prelude.{◌≡◌, ℕ, ◌<◌, Bool, List, length, Option, Some, MatchBool, drop, option_map, slice_get}
use Rattle.std.specs.List.{All, AllZip}
use Rattle.std.specs.Borrow.{Bor}
use Rattle.std.specs.Str.{IsCharBoundary}
use Rattle.regex.specs.Patterns.{Re, span}
use Rattle.regex_meta.specs.Programs.{leftmost}
use Rattle.regex_meta.specs.declared.program.Program.{Program}
use Rattle.lrpar_lexer.specs.Anchored.{FindsAtStart}
use Rattle.lrpar_lexer.specs.Matching.{AreIndices, Improves, IsMatchLen, IsUnmatched, IsWinner, NoneMatches, chosen_of, tried_of}
use Rattle.lrpar_lexer.specs.declared.matching.Winner.{Winner}

-- where the first match of the program begins and ends, if there is one
abbrev pub found_by : Program → List ℕ → Option (ℕ × ℕ)
found_by program text = option_map span (leftmost program text 0)

-- the number of bytes that the program's pattern matches at the start of `rest`, if it does
abbrev pub FindsLen : Program → List ℕ → Option ℕ → Type 0
FindsLen program rest found = (pattern : Re) → FindsAtStart program pattern → IsMatchLen rest pattern found

-- if there is a program with this index: the number of bytes that its pattern matches at the start of `rest`, if it does
abbrev pub FindsLenAt : List Program → ℕ → List ℕ → Option ℕ → Type 0
FindsLenAt programs index rest found =
    (program : Program) (pattern : Re) → slice_get programs index ≡ Some program → FindsAtStart program pattern → IsMatchLen rest pattern found

-- the winner at the start of `rest`, if a pattern matches there
abbrev pub FindsWinner : List Program → List ℕ → Option Winner → Type 0
FindsWinner programs rest winner = (patterns : List Re) → AllZip FindsAtStart programs patterns → IsWinner patterns rest winner

-- the winner among the patterns with these indices
abbrev pub FindsWinnerAmong : List Program → List ℕ → List ℕ → Option Winner → Type 0
FindsWinnerAmong programs indices rest winner =
    (patterns : List Re) → AllZip FindsAtStart programs patterns → All (λ index. index < length patterns) indices
    → IsWinner (chosen_of patterns indices) rest winner

-- a fact about the patterns that are tried: those with the chosen indices, or all if none are chosen
abbrev pub HoldsOfTried : List Program → Option (Bor (List ℕ)) → (List Re → Type 0) → Type 0
HoldsOfTried programs chosen Holds =
    (patterns : List Re) → AllZip FindsAtStart programs patterns → AreIndices patterns (option_map (λ c. c.now) chosen)
    → Holds (tried_of patterns (option_map (λ c. c.now) chosen))

-- the winner among the patterns that are tried
abbrev pub FindsWinnerTried : List Program → Option (Bor (List ℕ)) → List ℕ → Option Winner → Type 0
FindsWinnerTried programs chosen rest winner = HoldsOfTried programs chosen (λ tried. IsWinner tried rest winner)

-- whether byte `at` begins a character at which one of the patterns that are tried matches
abbrev pub TestsTried : List Program → Option (Bor (List ℕ)) → List ℕ → ℕ → Bool → Type 0
TestsTried programs chosen text at matches =
    HoldsOfTried programs chosen (λ tried. MatchBool matches
    (IsCharBoundary text at × ¬ (NoneMatches tried (drop at text)))
    (IsCharBoundary text at → NoneMatches tried (drop at text)))

-- the longest run of characters from byte `at` on at which none of the patterns that are tried matches, if none matches at `at`
abbrev pub FindsUnmatched : List Program → Option (Bor (List ℕ)) → List ℕ → ℕ → ℕ → Type 0
FindsUnmatched programs chosen text at len =
    HoldsOfTried programs chosen (λ tried. NoneMatches tried (drop at text) → IsUnmatched tried text at len)

-- the best match after those of the programs with these indices were compared with the best so far
abbrev pub FindsBest : List Program → List ℕ → List ℕ → Option Winner → Option Winner → Type 0
FindsBest programs indices rest old new =
    (patterns : List Re) → AllZip FindsAtStart programs patterns → Improves patterns rest indices old new
