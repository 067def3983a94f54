-- Which of several patterns wins at the start of a text. What a pattern finds is what `regex` finds.
use Rattle.std.specs.Prelude.{◌≡◌, ℕ, ◌+◌, ◌<◌, ◌≤◌, ◌==◌, ◌&&◌, ◌||◌, Contains, List, length, map, get_or, Option, Some, None, if◌then◌else◌, nat_le, nat_lt, option_map, MatchOption, take, drop, slice_get, ⊤}
use Rattle.std.specs.Option.{IfSome, IsSomeAnd}
use Rattle.std.specs.List.{All}
use Rattle.std.specs.Str.{IsCharBoundary}
use Rattle.regex.specs.Patterns.{Re, empty, find_str, span}
use Rattle.lrpar_lexer.specs.declared.matching.Winner.{Winner}

-- what the pattern finds in `rest` begins at its start, has n bytes, at least one, and ends between two characters
pub record IsMatch (rest : List ℕ) (pattern : Re) (n : ℕ) : Type 0 where
  pub found : option_map span (find_str pattern rest 0) ≡ Some (0, n)
  pub some : 0 < n
  pub boundary : IsCharBoundary rest n

-- the pattern finds nothing in `rest` that begins at its start, has at least one byte and ends between two characters
abbrev pub HasNoMatch : List ℕ → Re → Type 0
HasNoMatch rest pattern = (n : ℕ) → ¬ (IsMatch rest pattern n)

-- the number of bytes that the pattern matches at the start of `rest`, if it does
abbrev pub IsMatchLen : List ℕ → Re → Option ℕ → Type 0
IsMatchLen rest pattern found = MatchOption found (HasNoMatch rest pattern) (IsMatch rest pattern)

-- the pattern's match has at most `most` bytes, or there is none
abbrev pub MatchesAtMost : List ℕ → ℕ → Re → Type 0
MatchesAtMost rest most pattern = (n : ℕ) → IsMatch rest pattern n → n ≤ most

-- the pattern's match has fewer than `bound` bytes, or there is none
abbrev pub MatchesLess : List ℕ → ℕ → Re → Type 0
MatchesLess rest bound pattern = (n : ℕ) → IsMatch rest pattern n → n < bound

-- pattern i wins with n bytes: the longest match, and the first of that length
pub record Wins (patterns : List Re) (rest : List ℕ) (i : ℕ) (n : ℕ) : Type 0 where
  pub pattern : Re
  pub is : slice_get patterns i ≡ Some pattern
  pub matches : IsMatch rest pattern n
  pub longest : All (MatchesAtMost rest n) patterns
  pub first : All (MatchesLess rest n) (take i patterns)

-- none of the patterns matches
abbrev pub NoneMatches : List Re → List ℕ → Type 0
NoneMatches patterns rest = All (HasNoMatch rest) patterns

-- The n bytes from byte `at` of the text on, at least one, are the longest run of characters at which no pattern matches: none matches at
-- `at`, nor at a later character of the run, and after the run the text ends, or one matches.
pub record IsUnmatched (patterns : List Re) (text : List ℕ) (at : ℕ) (n : ℕ) : Type 0 where
  pub some : 0 < n
  pub boundary : IsCharBoundary text (at + n)
  pub none : NoneMatches patterns (drop at text)
  pub later : (place : ℕ) → at < place → place < at + n → IsCharBoundary text place → NoneMatches patterns (drop place text)
  pub ends : at + n < length text → ¬ (NoneMatches patterns (drop (at + n) text))

-- the winner of the patterns, if one matches
abbrev pub IsWinner : List Re → List ℕ → Option Winner → Type 0
IsWinner patterns rest winner = MatchOption winner (NoneMatches patterns rest) (λ w. Wins patterns rest w.rule w.len)

-- the patterns with these indices
abbrev pub chosen_of : List Re → List ℕ → List Re
chosen_of patterns indices = map (λ i. get_or patterns i empty) indices

-- the patterns that are tried: those with these indices, or all
abbrev pub tried_of : List Re → Option (List ℕ) → List Re
tried_of patterns None = patterns
tried_of patterns (Some indices) = chosen_of patterns indices

-- the indices, if there are any, are of patterns
abbrev pub AreIndices : List Re → Option (List ℕ) → Type 0
AreIndices patterns None = ⊤
AreIndices patterns (Some indices) = All (λ i. i < length patterns) indices

-- the better of two matches: that of pattern i only if it is longer, or as long and earlier in the list
abbrev pub better : Option Winner → ℕ → Option ℕ → Option Winner
better best i None = best
better None i (Some n) = Some (record { rule = i; len = n })
better (Some w) i (Some n) = if nat_lt n w.len || (n == w.len && nat_le w.rule i) then Some w else Some (record { rule = i; len = n })

-- the best match so far, if there is one, is that of its pattern
abbrev pub IsOfPattern : List Re → List ℕ → Option Winner → Type 0
IsOfPattern patterns rest best =
    IfSome best (λ w. IsSomeAnd (slice_get patterns w.rule) (λ pattern. IsMatch rest pattern w.len))

-- pattern i has no match that is better than the best so far: that is longer, or as long and no later in the list
abbrev pub IsCovered : List ℕ → Option Winner → ℕ → Re → Type 0
IsCovered rest best i pattern =
    (n : ℕ) → IsMatch rest pattern n → IsSomeAnd best (λ w. (n ≤ w.len) × (n ≡ w.len → w.rule ≤ i))

-- the best match after those of the rules in a list were compared with the best so far
pub record Improves (patterns : List Re) (rest : List ℕ) (rules : List ℕ) (old new : Option Winner) : Type 0 where
  pub real : IsOfPattern patterns rest old → IsOfPattern patterns rest new
  pub kept : (i : ℕ) (pattern : Re) → IsCovered rest old i pattern → IsCovered rest new i pattern
  pub tried : (i : ℕ) (pattern : Re) → Contains rules i → slice_get patterns i ≡ Some pattern → IsCovered rest new i pattern
