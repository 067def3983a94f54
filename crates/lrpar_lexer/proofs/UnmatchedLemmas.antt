-- Runs of characters at which no pattern matches, byte by byte.
use Rattle.std.proofs.Common.{◌≡◌, ℕ, ◌+◌, ◌<◌, ◌≤◌, Bool, true, false, List, length, drop, Option, Some, None, is_some, MatchBool, sym, subst, arith, inl, inr}
use Rattle.std.specs.Str.{IsCharBoundary}
use Rattle.std.proofs.lemmas.Bool.{cases_lt}
use Rattle.std.proofs.lemmas.Str.{IsCharBoundary-end}
use Rattle.regex.specs.Patterns.{Re}
use Rattle.lrpar_lexer.specs.declared.matching.Winner.{Winner}
use Rattle.lrpar_lexer.specs.Matching.{IsUnmatched, IsWinner, NoneMatches}
use Rattle.lrpar_lexer.proofs.LexingLawLemmas.{wins_not_none}

-- no pattern matches at a later character of the n bytes from `at` on
abbrev pub NoneLater : List Re → List ℕ → ℕ → ℕ → Type 0
NoneLater patterns text at n =
    (place : ℕ) → at < place → place < at + n → IsCharBoundary text place → NoneMatches patterns (drop place text)

-- a pattern matches at a character that begins at this byte
abbrev pub SomeMatches : List Re → List ℕ → ℕ → Type 0
SomeMatches patterns text at = IsCharBoundary text at × ¬ (NoneMatches patterns (drop at text))

-- the test of a byte: whether a pattern matches at a character that begins there
abbrev pub IsMatchTest : List Re → List ℕ → ℕ → Bool → Type 0
IsMatchTest patterns text at found =
    MatchBool found (SomeMatches patterns text at) (IsCharBoundary text at → NoneMatches patterns (drop at text))

when_true : (found : Bool) (P Q : Type 0) → found ≡ true → MatchBool found P Q → P
when_true found P Q is says = subst (λ b. MatchBool b P Q) is says

when_false : (found : Bool) (P Q : Type 0) → found ≡ false → MatchBool found P Q → Q
when_false found P Q is says = subst (λ b. MatchBool b P Q) is says

module _ (patterns : List Re) (text : List ℕ) (at : ℕ) where
  -- the winner of the rest of a text gives the test of its first byte
  pub test_of_winner : (rest : List ℕ) (winner : Option Winner) (found : Bool) → IsCharBoundary text at → rest ≡ drop at text
      → IsWinner patterns rest winner → found ≡ is_some winner → IsMatchTest patterns text at found
  test_of_winner rest None found boundary is none same =
      subst (IsMatchTest patterns text at) (sym same) (λ _. subst (NoneMatches patterns) is none)
  test_of_winner rest (Some w) found boundary is wins same =
      subst (IsMatchTest patterns text at) (sym same)
      (boundary, λ none. wins_not_none patterns rest w.rule w.len wins (subst (NoneMatches patterns) (sym is) none))

  -- one byte has no later character
  pub none_later_first : NoneLater patterns text at 1
  none_later_first place above below boundary = absurd (omega arith)

  -- one byte more, at which no pattern matches
  pub none_later_more : (n : ℕ) (found : Bool) → found ≡ false → IsMatchTest patterns text (at + n) found → NoneLater patterns text at n
      → NoneLater patterns text at (n + 1)
  none_later_more n found not test later place above below boundary = elim (cases_lt place (at + n)) [
    | inl before ↦ later place above before boundary
    | inr past ↦
        let same : at + n ≡ place = omega arith in
        let here : IsCharBoundary text (at + n) → NoneMatches patterns (drop (at + n) text) =
        when_false found (SomeMatches patterns text (at + n)) (IsCharBoundary text (at + n) → NoneMatches patterns (drop (at + n) text)) not test in
        subst (λ k. NoneMatches patterns (drop k text)) same (here (subst (IsCharBoundary text) (sym same) boundary))
  ]

  -- a run ends before a character at which a pattern matches
  pub run_before_match : (n : ℕ) (found : Bool) → 0 < n → found ≡ true → IsMatchTest patterns text (at + n) found
      → NoneMatches patterns (drop at text) → NoneLater patterns text at n → IsUnmatched patterns text at n
  run_before_match n found some is test none later =
      let matches : SomeMatches patterns text (at + n) =
      when_true found (SomeMatches patterns text (at + n)) (IsCharBoundary text (at + n) → NoneMatches patterns (drop (at + n) text)) is test in
      record { some = some; boundary = matches.0; none = none; later = later; ends = λ _. matches.1 }

  -- or at the end of the text
  pub run_to_end : (n : ℕ) → 0 < n → at + n ≡ length text → NoneMatches patterns (drop at text) → NoneLater patterns text at n
      → IsUnmatched patterns text at n
  run_to_end n some end none later =
      record {
        some = some;
        boundary = subst (IsCharBoundary text) (sym end) (IsCharBoundary-end text);
        none = none;
        later = later;
        ends = λ more. absurd (omega arith);
      }

  -- a place has one such run
  pub one_run : (n m : ℕ) → IsUnmatched patterns text at n → IsUnmatched patterns text at m → n ≤ m
  one_run n m one other = elim (cases_lt m n) [
    | inl less ↦
        let inside : at + m < length text = omega (arith, one.boundary.0) in
        absurd (other.ends inside (one.later (at + m) (omega (arith, other.some)) (omega arith) other.boundary))
    | inr le ↦ le
  ]
