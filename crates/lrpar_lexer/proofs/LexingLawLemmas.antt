-- A text is lexed in only one way: at each place one rule wins, with one length, or none does.
use Rattle.std.proofs.Common.{◌≡◌, ℕ, ◌+◌, ◌<◌, ◌≤◌, List, ◌++◌, length, map, drop, take, get_or, Option, Some, sym, subst, ◌∙◌, ap₂, refl, arith, slice_get, inl, inr}
use Rattle.std.specs.List.{All}
use Rattle.std.proofs.lemmas.Bool.{cases_lt}
use Rattle.std.proofs.lemmas.Grind.{common_steps}
use Rattle.std.proofs.lemmas.List.{get_or-take}
use Rattle.std.proofs.lemmas.Option.{get_or_from_slice_get, same_Some, slice_get_within}
use Rattle.regex.specs.Patterns.{Re}
use Rattle.lrpar_lexer.specs.Matching.{HasNoMatch, MatchesAtMost, MatchesLess, NoneMatches, Wins}
use Rattle.lrpar_lexer.specs.Rules.{Rule}
use Rattle.lrpar_lexer.specs.Lexing.{Lexes, Reads, lexemes_of, ends, stops, reads}
use Rattle.lrpar_lexer.specs.LexingLaws.{LexesOneWay}

module _ (patterns : List Re) (rest : List ℕ) where
  -- what holds of all patterns holds of the winner
  of_winner : (P : Re → Type 0) (i n : ℕ) → All P patterns → (wins : Wins patterns rest i n) → P wins.pattern
  of_winner P i n all wins =
      subst P (get_or_from_slice_get patterns i wins.pattern wins.pattern wins.is)
      (all i wins.pattern (slice_get_within patterns i wins.pattern wins.is))

  -- if a pattern wins, it isn't true that none matches
  pub wins_not_none : (i n : ℕ) → Wins patterns rest i n → NoneMatches patterns rest → ⊥
  wins_not_none i n wins none = of_winner (HasNoMatch rest) i n none wins n wins.matches

  -- no winner matches more than another
  no_longer : (i n j m : ℕ) → Wins patterns rest i n → Wins patterns rest j m → n ≤ m
  no_longer i n j m one other = of_winner (MatchesAtMost rest m) i n other.longest one n one.matches

  -- no winner comes before another
  no_earlier : (i n j m : ℕ) → Wins patterns rest i n → Wins patterns rest j m → i < j → ⊥
  no_earlier i n j m one other before =
      let within : j < length patterns = slice_get_within patterns j other.pattern other.is in
      let inside : i < length (take j patterns) = grind (arith, common_steps) in
      let same : get_or (take j patterns) i one.pattern ≡ one.pattern =
      get_or-take j patterns i one.pattern before ∙ get_or_from_slice_get patterns i one.pattern one.pattern one.is in
      let less : n < m = subst (MatchesLess rest m) same (other.first i one.pattern inside) n one.matches in
      let back : m ≤ n = no_longer j m i n other one in
      absurd (omega arith)

  -- so there is one
  pub one_winner : (i n j m : ℕ) → Wins patterns rest i n → Wins patterns rest j m → (i ≡ j) × (n ≡ m)
  one_winner i n j m one other =
      let there : n ≤ m = no_longer i n j m one other in
      let back : m ≤ n = no_longer j m i n other one in (
        elim (cases_lt i j) [
          | inl before ↦ absurd (no_earlier i n j m one other before)
          | inr ge ↦ elim (cases_lt j i) [
            | inl after ↦ absurd (no_earlier j m i n other one after)
            | inr le ↦ omega arith
          ]
        ],
        omega arith,
      )

module _ (rules : List Rule) (text : List ℕ) (at : ℕ) where
  -- what is read at a place is one token and one length
  pub one_read : (s t : Option ℕ) (n m : ℕ) → Reads rules text at s n → Reads rules text at t m → (s ≡ t) × (n ≡ m)
  one_read s t n m one other =
      let same = one_winner (map (λ r. r.pattern) rules) (drop at text) one.rule n other.rule m one.wins other.wins in
      let there : slice_get (map (λ (r : Rule). r.token) rules) other.rule ≡ Some s =
      subst (λ i. slice_get (map (λ (r : Rule). r.token) rules) i ≡ Some s) same.0 one.is in
      (same_Some s t (sym there ∙ other.is), same.1)

  -- if something is read, a pattern matches
  pub read_not_none : (s : Option ℕ) (n : ℕ) → Reads rules text at s n → NoneMatches (map (λ r. r.pattern) rules) (drop at text) → ⊥
  read_not_none s n one none = wins_not_none (map (λ r. r.pattern) rules) (drop at text) one.rule n one.wins none

pub lexes_one_way : LexesOneWay
lexes_one_way rules text _ _ _ (ends at past) (ends at' past') = refl
lexes_one_way rules text _ _ _ (ends at past) (stops at' within none) = absurd (omega arith)
lexes_one_way rules text _ _ _ (ends at past) (reads at' n token more within one rest) = absurd (omega arith)
lexes_one_way rules text _ _ _ (stops at within none) (ends at' past) = absurd (omega arith)
lexes_one_way rules text _ _ _ (stops at within none) (stops at' within' none') = refl
lexes_one_way rules text _ _ _ (stops at within none) (reads at' n token more within' one rest) = absurd (read_not_none rules text at token n one none)
lexes_one_way rules text _ _ _ (reads at n token more within one rest) (ends at' past) = absurd (omega arith)
lexes_one_way rules text _ _ _ (reads at n token more within one rest) (stops at' within' none) = absurd (read_not_none rules text at token n one none)
lexes_one_way rules text _ _ _ (reads at n token more within one rest) (reads at' m other after within' two rest') =
    let same = one_read rules text at token other n m one two in
    let tail : more ≡ after = lexes_one_way rules text (at + n) more after rest (subst (λ k. Lexes rules text (at + k) after) (sym same.1) rest') in
    let head : lexemes_of token at n ≡ lexemes_of other at m = ap₂ (λ t k. lexemes_of t at k) same.0 same.1 in
    ap₂ (λ xs ys. xs ++ ys) head tail
