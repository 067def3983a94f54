-- Each text has a list of lexemes, if unmatched characters are lexemes, too: at each place it can be found out what comes there.
use Rattle.std.proofs.Common.{◌≡◌, ℕ, ◌+◌, ◌-◌, ◌<◌, ◌≤◌, ◌⊎◌, List, [], length, map, drop, get_or, Option, Some, None, option_map, Result, sym, subst, ◌∙◌, ap, arith, inl, inr, refl, zero, suc, ◌++◌}
use Rattle.std.specs.Str.{IsCharBoundary}
use Rattle.std.proofs.lemmas.Bool.{cases_lt}
use Rattle.std.proofs.lemmas.List.{length-map}
use Rattle.std.proofs.lemmas.Option.{none-some, same_Some, slice_get-get_or, slice_get_within}
use Rattle.regex.specs.Patterns.{Re, empty, find_str, span}
use Rattle.regex_hir.proofs.OptionLemmas.{option_cases}
use Rattle.lrpar_lexer.specs.declared.matching.Winner.{Winner}
use Rattle.lrpar_lexer.specs.declared.token.Token.{Token}
use Rattle.lrpar_lexer.specs.declared.token.NoToken.{NoToken}
use Rattle.lrpar_lexer.specs.Matching.{IsMatchLen, IsOfPattern, IsUnmatched, IsWinner, NoneMatches, Wins, better}
use Rattle.lrpar_lexer.specs.Rules.{Rule}
use Rattle.lrpar_lexer.specs.Lexing.{Reads, lexemes_of}
use Rattle.lrpar_lexer.specs.LexingAll.{IsNext, LexesAll, finishes, goes_on}
use Rattle.lrpar_lexer.specs.LexingAllLaws.{LexesEachText}
use Rattle.lrpar_lexer.proofs.LexingLawLemmas.{wins_not_none}
use Rattle.lrpar_lexer.proofs.UnmatchedLemmas.{NoneLater, none_later_first, run_to_end}
use Rattle.lrpar_lexer.proofs.ChosenLemmas.{AreCoveredBelow, covered_below_more}
use Rattle.lrpar_lexer.proofs.RuleTreeLemmas.{if_some}
use Rattle.lrpar_lexer.proofs.WinnerLemmas.{improves_one, wins_if_covered}

-- a place is between two characters, or isn't
boundary_or_not : (text : List ℕ) (at : ℕ) → IsCharBoundary text at ⊎ (¬ (IsCharBoundary text at))
boundary_or_not text at = elim (cases_lt (length text) at) [
  | inl past ↦ inr (λ boundary. omega (arith, boundary.0))
  | inr within ↦ elim (cases_lt at (length text)) [
    | inl inside ↦ elim (cases_lt (get_or text at 0) 128) [
      | inl ascii ↦ inl (within, λ _ high. absurd (omega arith))
      | inr high ↦ elim (cases_lt (get_or text at 0) 192) [
        | inl continues ↦ inr (λ boundary. let lead : 192 ≤ get_or text at 0 = boundary.1 inside high in omega arith)
        | inr leads ↦ inl (within, λ _ _. leads)
      ]
    ]
    | inr end ↦ inl (within, λ inside. absurd (omega arith))
  ]
]

module _ (rest : List ℕ) (pattern : Re) where
  -- what the pattern finds is a match at the start, or isn't
  found_len : (s : ℕ × ℕ) → option_map span (find_str pattern rest 0) ≡ Some s → (found : Option ℕ) × IsMatchLen rest pattern found
  found_len s is = elim (cases_lt 0 s.0) [
    | inl later ↦ (None, λ n is_match. let first : s.0 ≡ 0 = ap (λ (p : ℕ × ℕ). p.0) (same_Some s (0, n) (sym is ∙ is_match.found)) in omega arith)
    | inr first ↦ elim (cases_lt 0 s.1) [
      | inl some ↦ elim (boundary_or_not rest s.1) [
        | inl boundary ↦
            let at : s.0 ≡ 0 = omega arith in
            (Some s.1, record { found = is ∙ ap (λ k. Some (k, s.1)) at; some = some; boundary = boundary })
        | inr not ↦ (
          None,
          λ n is_match. let same : s.1 ≡ n = ap (λ (p : ℕ × ℕ). p.1) (same_Some s (0, n) (sym is ∙ is_match.found)) in
              not (subst (IsCharBoundary rest) (sym same) is_match.boundary),
        )
      ]
      | inr nothing ↦ (
        None,
        λ n is_match. let same : s.1 ≡ n = ap (λ (p : ℕ × ℕ). p.1) (same_Some s (0, n) (sym is ∙ is_match.found)) in
            omega (arith, is_match.some),
      )
    ]
  ]

  -- so the pattern has a match at the start, or none
  match_len_of : (found : Option ℕ) × IsMatchLen rest pattern found
  match_len_of = elim (option_cases (option_map span (find_str pattern rest 0))) [
    | inl none ↦ (None, λ n is_match. none-some (0, n) (sym none ∙ is_match.found))
    | inr some ↦ found_len some.0 some.1
  ]

-- the first patterns have a best match, or none of them matches
best_of_first : (patterns : List Re) (rest : List ℕ) (i : ℕ) → i ≤ length patterns
    → (best : Option Winner) × IsOfPattern patterns rest best × AreCoveredBelow patterns rest i best
best_of_first patterns rest zero within = (None, tt, λ place pattern below. absurd (omega (arith, below)))
best_of_first patterns rest (suc i) within =
    let before = best_of_first patterns rest i (omega arith) in
    let inside : i < length patterns = omega arith in
    let there = match_len_of rest (get_or patterns i empty) in
    let next : suc i ≡ i + 1 = omega arith in
    let improves = improves_one patterns rest before.0 i there.0 (if_some there.0 (λ n is. inside))
    (λ pattern is. subst (λ re. IsMatchLen rest re there.0)
    (same_Some (get_or patterns i empty) pattern (sym (slice_get-get_or patterns i empty inside) ∙ is)) there.1) in (
      better before.0 i there.0,
      improves.real before.1,
      subst (λ k. AreCoveredBelow patterns rest k (better before.0 i there.0)) (sym next)
          (covered_below_more patterns rest i before.0 (better before.0 i there.0) improves before.2),
    )

-- all patterns have a winner, or none of them matches
winner_or_none_of : (patterns : List Re) (rest : List ℕ) (winner : Option Winner) → IsWinner patterns rest winner
    → ((w : Winner) × Wins patterns rest w.rule w.len) ⊎ NoneMatches patterns rest
winner_or_none_of patterns rest None none = inr none
winner_or_none_of patterns rest (Some w) wins = inl (w, wins)

pub winner_or_none : (patterns : List Re) (rest : List ℕ) → ((w : Winner) × Wins patterns rest w.rule w.len) ⊎ NoneMatches patterns rest
winner_or_none patterns rest =
    let best = best_of_first patterns rest (length patterns) (omega arith) in
    winner_or_none_of patterns rest best.0
    (wins_if_covered patterns rest best.0 best.1 (λ i pattern is. best.2 i pattern (slice_get_within patterns i pattern is) is))

module _ (patterns : List Re) (text : List ℕ) (at : ℕ) (none : NoneMatches patterns (drop at text)) where
  -- a run of n bytes so far ends somewhere
  run_from : (left n : ℕ) → 0 < n → at + n + left ≡ length text → NoneLater patterns text at n → (m : ℕ) × IsUnmatched patterns text at m
  run_from zero n some end later = (n, run_to_end patterns text at n some (omega arith) none later)
  run_from (suc left) n some end later = elim (boundary_or_not text (at + n)) [
    | inl boundary ↦ elim (winner_or_none patterns (drop (at + n) text)) [
      | inl won ↦ (
        n,
        record {
          some = some;
          boundary = boundary;
          none = none;
          later = later;
          ends = λ _ here. wins_not_none patterns (drop (at + n) text) won.0.rule won.0.len won.1 here;
        },
      )
      | inr here ↦ run_from left (n + 1) (omega arith) (omega arith) (more (λ _. here))
    ]
    | inr not ↦ run_from left (n + 1) (omega arith) (omega arith) (more (λ boundary. absurd (not boundary)))
  ]
    where
      more : (IsCharBoundary text (at + n) → NoneMatches patterns (drop (at + n) text)) → NoneLater patterns text at (n + 1)
      more here place above below boundary = elim (cases_lt place (at + n)) [
        | inl before ↦ later place above before boundary
        | inr past ↦
            let same : at + n ≡ place = omega arith in
            subst (λ k. NoneMatches patterns (drop k text)) same (here (subst (IsCharBoundary text) (sym same) boundary))
      ]

  -- so there is a run
  pub run_of : at < length text → (m : ℕ) × IsUnmatched patterns text at m
  run_of within = run_from (length text - (at + 1)) 1 (omega arith) (omega arith) (none_later_first patterns text at)

module _ (rules : List Rule) (text : List ℕ) where
  abbrev patterns : List Re
  patterns = map (λ (r : Rule). r.pattern) rules

  -- the winner is read
  read_of_winner : (at : ℕ) (w : Winner) → Wins patterns (drop at text) w.rule w.len → (token : Option ℕ) × (n : ℕ) × Reads rules text at token n
  read_of_winner at w wins =
      let tokens = map (λ (r : Rule). r.token) rules in
      let within : w.rule < length tokens =
      omega (arith, slice_get_within patterns w.rule wins.pattern wins.is, length-map rules (λ (r : Rule). r.pattern), length-map rules (λ (r : Rule). r.token)) in
      (get_or tokens w.rule None, w.len, record { rule = w.rule; wins = wins; is = slice_get-get_or tokens w.rule None within })

  -- so at each place something comes
  next_of : (unmatched at : ℕ) → at < length text → (token : Option ℕ) × (n : ℕ) × (0 < n) × IsNext rules unmatched text at token n
  next_of unmatched at within = elim (winner_or_none patterns (drop at text)) [
    | inl won ↦
        let read = read_of_winner at won.0 won.1 in
        (read.0, read.1, read.2.wins.matches.some, inl read.2)
    | inr none ↦
        let run = run_of patterns text at none within in
        (Some unmatched, run.0, run.1.some, inr (run.1, refl))
  ]

  -- and the rest of the text has a list
  lexes_rest : (unmatched left at : ℕ) → length text ≤ at + left → (answers : List (Result (Token ℕ) NoToken)) × LexesAll rules unmatched text at answers
  lexes_rest unmatched zero at end = ([], finishes at (omega arith))
  lexes_rest unmatched (suc left) at end = elim (cases_lt at (length text)) [
    | inl within ↦
        let next = next_of unmatched at within in
        let rest = lexes_rest unmatched left (at + next.1) (omega (arith, next.2)) in
        (lexemes_of next.0 at next.1 ++ rest.0, goes_on at next.1 next.0 rest.0 within next.3 rest.1)
    | inr past ↦ ([], finishes at past)
  ]

pub lexes_each_text : LexesEachText
lexes_each_text rules unmatched text = lexes_rest rules text unmatched (length text) 0 (omega arith)
