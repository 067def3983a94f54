-- A pattern after an assertion that the text starts there finds what the pattern finds, if that begins at 0.
use Rattle.std.proofs.Common.{◌≡◌, ℕ, ◌+◌, ◌<◌, ◌≤◌, Bool, true, false, cond, ◌==◌, List, [], ◌∷◌, length, is_some, Option, Some, None, option_map, refl, sym, ap, ◌∙◌, subst, ⊎_elim, arith, true≢false, ne_eqb, nat_eq, zero, suc}
use Rattle.std.proofs.lemmas.Bool.{cases_Bool, cases_lt, cond-false, cond-true}
use Rattle.std.proofs.lemmas.Option.{none-some, same_Some, slice_get-get_or}
use Rattle.std.proofs.lemmas.Str.{IsCharBoundary-start}
use Rattle.std.specs.List.{starts_with}
use Rattle.std.specs.Str.{IsUtf8}
use Rattle.regex.specs.Patterns.{Config, Match, Re, Start, find, find_str, holds, span}
use Rattle.regex_hir.specs.Looks.{holds_between}
use Rattle.regex_hir.specs.Re.{Trace, accept, attempt, literal}
use Rattle.regex_hir.specs.Text.{has_bytes_at, is_boundary}
use Rattle.regex_hir.proofs.AttemptLemmas.{attempt_cong, cond_some}
use Rattle.regex_hir.proofs.FindLemmas.{IsFirst-of_first_between, first_between_here}
use Rattle.regex_hir.proofs.OptionLemmas.{none_of_no_value, option_cases}
use Rattle.regex_hir.proofs.TextLemmas.{byte_before-add-one, byte_before-zero}
use Rattle.regex_meta.proofs.LeftmostLemmas.{find_first, find_here, find_none}
use Rattle.regex_meta.proofs.ProgramLemmas.{refuted}
use Rattle.regex_meta.specs.Programs.{leftmost, pattern_of}
use Rattle.regex_literal.specs.ByteSets.{IsInSet}
use Rattle.regex_literal.specs.Find.{IsFirst}
use Rattle.regex.proofs.Utf8Lemmas.{test_of_IsCharBoundary}
use Rattle.regex_hir.specs.Meaning.{meaning}
use Rattle.regex_meta.specs.declared.program.Program.{Program}
use Rattle.lrpar_lexer.specs.Anchored.{FindsAtStart, FindsText, HasNothingAtStart, IsAfterStart, after_start, if_at_start, without_start}
use Rattle.lrpar_lexer.specs.Matching.{HasNoMatch}

-- only the first place of a text has nothing before it
begins_at : (text : List ℕ) (i : ℕ) → i ≤ length text → holds Start text i ≡ true → i ≡ 0
unfolding holds holds_between
begins_at text zero within begins = refl
begins_at text (suc i) within begins =
    let next : suc i ≡ i + 1 = omega arith in
    absurd (true≢false (sym begins ∙ rw (next, byte_before-add-one text i, slice_get-get_or text i 0 (omega arith))))

module _ (re : Re) (text : List ℕ) where
  -- at 0 both do the same
  attempt_at_start : attempt text (after_start re) accept 0 ≡ attempt text re accept 0
  unfolding attempt holds holds_between
  attempt_at_start =
      cond-true (holds Start text 0) _ None (rw (byte_before-zero text) refl) ∙ attempt_cong text re _ accept 0 (λ j matches. refl)

  -- and elsewhere the pattern with the assertion finds nothing
  attempt_past_start : (i : ℕ) (t : Trace) → i ≤ length text → attempt text (after_start re) accept i ≡ Some t → i ≡ 0
  unfolding attempt
  attempt_past_start i t within found = ⊎_elim
      (λ (begins : holds Start text i ≡ true). begins_at text i within begins)
      (λ (not : holds Start text i ≡ false). absurd (none-some t (sym (cond-false (holds Start text i) _ None not) ∙ found)))
      (cases_Bool (holds Start text i))

  -- a match that begins later isn't looked for
  later_is_none : (m : Match) → 0 < m.start → if_at_start (Some (span m)) ≡ None
  later_is_none m later = cond-false (m.start == 0) (Some (span m)) None (ne_eqb m.start 0 (λ same. omega arith))

  -- if nothing matches at 0, a match begins later
  begins_later : (m : Match) → attempt text re accept 0 ≡ None
      → cond (is_boundary text m.start) (attempt text re accept m.start) None ≡ Some m.trace → 0 < m.start
  begins_later m none here = ⊎_elim
      (λ (first : m.start < 1). let at : m.start ≡ 0 = omega arith in
      absurd (none-some m.trace (sym none ∙ subst (λ i. attempt text re accept i ≡ Some m.trace) at
      (cond_some (is_boundary text m.start) (attempt text re accept m.start) m.trace here).1)))
      (λ (past : 1 ≤ m.start). past)
      (cases_lt m.start 1)

  nothing_at_start : attempt text re accept 0 ≡ None → if_at_start (option_map span (find_str re text 0)) ≡ None
  unfolding find_str
  nothing_at_start none = ⊎_elim
      (λ missing. ap (λ m. if_at_start (option_map span m)) missing)
      (λ (found : (m : Match) × (find_str re text 0 ≡ Some m)).
      let first = IsFirst-of_first_between _ 0 (length text) found.0 found.1 in
      ap (λ m. if_at_start (option_map span m)) found.1 ∙ later_is_none found.0 (begins_later found.0 none first.here))
      (option_cases (find_str re text 0))

  anchored_finds_nothing : attempt text re accept 0 ≡ None → find (after_start re) text 0 ≡ None
  anchored_finds_nothing none =
      find_none (after_start re) text 0 (λ i t low high found.
      let begins : i ≡ 0 = attempt_past_start i t high found in
      none-some t (sym none ∙ sym attempt_at_start ∙ subst (λ j. attempt text (after_start re) accept j ≡ Some t) begins found))

  -- what matches at 0 is found
  something_at_start : (t : Trace) → is_boundary text 0 ≡ true → attempt text re accept 0 ≡ Some t
      → find_str re text 0 ≡ Some (record { start = 0; trace = t })
  unfolding find_str
  something_at_start t boundary some =
      first_between_here _ 0 (length text) t (omega arith) (cond-true (is_boundary text 0) _ None boundary ∙ some)

  pub found_at_start : is_boundary text 0 ≡ true
      → option_map span (find (after_start re) text 0) ≡ if_at_start (option_map span (find_str re text 0))
  found_at_start boundary = ⊎_elim
      (λ (none : attempt text re accept 0 ≡ None). ap (option_map span) (anchored_finds_nothing none) ∙ sym (nothing_at_start none))
      (λ (some : (t : Trace) × (attempt text re accept 0 ≡ Some t)).
      ap (option_map span) (find_here (after_start re) text 0 some.0 (omega arith) (attempt_at_start ∙ some.1))
      ∙ sym (ap (λ m. if_at_start (option_map span m)) (something_at_start some.0 boundary some.1)))
      (option_cases (attempt text re accept 0))

-- so the program of a pattern after the assertion finds what the pattern finds at the start
pub finds_after : (config : Config) (source : List ℕ) (program : Program) → IsAfterStart config source program → FindsAtStart program (without_start (pattern_of program))
finds_after config source program it text utf8 =
    let boundary : is_boundary text 0 ≡ true = test_of_IsCharBoundary text 0 (IsCharBoundary-start text utf8) in
    let pattern : without_start (pattern_of program) ≡ meaning it.tree = ap without_start it.after in
    ap (λ re. option_map span (find re text 0)) it.after ∙ found_at_start (meaning it.tree) text boundary
    ∙ ap (λ re. if_at_start (option_map span (find_str re text 0))) (sym pattern)

-- a pattern that is a text matches nothing at the start of a text that doesn't begin with it
pub text_nothing : (bytes text : List ℕ) → has_bytes_at text 0 bytes ≡ false → HasNothingAtStart (after_start (literal bytes)) text
unfolding attempt
text_nothing bytes text not = attempt_at_start (literal bytes) text ∙ cond-false (has_bytes_at text 0 bytes) (accept (0 + length bytes)) None not

-- and otherwise the bytes
pub finds_text : (program : Program) (bytes : List ℕ) → pattern_of program ≡ after_start (literal bytes) → FindsText program bytes
unfolding attempt
finds_text program bytes is text =
    let length_is : 0 + length bytes ≡ length bytes = omega arith in
    ⊎_elim
    (λ (has : has_bytes_at text 0 bytes ≡ true).
    ap (λ re. option_map span (find re text 0)) is
    ∙ ap (option_map span) (find_here (after_start (literal bytes)) text 0 (record { end = 0 + length bytes; writes = [] }) (omega arith)
    (attempt_at_start (literal bytes) text ∙ cond-true (has_bytes_at text 0 bytes) (accept (0 + length bytes)) None has))
    ∙ ap (λ n. Some (0, n)) length_is ∙ sym (cond-true (has_bytes_at text 0 bytes) (Some (0, length bytes)) None has))
    (λ (not : has_bytes_at text 0 bytes ≡ false).
    ap (λ re. option_map span (find re text 0)) is
    ∙ ap (option_map span) (anchored_finds_nothing (literal bytes) text (cond-false (has_bytes_at text 0 bytes) (accept (0 + length bytes)) None not))
    ∙ sym (cond-false (has_bytes_at text 0 bytes) (Some (0, length bytes)) None not))
    (cases_Bool (has_bytes_at text 0 bytes))

-- what a test of the first bytes says of it
pub text_span : (program : Program) (bytes text : List ℕ) (found : Bool) → FindsText program bytes → found ≡ starts_with nat_eq text bytes
    → option_map span (leftmost program text 0) ≡ cond found (Some (0, length bytes)) None
unfolding has_bytes_at
text_span program bytes text found finds is = finds text ∙ ap (λ b. cond b (Some (0, length bytes)) None) (sym is)

-- if a byte can't begin a match, nothing matches at the start of a text that begins with it
pub nothing_begins : (program : Program) (set : List Bool) → program.first ≡ Some set → (byte : ℕ) (found : Option ℕ)
    → IsFirst (IsInSet set (byte ∷ [])) 0 1 found → is_some found ≡ false → (text : List ℕ) → HasNothingAtStart (pattern_of program) (byte ∷ text)
nothing_begins program set is byte None none missing text =
    none_of_no_value (attempt (byte ∷ text) (pattern_of program) accept 0) (λ t found. refuted program.starts (λ starts.
    let there = starts set is (byte ∷ text) 0 t found in
    none 0 (omega arith) (omega arith) there.1))
nothing_begins program set is byte (Some at) first missing text = absurd (true≢false missing)

-- and so the pattern has no match
pub no_match_of_nothing : (program : Program) (pattern : Re) (text : List ℕ) → IsUtf8 text → FindsAtStart program pattern
    → HasNothingAtStart (pattern_of program) text → HasNoMatch text pattern
no_match_of_nothing program pattern text utf8 finds nothing n is = ⊎_elim
    (λ none. none-some (0, n) (sym (ap (option_map span) none) ∙ found))
    (λ (some : (m : Match) × (leftmost program text 0 ≡ Some m)).
    let first = find_first (pattern_of program) text 0 some.0 some.1 in
    let same : span some.0 ≡ (0, n) = same_Some (span some.0) (0, n) (sym (ap (option_map span) some.1) ∙ found) in
    let at : some.0.start ≡ 0 = ap (λ (s : ℕ × ℕ). s.0) same in
    none-some some.0.trace (sym nothing ∙ subst (λ i. attempt text (pattern_of program) accept i ≡ Some some.0.trace) at first.here))
    (option_cases (leftmost program text 0))
  where
    found : option_map span (leftmost program text 0) ≡ Some (0, n)
    found = finds text utf8 ∙ ap if_at_start is.found
