-- A walk along a text compares each pattern that can match there.
use Rattle.std.proofs.Common.{◌≡◌, ◌⊎◌, ℕ, ◌+◌, ◌-◌, ◌<◌, ◌≤◌, ◌==◌, Bool, true, false, List, [], ◌∷◌, ◌++◌, drop, get_or, length, take, Option, Some, None, slice_get, refl, sym, ap, ◌∙◌, subst, inl, inr, ⊎_elim, arith, suc, drop-cons, eq-eqb, length-drop, ne_eqb, true≢false}
use Rattle.std.specs.List.{AllZip, Contains}
use Rattle.std.specs.Option.{IfSome, IsSomeAnd}
use Rattle.std.specs.Str.{IsUtf8}
use Rattle.std.proofs.lemmas.Bool.{cases_Bool, cases_eq, cases_lt}
use Rattle.std.proofs.lemmas.List.{drop_all, take_all, take_more}
use Rattle.std.proofs.lemmas.Option.{IfSome_then}
use Rattle.std.proofs.lemmas.Slice.Zip.{AllZip-long}
use Rattle.std.proofs.lemmas.List.Elements.{Contains-append_cases, Contains-append_left, Contains-append_right, Contains-push, Contains-push_cases}
use Rattle.regex.specs.Patterns.{Re}
use Rattle.regex_hir.proofs.TextLemmas.{has_bytes_at_parts}
use Rattle.regex_hir.specs.Re.{literal}
use Rattle.regex_hir.specs.Text.{has_bytes_at}
use Rattle.regex_meta.specs.Programs.{pattern_of}
use Rattle.regex_meta.specs.declared.program.Program.{Program}
use Rattle.lrpar_lexer.proofs.AnchoredLemmas.{no_match_of_nothing, text_nothing}
use Rattle.lrpar_lexer.proofs.WinnerLemmas.{improves_more, improves_one, match_of_program, program_at}
use Rattle.lrpar_lexer.specs.Anchored.{FindsAtStart, HasNothingAtStart, after_start}
use Rattle.lrpar_lexer.specs.Matching.{Improves, IsCovered, IsMatchLen, NoneMatches, better}
use Rattle.lrpar_lexer.specs.RuleTrees.{AreMet, IsMet, Meets, MeetsBelow, next_of, rules_at}
use Rattle.lrpar_lexer.specs.declared.matching.Winner.{Winner}
use Rattle.lrpar_lexer.specs.declared.rule_tree.Node.{Node}

-- a number is in a list, or it isn't
contains_or_not : (xs : List ℕ) (x : ℕ) → Contains xs x ⊎ (¬ (Contains xs x))
contains_or_not [] x = inr (λ there. omega (arith, there.1))
contains_or_not (y ∷ xs) x = elim (cases_eq y x) [
  | inl same ↦ inl (Contains-append_left (y ∷ []) xs x (subst (Contains (y ∷ [])) same (Contains-push [] y)))
  | inr other ↦ elim (contains_or_not xs x) [
    | inl later ↦ inl (Contains-append_right (y ∷ []) xs x later)
    | inr not ↦ inr (λ there. ⊎_elim
        (λ (first : Contains (y ∷ []) x). ⊎_elim
        (λ (none : Contains [] x). omega (arith, none.1))
        (λ (same : y ≡ x). other same)
        (Contains-push_cases [] y x first))
        (λ (later : Contains xs x). not later)
        (Contains-append_cases (y ∷ []) xs x there))
  ]
]

-- what the test for an empty text says
pub empty_of_test : (bytes rest : List ℕ) (test : Bool) → bytes ≡ rest → test ≡ (length bytes == 0) → test ≡ true → length rest ≡ 0
empty_of_test bytes rest test same is holds = ⊎_elim
    (λ (none : length bytes ≡ 0). sym (ap length same) ∙ none)
    (λ (some : length bytes ≡ 0 → ⊥). absurd (true≢false (sym holds ∙ is ∙ ne_eqb (length bytes) 0 some)))
    (cases_eq (length bytes) 0)

pub some_of_test : (bytes rest : List ℕ) (test : Bool) → bytes ≡ rest → test ≡ (length bytes == 0) → test ≡ false → 0 < length rest
some_of_test bytes rest test same is fails = ⊎_elim
    (λ (none : length bytes ≡ 0). absurd (true≢false (sym (eq-eqb (length bytes) 0 none) ∙ sym is ∙ fails)))
    (λ (some : length bytes ≡ 0 → ⊥). ⊎_elim
    (λ (more : 0 < length rest). more)
    (λ (less : length rest ≤ 0). let len : length bytes ≡ length rest = ap length same in absurd (some (omega (arith, len, less))))
    (cases_lt 0 (length rest)))
    (cases_eq (length bytes) 0)

module _ (nodes : List Node) (patterns : List Re) (rest : List ℕ) where
  -- each pattern was compared, if the rest of the walk doesn't meet its rule
  abbrev pub AreCovered : ℕ → List ℕ → Option Winner → Type 0
  AreCovered node after best =
      (i : ℕ) (pattern : Re) → slice_get patterns i ≡ Some pattern → ¬ (MeetsBelow nodes node after i) → IsCovered rest best i pattern

  -- so it is at the first node
  pub covered_first : (programs : List Program) (byte : ℕ) (after : List ℕ) (best : Option Winner) → IsUtf8 rest → rest ≡ byte ∷ after → byte < 256
      → AreMet nodes programs → AllZip FindsAtStart programs patterns → Improves patterns rest (rules_at nodes byte) None best
      → AreCovered byte after best
  covered_first programs byte after best utf8 is small met find improves i pattern at not = ⊎_elim
      (λ (here : Contains (rules_at nodes byte) i). improves.tried i pattern here at)
      (λ (elsewhere : ¬ (Contains (rules_at nodes byte) i)).
      let program = program_at programs patterns i pattern find at in
      let unmet : ¬ (Meets nodes byte after i) = λ meets. ⊎_elim
      (λ (here : Contains (rules_at nodes byte) i). elsewhere here) (λ (below : MeetsBelow nodes byte after i). not below) meets in
      let nothing : HasNothingAtStart (pattern_of program.0) rest =
      subst (HasNothingAtStart (pattern_of program.0)) (sym is) (met i program.0 program.1 byte after small unmet) in
      improves.kept i pattern (λ n found. absurd (no_match_of_nothing program.0 pattern rest utf8 program.2 nothing n found)))
      (contains_or_not (rules_at nodes byte) i)

  -- and at the next one
  pub covered_next : (node byte next : ℕ) (after : List ℕ) (old new : Option Winner) → next_of nodes node byte ≡ Some next
      → Improves patterns rest (rules_at nodes next) old new → AreCovered node (byte ∷ after) old → AreCovered next after new
  covered_next node byte next after old new leads improves covered i pattern at not = ⊎_elim
      (λ (here : Contains (rules_at nodes next) i). improves.tried i pattern here at)
      (λ (elsewhere : ¬ (Contains (rules_at nodes next) i)).
      improves.kept i pattern (covered i pattern at (λ below.
      let meets : Meets nodes next after i =
      subst (λ o. IsSomeAnd o (λ next. Contains (rules_at nodes next) i ⊎ MeetsBelow nodes next after i)) leads below in
      ⊎_elim (λ (here : Contains (rules_at nodes next) i). elsewhere here) (λ (further : MeetsBelow nodes next after i). not further) meets)))
      (contains_or_not (rules_at nodes next) i)

  -- where no byte leads on, each pattern was compared
  pub covered_last : (node byte : ℕ) (after : List ℕ) (best : Option Winner) → next_of nodes node byte ≡ None → AreCovered node (byte ∷ after) best
      → (i : ℕ) (pattern : Re) → slice_get patterns i ≡ Some pattern → IsCovered rest best i pattern
  covered_last node byte after best leads covered i pattern at =
      covered i pattern at (λ below. subst (λ o. IsSomeAnd o (λ next. Contains (rules_at nodes next) i ⊎ MeetsBelow nodes next after i)) leads below)

  -- and at the end of the text
  pub covered_end : (node : ℕ) (best : Option Winner) → AreCovered node [] best
      → (i : ℕ) (pattern : Re) → slice_get patterns i ≡ Some pattern → IsCovered rest best i pattern
  covered_end node best covered i pattern at = covered i pattern at (λ below. below)

  -- the first node is that of the first byte
  pub covered_start : (programs : List Program) (node : ℕ) (best : Option Winner) → IsUtf8 rest → 0 < length rest → get_or rest 0 0 < 256
      → node ≡ get_or rest 0 0 → AreMet nodes programs → AllZip FindsAtStart programs patterns
      → Improves patterns rest (rules_at nodes node) None best → AreCovered node (drop 1 rest) best
  covered_start programs node best utf8 some small same met find improves =
      let one : 1 ≡ suc 0 = omega arith in
      let is : rest ≡ get_or rest 0 0 ∷ drop 1 rest = drop-cons rest 0 0 some ∙ ap (λ k. get_or rest 0 0 ∷ drop k rest) (sym one) in
      subst (λ k. AreCovered k (drop 1 rest) best) (sym same)
      (covered_first programs (get_or rest 0 0) (drop 1 rest) best utf8 is small met find
      (subst (λ k. Improves patterns rest (rules_at nodes k) None best) same improves))

  -- what comes after the first byte, as a loop over it reads it
  pub the_tail : (bytes : List ℕ) → bytes ≡ rest → take (length bytes - 1) (drop 1 bytes) ≡ drop 1 rest
  the_tail bytes same =
      take_all (length bytes - 1) (drop 1 bytes) (omega (arith, length-drop 1 bytes)) ∙ ap (drop 1) same

  -- it goes on with a byte
  pub goes_on : (bytes : List ℕ) (k byte : ℕ) → bytes ≡ rest → k < length (take (length bytes - 1) (drop 1 bytes))
      → byte ≡ get_or (take (length bytes - 1) (drop 1 bytes)) k 0 → drop k (drop 1 rest) ≡ byte ∷ drop (k + 1) (drop 1 rest)
  goes_on bytes k byte same within read =
      let tail : take (length bytes - 1) (drop 1 bytes) ≡ drop 1 rest = the_tail bytes same in
      let next : suc k ≡ k + 1 = omega arith in
      drop-cons (drop 1 rest) k 0 (subst (λ l. k < length l) tail within)
      ∙ ap (λ b. b ∷ drop (suc k) (drop 1 rest)) (sym (read ∙ ap (λ l. get_or l k 0) tail))
      ∙ ap (λ n. byte ∷ drop n (drop 1 rest)) next

  -- a step of the loop
  pub covered_step : (bytes : List ℕ) (k node byte next : ℕ) (old new : Option Winner) → bytes ≡ rest
      → k < length (take (length bytes - 1) (drop 1 bytes)) → byte ≡ get_or (take (length bytes - 1) (drop 1 bytes)) k 0
      → Some next ≡ next_of nodes node byte → Improves patterns rest (rules_at nodes next) old new
      → AreCovered node (drop k (drop 1 rest)) old → AreCovered next (drop (k + 1) (drop 1 rest)) new
  covered_step bytes k node byte next old new same within read leads improves covered =
      covered_next node byte next (drop (k + 1) (drop 1 rest)) old new (sym leads) improves
      (subst (λ after. AreCovered node after old) (goes_on bytes k byte same within read) covered)

  -- the loop ends where no byte leads on
  pub covered_stop : (bytes : List ℕ) (k node byte : ℕ) (best : Option Winner) → bytes ≡ rest
      → k < length (take (length bytes - 1) (drop 1 bytes)) → byte ≡ get_or (take (length bytes - 1) (drop 1 bytes)) k 0
      → None ≡ next_of nodes node byte → AreCovered node (drop k (drop 1 rest)) best
      → (i : ℕ) (pattern : Re) → slice_get patterns i ≡ Some pattern → IsCovered rest best i pattern
  covered_stop bytes k node byte best same within read leads covered =
      covered_last node byte (drop (k + 1) (drop 1 rest)) best (sym leads)
      (subst (λ after. AreCovered node after best) (goes_on bytes k byte same within read) covered)

  -- or where the text ends
  pub covered_finish : (bytes : List ℕ) (k node : ℕ) (best : Option Winner) → bytes ≡ rest → length (take (length bytes - 1) (drop 1 bytes)) ≤ k
      → AreCovered node (drop k (drop 1 rest)) best
      → (i : ℕ) (pattern : Re) → slice_get patterns i ≡ Some pattern → IsCovered rest best i pattern
  covered_finish bytes k node best same long covered =
      covered_end node best (subst (λ after. AreCovered node after best)
      (drop_all k (drop 1 rest) (subst (λ l. length l ≤ k) (the_tail bytes same) long)) covered)

  -- no pattern matches at the start of an empty text
  pub none_in_empty : length rest ≡ 0 → NoneMatches patterns rest
  none_in_empty empty i d within n is = omega (arith, empty, is.some, is.boundary.0)

-- one more of some rules is compared
pub improves_at : (programs : List Program) (patterns : List Re) (rest : List ℕ) (rules : List ℕ) (i : ℕ) (old best : Option Winner) (found : Option ℕ)
    → i < length rules → AllZip FindsAtStart programs patterns → Improves patterns rest (take i rules) old best
    → IfSome found (λ _. get_or rules i 0 < length programs)
    → ((program : Program) (pattern : Re) → slice_get programs (get_or rules i 0) ≡ Some program → FindsAtStart program pattern → IsMatchLen rest pattern found)
    → Improves patterns rest (take (i + 1) rules) old (better best (get_or rules i 0) found)
improves_at programs patterns rest rules i old best found within find improves known asks =
    let r : ℕ = get_or rules i 0 in
    let has : IfSome found (λ _. r < length patterns) =
    IfSome_then found known (λ _ k. omega (arith, k, AllZip-long FindsAtStart programs patterns find)) in
    subst (λ rs. Improves patterns rest rs old (better best r found)) (sym (take_more rules i 0 within))
    (improves_more patterns rest (take i rules) r old best (better best r found) improves
    (improves_one patterns rest best r found has (match_of_program programs patterns rest r found find asks)))

-- a pattern that is a text is met by each text that begins with it
pub text_is_met : (nodes : List Node) (program : Program) (bytes : List ℕ) (rule : ℕ) → pattern_of program ≡ after_start (literal bytes) → 0 < length bytes
    → ((byte : ℕ) (before after : List ℕ) → bytes ≡ byte ∷ before → Meets nodes byte (before ++ after) rule) → IsMet nodes program rule
text_is_met nodes program [] rule is some meets byte text small not = absurd (omega (arith, some))
text_is_met nodes program (first ∷ before) rule is some meets byte text small not = ⊎_elim
    (λ (has : has_bytes_at (byte ∷ text) 0 (first ∷ before) ≡ true).
    let after = drop (0 + length (first ∷ before)) (byte ∷ text) in
    let parts : byte ∷ text ≡ first ∷ before ++ after = has_bytes_at_parts (byte ∷ text) 0 (first ∷ before) has in
    let same_byte : byte ≡ first = ap (λ l. get_or l 0 0) parts in
    let same_text : text ≡ before ++ after = ap (drop 1) parts in
    absurd (not (subst (λ b. Meets nodes b text rule) (sym same_byte)
    (subst (λ t. Meets nodes first t rule) (sym same_text) (meets first before after refl)))))
    (λ (other : has_bytes_at (byte ∷ text) 0 (first ∷ before) ≡ false).
    subst (λ re. HasNothingAtStart re (byte ∷ text)) (sym is) (text_nothing (first ∷ before) (byte ∷ text) other))
    (cases_Bool (has_bytes_at (byte ∷ text) 0 (first ∷ before)))
