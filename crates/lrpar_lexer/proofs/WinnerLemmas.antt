-- The winner of some patterns: the best match, after each of them was compared with it.
use Rattle.std.proofs.Common.{◌≡◌, ℕ, ◌+◌, ◌<◌, ◌≤◌, ◌==◌, ◌&&◌, ◌||◌, Bool, true, false, List, [], ◌∷◌, ◌++◌, map, length, min, take, get_or, set, Option, Some, None, option_map, nat_le, nat_lt, sym, subst, ◌∙◌, ap, refl, zero, suc, arith, slice_get, ⊎_elim}
use Rattle.std.specs.List.{AllZip, Contains}
use Rattle.std.specs.Option.{IfSome, IsSomeAnd}
use Rattle.std.proofs.lemmas.Bool.{cases_lt, cond_both}
use Rattle.std.proofs.lemmas.Bool.Decides.{nat_tests}
use Rattle.std.proofs.lemmas.List.{length-take, map-append, map-set, set-get_or, get_or-map, get_or-take, take_all, take_more}
use Rattle.std.proofs.lemmas.List.Elements.{Contains-append_cases, Contains-push_cases}
use Rattle.std.proofs.lemmas.Option.{same_Some, slice_get-get_or, slice_get-map, slice_get_read}
use Rattle.regex.specs.Patterns.{Re, empty}
use Rattle.regex_meta.specs.declared.program.Program.{Program}
use Rattle.lrpar_lexer.specs.declared.matching.Winner.{Winner}
use Rattle.lrpar_lexer.specs.declared.rule.LexRule.{LexRule}
use Rattle.lrpar_lexer.specs.Anchored.{FindsAtStart}
use Rattle.lrpar_lexer.specs.Rules.{anchored_of, pattern_of}
use Rattle.lrpar_lexer.specs.Matching.{Improves, IsCovered, IsMatch, IsMatchLen, IsOfPattern, IsWinner, better}

-- if one element of a list changes and keeps its value, all values stay
pub values_stay : {A B : Type 0} (value : A → B) (all : List A) (i : ℕ) (old new : A) → i < length all → old ≡ get_or all i old
    → value new ≡ value old → map value (set all i new) ≡ map value all
values_stay value all i old new within read same =
    let at : get_or (map value all) i (value old) ≡ value old = get_or-map value all i old _ within ∙ ap value (sym read) in
    map-set value all i new ∙ ap (set (map value all) i) (same ∙ sym at) ∙ set-get_or (map value all) i _

-- a pattern has one match there
one_length : {rest : List ℕ} {pattern : Re} {m n : ℕ} → IsMatch rest pattern m → IsMatch rest pattern n → m ≡ n
one_length {m = m} {n = n} one other =
    let same : (0, m) ≡ (0, n) = same_Some (0, m) (0, n) (sym one.found ∙ other.found) in
    ap (λ (s : ℕ × ℕ). s.1) same

-- the test by which the better of two matches is chosen
abbrev keeps_first : ℕ → ℕ → ℕ → ℕ → Bool
keeps_first n len rule r = nat_lt n len || (n == len && nat_le rule r)

when_kept : (n len rule r : ℕ) → keeps_first n len rule r ≡ true → (n ≤ len) × (n ≡ len → rule ≤ r)
when_kept n len rule r is = (grind (arith, nat_tests), λ same. grind (arith, nat_tests))

when_replaced : (n len rule r : ℕ) → keeps_first n len rule r ≡ false → (len ≤ n) × (n ≡ len → r < rule)
when_replaced n len rule r is = (grind (arith, nat_tests), λ same. grind (arith, nat_tests))

module _ (rest : List ℕ) where
  -- what is covered by the best match is covered by a better one
  better_kept : (best : Option Winner) (r : ℕ) (found : Option ℕ) (i : ℕ) (pattern : Re) → IsCovered rest best i pattern
      → IsCovered rest (better best r found) i pattern
  better_kept best r None i pattern covered m is = covered m is
  better_kept None r (Some n) i pattern covered m is = absurd (covered m is)
  better_kept (Some w) r (Some n) i pattern covered m is =
      let old : (m ≤ w.len) × (m ≡ w.len → w.rule ≤ i) = covered m is in
      cond_both (keeps_first n w.len w.rule r) (Some w) (Some (record { rule = r; len = n })) (λ o. IsSomeAnd o (λ w. (m ≤ w.len) × (m ≡ w.len → w.rule ≤ i)))
      (λ kept. old)
      (λ replaced.
      let new = when_replaced n w.len w.rule r replaced in (
        omega (arith, old.0, new.0),
        λ same.
            let at : n ≡ w.len = omega (arith, old.0, new.0) in
            let low : r < w.rule = new.1 at in
            let high : w.rule ≤ i = old.1 (omega (arith, at)) in
            omega (arith, low, high),
      ))

  -- and so is the match that it was compared with
  better_tried : (best : Option Winner) (r : ℕ) (found : Option ℕ) (pattern : Re) → IsMatchLen rest pattern found
      → IsCovered rest (better best r found) r pattern
  better_tried best r None pattern not m is = absurd (not m is)
  better_tried None r (Some n) pattern has m is =
      let same : m ≡ n = one_length is has in
      (omega (arith, same), λ _. omega arith)
  better_tried (Some w) r (Some n) pattern has m is =
      let same : m ≡ n = one_length is has in
      cond_both (keeps_first n w.len w.rule r) (Some w) (Some (record { rule = r; len = n })) (λ o. IsSomeAnd o (λ w. (m ≤ w.len) × (m ≡ w.len → w.rule ≤ r)))
      (λ kept. let old = when_kept n w.len w.rule r kept in (omega (arith, same, old.0), λ at. old.1 (sym same ∙ at)))
      (λ replaced. (omega (arith, same), λ _. omega arith))

module _ (patterns : List Re) (rest : List ℕ) where
  -- what was found of a pattern
  of_pattern : (r n : ℕ) → r < length patterns → ((pattern : Re) → slice_get patterns r ≡ Some pattern → IsMatch rest pattern n)
      → IsSomeAnd (slice_get patterns r) (λ pattern. IsMatch rest pattern n)
  of_pattern r n within asks =
      let there : slice_get patterns r ≡ Some (get_or patterns r empty) = slice_get-get_or patterns r empty within in
      subst (λ o. IsSomeAnd o (λ pattern. IsMatch rest pattern n)) (sym there) (asks (get_or patterns r empty) there)

  better_real : (best : Option Winner) (r : ℕ) (found : Option ℕ) → IfSome found (λ _. r < length patterns)
      → ((pattern : Re) → slice_get patterns r ≡ Some pattern → IsMatchLen rest pattern found) → IsOfPattern patterns rest best
      → IsOfPattern patterns rest (better best r found)
  better_real best r None known asks real = real
  better_real None r (Some n) known asks real = of_pattern r n known asks
  better_real (Some w) r (Some n) known asks real =
      cond_both (keeps_first n w.len w.rule r) (Some w) (Some (record { rule = r; len = n })) (IsOfPattern patterns rest)
      (λ _. real) (λ _. of_pattern r n known asks)

  -- one pattern is compared
  pub improves_one : (best : Option Winner) (r : ℕ) (found : Option ℕ) → IfSome found (λ _. r < length patterns)
      → ((pattern : Re) → slice_get patterns r ≡ Some pattern → IsMatchLen rest pattern found)
      → Improves patterns rest (r ∷ []) best (better best r found)
  improves_one best r found known asks = record {
    real = better_real best r found known asks;
    kept = better_kept rest best r found;
    tried = λ i pattern there is. ⊎_elim
        (λ (none : Contains [] i). absurd (omega (arith, none.1)))
        (λ (same : r ≡ i).
        subst (λ k. IsCovered rest (better best r found) k pattern) same
        (better_tried rest best r found pattern (asks pattern (ap (slice_get patterns) same ∙ is))))
        (Contains-push_cases [] r i there);
  }

  -- no pattern is compared
  pub improves_none : (best : Option Winner) → Improves patterns rest [] best best
  improves_none best = record {
    real = λ real. real;
    kept = λ i pattern covered. covered;
    tried = λ i pattern there. absurd (omega (arith, there.1));
  }

  -- one more pattern is compared
  pub improves_more : (rules : List ℕ) (r : ℕ) (old mid new : Option Winner) → Improves patterns rest rules old mid
      → Improves patterns rest (r ∷ []) mid new → Improves patterns rest (rules ++ r ∷ []) old new
  improves_more rules r old mid new first second = record {
    real = λ real. second.real (first.real real);
    kept = λ i pattern covered. second.kept i pattern (first.kept i pattern covered);
    tried = λ i pattern there is. ⊎_elim
        (λ (before : Contains rules i). second.kept i pattern (first.tried i pattern before is))
        (λ (last : Contains (r ∷ []) i). second.tried i pattern last is)
        (Contains-append_cases rules (r ∷ []) i there);
  }

  the_pattern : (o : Option Re) (n : ℕ) → IsSomeAnd o (λ pattern. IsMatch rest pattern n)
      → (pattern : Re) × (o ≡ Some pattern) × IsMatch rest pattern n
  the_pattern None n has = absurd has
  the_pattern (Some pattern) n has = (pattern, refl, has)

  -- the best match wins if each pattern was compared with it
  pub wins_if_covered : (best : Option Winner) → IsOfPattern patterns rest best
      → ((i : ℕ) (pattern : Re) → slice_get patterns i ≡ Some pattern → IsCovered rest best i pattern) → IsWinner patterns rest best
  wins_if_covered None real covered = λ i d within n is. covered i (get_or patterns i d) (slice_get-get_or patterns i d within) n is
  wins_if_covered (Some w) real covered =
      let found = the_pattern (slice_get patterns w.rule) w.len real in
      record {
        pattern = found.0;
        is = found.1;
        matches = found.2;
        longest = λ i d within n is. (covered i (get_or patterns i d) (slice_get-get_or patterns i d within) n is).0;
        first = λ i d within n is.
            let len : length (take w.rule patterns) ≡ min w.rule (length patterns) = length-take w.rule patterns in
            let before : i < w.rule = omega (arith, len, within) in
            let inside : i < length patterns = omega (arith, len, within) in
            let same : get_or (take w.rule patterns) i d ≡ get_or patterns i d = get_or-take w.rule patterns i d before in
            let most = covered i (get_or patterns i d) (slice_get-get_or patterns i d inside) n (subst (λ p. IsMatch rest p n) same is) in
            ⊎_elim
            (λ (less : n < w.len). less)
            (λ (more : w.len ≤ n). absurd (omega (arith, before, most.1 (omega (arith, most.0, more)))))
            (cases_lt n w.len);
      }

-- the program of each pattern finds what the pattern finds
pub program_at : (programs : List Program) (patterns : List Re) (i : ℕ) (pattern : Re) → AllZip FindsAtStart programs patterns
    → slice_get patterns i ≡ Some pattern → (program : Program) × (slice_get programs i ≡ Some program) × FindsAtStart program pattern
program_at [] [] i pattern find is = absurd (cc)
program_at [] (p ∷ patterns) i pattern find is = absurd find
program_at (p ∷ programs) [] i pattern find is = absurd find
program_at (p ∷ programs) (q ∷ patterns) zero pattern find is = (p, refl, subst (FindsAtStart p) (same_Some q pattern is) find.0)
program_at (p ∷ programs) (q ∷ patterns) (suc i) pattern find is = program_at programs patterns i pattern find.1 is

-- what a pattern's program finds is the match of the pattern
pub match_of_program : (programs : List Program) (patterns : List Re) (rest : List ℕ) (i : ℕ) (found : Option ℕ) → AllZip FindsAtStart programs patterns
    → ((program : Program) (pattern : Re) → slice_get programs i ≡ Some program → FindsAtStart program pattern → IsMatchLen rest pattern found)
    → (pattern : Re) → slice_get patterns i ≡ Some pattern → IsMatchLen rest pattern found
match_of_program programs patterns rest i found find asks pattern at =
    let program = program_at programs patterns i pattern find at in
    asks program.0 pattern program.1 program.2

-- the program of each rule finds what its pattern finds
pub rules_find : {S : Type 0} (rules : List (LexRule S)) → AllZip FindsAtStart (map anchored_of rules) (map pattern_of rules)
rules_find [] = tt
rules_find (rule ∷ rules) = (rule.finds, rules_find rules)

-- one more search, for the next rule
pub programs_more : {A S : Type 0} (value : A → Program) (all after : List A) (one : A) (rules : List (LexRule S)) (i : ℕ) (rule : LexRule S) → i < length rules
    → rule ≡ get_or rules i rule → after ≡ all ++ one ∷ [] → value one ≡ anchored_of rule → map value all ≡ map anchored_of (take i rules)
    → map value after ≡ map anchored_of (take (i + 1) rules)
programs_more value all after one rules i rule within read put is so_far =
    ap (map value) put ∙ map-append value all (one ∷ []) ∙ ap (λ ps. ps ++ value one ∷ []) so_far
    ∙ ap (λ p. map anchored_of (take i rules) ++ p ∷ []) (is ∙ ap anchored_of read)
    ∙ sym (map-append anchored_of (take i rules) (get_or rules i rule ∷ [])) ∙ ap (map anchored_of) (sym (take_more rules i rule within))

pub programs_all : {A S : Type 0} (value : A → Program) (all : List A) (rules : List (LexRule S)) (i : ℕ) → length rules ≤ i → map value all ≡ map anchored_of (take i rules)
    → map value all ≡ map anchored_of rules
programs_all value all rules i long so_far = so_far ∙ ap (map anchored_of) (take_all i rules long)

-- what one of several searches finds is what its program finds
pub found_at : {A : Type 0} (value : A → Program) (all : List A) (i : ℕ) (one : A) (rest : List ℕ) (found : Option ℕ) → i < length all → one ≡ get_or all i one
    → ((pattern : Re) → FindsAtStart (value one) pattern → IsMatchLen rest pattern found)
    → (program : Program) (pattern : Re) → slice_get (map value all) i ≡ Some program → FindsAtStart program pattern → IsMatchLen rest pattern found
found_at value all i one rest found within read asks program pattern is finds =
    let same : value one ≡ program =
    same_Some (value one) program (sym (slice_get-map value all i ∙ ap (option_map value) (slice_get_read all (length all) i one refl within read)) ∙ is) in
    asks pattern (subst (λ (p : Program). FindsAtStart p pattern) (sym same) finds)
