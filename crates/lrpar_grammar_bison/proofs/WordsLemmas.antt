-- Where the name of a word begins and ends, between two characters.
use Rattle.std.proofs.Common.{◌≡◌, ◌<◌, ◌≤◌, ◌+◌, ◌-◌, ◌==◌, ℕ, true, false, Bool, cond, inl, inr, subst, get_or, List, length, drop, Some, ap, ◌∙◌, arith}
use Rattle.std.specs.Str.{IsCharBoundary, IsUtf8}
use Rattle.std.proofs.lemmas.Bool.{cases_lt}
use Rattle.std.proofs.lemmas.Bool.Decides.{nat_tests}
use Rattle.std.proofs.lemmas.List.{at_drop_more, get_or-drop}
use Rattle.std.proofs.lemmas.Str.{IsCharBoundary-after_ascii, IsCharBoundary-before_ascii}
use Rattle.lrpar_grammar_code.specs.Code.{more}
use Rattle.lrpar_grammar_code.proofs.CodeLemmas.{more_more}
use Rattle.lrpar_grammar_bison.specs.Words.{ends_tag, tag_depth, tag_len}

-- a text may be cut after an ASCII byte; and before its first one, if that is ASCII
pub cut_after : (text : List ℕ) (place front : ℕ) → IsUtf8 text → place < length text → place + front ≤ length text
    → get_or (drop place text) (front - 1) 0 < 128 → IsCharBoundary text (place + front)
cut_after text place front utf8 some within ascii =
    let is : get_or (drop place text) (front - 1) 0 ≡ get_or text (place + (front - 1)) 0 = get_or-drop place text (front - 1) 0 in
    let here : get_or text (place + (front - 1)) 0 < 128 = omega arith in
    elim (cases_lt 0 front) [
      | inl more ↦ let same : (place + (front - 1)) + 1 ≡ place + front = omega arith in
          subst (IsCharBoundary text) same (IsCharBoundary-after_ascii text (place + (front - 1)) utf8 (omega arith) here)
      | inr none ↦ let same : place + (front - 1) ≡ place + front = omega arith in
          subst (IsCharBoundary text) same (IsCharBoundary-before_ascii text (place + (front - 1)) (omega arith) here)
    ]

-- the number of bytes from the last ASCII byte that a name ends at on
back_is : (back : ℕ) → 0 < back → cond (back == 0) 1 back ≡ back
back_is back some = let no : (back == 0) ≡ false = grind (arith, nat_tests) in ap (λ b. cond b 1 back) no

-- one, if no byte comes after a name
back_none : (back : ℕ) → back ≤ 0 → cond (back == 0) 1 back ≡ 1
back_none back none = let yes : (back == 0) ≡ true = grind (arith, nat_tests) in ap (λ b. cond b 1 back) yes

-- a text may be cut before an ASCII byte; and after its last one, if that is ASCII
pub cut_before : (text : List ℕ) (place len back : ℕ) → IsUtf8 text → place + len ≤ length text → 0 < len → back ≤ len
    → get_or (drop place text) (len - cond (back == 0) 1 back) 0 < 128 → IsCharBoundary text (place + (len - back))
cut_before text place len back utf8 within some room ascii =
    elim (cases_lt 0 back) [
      | inl more ↦
          let same : get_or (drop place text) (len - cond (back == 0) 1 back) 0 ≡ get_or (drop place text) (len - back) 0 = ap (λ k. get_or (drop place text) (len - k) 0) (back_is back more) in
          let is : get_or (drop place text) (len - back) 0 ≡ get_or text (place + (len - back)) 0 = get_or-drop place text (len - back) 0 in
          IsCharBoundary-before_ascii text (place + (len - back)) (omega arith) (omega arith)
      | inr none ↦
          let same : get_or (drop place text) (len - cond (back == 0) 1 back) 0 ≡ get_or (drop place text) (len - 1) 0 = ap (λ k. get_or (drop place text) (len - k) 0) (back_none back none) in
          let is : get_or (drop place text) (len - 1) 0 ≡ get_or text (place + (len - 1)) 0 = get_or-drop place text (len - 1) 0 in
          let end : (place + (len - 1)) + 1 ≡ place + (len - back) = omega arith in
          subst (IsCharBoundary text) end (IsCharBoundary-after_ascii text (place + (len - 1)) utf8 (omega arith) (omega arith))
    ]

-- if a tag doesn't end at i, its end is one byte nearer from i + 1 on
pub tag_more : (text : List ℕ) (depth : ℕ) (dashed : Bool) (i : ℕ) → i < length text → ends_tag depth dashed (get_or text i 0) ≡ false
    → more i (tag_len depth dashed (drop i text)) ≡ more (i + 1) (tag_len (tag_depth depth dashed (get_or text i 0)) (get_or text i 0 == 45) (drop (i + 1) text))
tag_more text depth dashed i within unmet =
    let rest = tag_len (tag_depth depth dashed (get_or text i 0)) (get_or text i 0 == 45) (drop (i + 1) text) in
    let step : tag_len depth dashed (drop i text) ≡ more 1 rest =
    at_drop_more (tag_len depth dashed) text i 0 within ∙ ap (λ b. cond b (Some 1) (more 1 rest)) unmet in
    ap (more i) step ∙ more_more i 1 rest

-- if a tag ends at i, that is its last byte
pub tag_here : (text : List ℕ) (depth : ℕ) (dashed : Bool) (i : ℕ) → i < length text → ends_tag depth dashed (get_or text i 0) ≡ true
    → more i (tag_len depth dashed (drop i text)) ≡ Some (i + 1)
tag_here text depth dashed i within met =
    let rest = tag_len (tag_depth depth dashed (get_or text i 0)) (get_or text i 0 == 45) (drop (i + 1) text) in
    ap (more i) (at_drop_more (tag_len depth dashed) text i 0 within ∙ ap (λ b. cond b (Some 1) (more 1 rest)) met)
