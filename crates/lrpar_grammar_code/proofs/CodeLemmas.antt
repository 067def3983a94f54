-- Code byte by byte, and piece by piece.
use Rattle.std.proofs.Common.{◌≡◌, ◌<◌, ◌≤◌, ◌+◌, ◌-◌, ◌==◌, ℕ, Bool, true, false, cond, zero, suc, List, [], ◌∷◌, length, length-drop, drop, get_or, nat_eq, codes, Option, Some, None, option_and_then, refl, ap, sym, ◌∙◌, arith}
use Rattle.std.specs.List.{starts_with}
use Rattle.std.proofs.lemmas.List.{at_drop_more, drop-drop, drop_more}
use Rattle.lrpar_grammar_code.specs.declared.code.Run.{Run}
use Rattle.lrpar_grammar_code.specs.Code.{depth_after, ends_raw, escaped_len, is_end, is_unescaped, literal_len, more, nested_len, piece_len, raw_len, run_len}

-- no more bytes
pub more_zero : (found : Option ℕ) → more 0 found ≡ found
more_zero None = refl
more_zero (Some n) = let same : 0 + n ≡ n = omega arith in ap (λ k. Some k) same

-- more bytes, twice
pub more_more : (n m : ℕ) (found : Option ℕ) → more n (more m found) ≡ more (n + m) found
more_more n m None = refl
more_more n m (Some k) = let same : n + (m + k) ≡ (n + m) + k = omega arith in ap (λ k. Some k) same

-- if the quote doesn't end at i, its end is one byte nearer from i + 1 on
pub escaped_more : (quote : ℕ) (escaped : Bool) (text : List ℕ) (i : ℕ) → i < length text → is_unescaped escaped (get_or text i 0) quote ≡ false
    → more i (escaped_len quote escaped (drop i text)) ≡ more (i + 1) (escaped_len quote (is_unescaped escaped (get_or text i 0) 92) (drop (i + 1) text))
escaped_more quote escaped text i within unmet =
    let rest = escaped_len quote (is_unescaped escaped (get_or text i 0) 92) (drop (i + 1) text) in
    let step : escaped_len quote escaped (drop i text) ≡ more 1 rest =
    at_drop_more (escaped_len quote escaped) text i 0 within ∙ ap (λ b. cond b (Some 1) (more 1 rest)) unmet in
    ap (more i) step ∙ more_more i 1 rest

-- if the literal of C doesn't end at i, and neither does its line, its end is one byte nearer from i + 1 on
pub literal_more : (quote : ℕ) (escaped : Bool) (text : List ℕ) (i : ℕ) → i < length text → is_unescaped escaped (get_or text i 0) quote ≡ false
    → is_unescaped escaped (get_or text i 0) 10 ≡ false
    → more i (literal_len quote escaped (drop i text)) ≡ more (i + 1) (literal_len quote (is_unescaped escaped (get_or text i 0) 92) (drop (i + 1) text))
literal_more quote escaped text i within unmet goes_on =
    let rest = literal_len quote (is_unescaped escaped (get_or text i 0) 92) (drop (i + 1) text) in
    let step : literal_len quote escaped (drop i text) ≡ more 1 rest =
    at_drop_more (literal_len quote escaped) text i 0 within
    ∙ ap (λ b. cond b (Some 1) (cond (is_unescaped escaped (get_or text i 0) 10) None (more 1 rest))) unmet
    ∙ ap (λ b. cond b None (more 1 rest)) goes_on in
    ap (more i) step ∙ more_more i 1 rest

-- if the line of a literal of C ends at i, the literal has no end
pub literal_cut : (quote : ℕ) (escaped : Bool) (text : List ℕ) (i : ℕ) → i < length text → is_unescaped escaped (get_or text i 0) quote ≡ false
    → is_unescaped escaped (get_or text i 0) 10 ≡ true → literal_len quote escaped (drop i text) ≡ None
literal_cut quote escaped text i within unmet ends =
    let rest = literal_len quote (is_unescaped escaped (get_or text i 0) 92) (drop (i + 1) text) in
    at_drop_more (literal_len quote escaped) text i 0 within
    ∙ ap (λ b. cond b (Some 1) (cond (is_unescaped escaped (get_or text i 0) 10) None (more 1 rest))) unmet
    ∙ ap (λ b. cond b None (more 1 rest)) ends

-- if the raw string doesn't end at i, its end is one byte nearer from i + 1 on
pub raw_more : (hashes : ℕ) (text : List ℕ) (i : ℕ) → i < length text → ends_raw hashes (get_or text i 0) (drop (i + 1) text) ≡ false
    → more i (raw_len hashes (drop i text)) ≡ more (i + 1) (raw_len hashes (drop (i + 1) text))
raw_more hashes text i within unmet =
    let rest = raw_len hashes (drop (i + 1) text) in
    let step : raw_len hashes (drop i text) ≡ more 1 rest =
    at_drop_more (raw_len hashes) text i 0 within ∙ ap (λ b. cond b (Some (1 + hashes)) (more 1 rest)) unmet in
    ap (more i) step ∙ more_more i 1 rest

-- the end of a comment from a place on, by the tests there
nested_step : (depth : ℕ) (paired : Bool) (text : List ℕ) (i : ℕ) → i < length text
    → nested_len depth paired (drop i text)
    ≡ cond paired (more 1 (nested_len depth false (drop (i + 1) text)))
    (cond (starts_with nat_eq (drop i text) (codes "*/")) (cond (depth == 0) (Some 2) (more 1 (nested_len (depth - 1) true (drop (i + 1) text))))
    (cond (starts_with nat_eq (drop i text) (codes "/*")) (more 1 (nested_len (depth + 1) true (drop (i + 1) text))) (more 1 (nested_len depth false (drop (i + 1) text)))))
nested_step depth paired text i within =
    let rest = drop (i + 1) text in
    let here : drop i text ≡ get_or text i 0 ∷ rest = drop_more text i 0 within in
    ap (nested_len depth paired) here
    ∙ ap (λ s. cond paired (more 1 (nested_len depth false rest))
    (cond (starts_with nat_eq s (codes "*/")) (cond (depth == 0) (Some 2) (more 1 (nested_len (depth - 1) true rest)))
    (cond (starts_with nat_eq s (codes "/*")) (more 1 (nested_len (depth + 1) true rest)) (more 1 (nested_len depth false rest))))) (sym here)

-- the second byte of a pair
pub nested_paired : (depth : ℕ) (paired : Bool) (text : List ℕ) (i : ℕ) → i < length text → paired ≡ true
    → more i (nested_len depth paired (drop i text)) ≡ more (i + 1) (nested_len depth false (drop (i + 1) text))
nested_paired depth paired text i within pair =
    ap (more i) (nested_step depth paired text i within ∙ rw pair refl) ∙ more_more i 1 (nested_len depth false (drop (i + 1) text))

-- the end of a comment in a comment
pub nested_close : (depth : ℕ) (paired : Bool) (text : List ℕ) (i : ℕ) → i < length text → paired ≡ false
    → starts_with nat_eq (drop i text) (codes "*/") ≡ true → (depth == 0) ≡ false
    → more i (nested_len depth paired (drop i text)) ≡ more (i + 1) (nested_len (depth - 1) true (drop (i + 1) text))
nested_close depth paired text i within pair shuts deep =
    ap (more i) (nested_step depth paired text i within ∙ rw (pair, shuts, deep) refl) ∙ more_more i 1 (nested_len (depth - 1) true (drop (i + 1) text))

-- the start of a comment in a comment
pub nested_start : (depth : ℕ) (paired : Bool) (text : List ℕ) (i : ℕ) → i < length text → paired ≡ false
    → starts_with nat_eq (drop i text) (codes "*/") ≡ false → starts_with nat_eq (drop i text) (codes "/*") ≡ true
    → more i (nested_len depth paired (drop i text)) ≡ more (i + 1) (nested_len (depth + 1) true (drop (i + 1) text))
nested_start depth paired text i within pair shuts starts =
    ap (more i) (nested_step depth paired text i within ∙ rw (pair, shuts, starts) refl) ∙ more_more i 1 (nested_len (depth + 1) true (drop (i + 1) text))

-- any other byte of a comment
pub nested_plain : (depth : ℕ) (paired : Bool) (text : List ℕ) (i : ℕ) → i < length text → paired ≡ false
    → starts_with nat_eq (drop i text) (codes "*/") ≡ false → starts_with nat_eq (drop i text) (codes "/*") ≡ false
    → more i (nested_len depth paired (drop i text)) ≡ more (i + 1) (nested_len depth false (drop (i + 1) text))
nested_plain depth paired text i within pair shuts starts =
    ap (more i) (nested_step depth paired text i within ∙ rw (pair, shuts, starts) refl) ∙ more_more i 1 (nested_len depth false (drop (i + 1) text))

-- the bytes of a piece that begins earlier
pub run_skip : (s : List ℕ) (run : Run) (depth k : ℕ) → k ≤ length s → run_len run depth k s ≡ more k (run_len run depth 0 (drop k s))
run_skip s run depth zero few = sym (more_zero (run_len run depth 0 s))
run_skip [] run depth (suc k) few = absurd (omega arith)
run_skip (c ∷ s) run depth (suc k) few =
    let next : 1 + k ≡ suc k = omega arith in
    ap (more 1) (run_skip s run depth k (omega arith)) ∙ more_more 1 k (run_len run depth 0 (drop k s)) ∙ ap (λ n. more n (run_len run depth 0 (drop k s))) next

-- if no run ends at i, its end is nearer from the next piece on
pub run_more : (run : Run) (depth : ℕ) (text : List ℕ) (i len : ℕ) → i < length text → 0 < len → i + len ≤ length text
    → piece_len run (get_or text i 0) (drop (i + 1) text) ≡ Some len → is_end run depth (get_or text i 0) len ≡ false
    → more i (run_len run depth 0 (drop i text)) ≡ more (i + len) (run_len run (depth_after run depth (get_or text i 0)) 0 (drop (i + len) text))
run_more run depth text i len within some most piece unmet =
    let c = get_or text i 0 in
    let deeper = depth_after run depth c in
    let rest = drop (i + 1) text in
    let skipped = run_len run deeper (len - 1) rest in
    let after = run_len run deeper 0 (drop (i + len) text) in
    let by_piece : run_len run depth 0 (drop i text) ≡ cond (is_end run depth c len) (Some 0) (more 1 skipped) =
    at_drop_more (run_len run depth 0) text i 0 within
    ∙ ap (option_and_then (λ len. cond (is_end run depth c len) (Some 0) (more 1 (run_len run deeper (len - 1) rest)))) piece in
    let step : run_len run depth 0 (drop i text) ≡ more 1 skipped = by_piece ∙ ap (λ b. cond b (Some 0) (more 1 skipped)) unmet in
    let from : (i + 1) + (len - 1) ≡ i + len = omega arith in
    let skip : skipped ≡ more (len - 1) after =
    run_skip rest run deeper (len - 1) (omega (arith, length-drop (i + 1) text))
    ∙ ap (λ s. more (len - 1) (run_len run deeper 0 s)) (drop-drop (len - 1) (i + 1) text ∙ ap (λ k. drop k text) from) in
    let sum : 1 + (len - 1) ≡ len = omega arith in
    let joined : more 1 skipped ≡ more len after = ap (more 1) skip ∙ more_more 1 (len - 1) after ∙ ap (λ n. more n after) sum in
    ap (more i) (step ∙ joined) ∙ more_more i len after
