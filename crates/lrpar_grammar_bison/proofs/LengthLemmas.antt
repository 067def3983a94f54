-- A piece of a text is no longer than the text.
use Rattle.std.proofs.Common.{◌≡◌, ◌≤◌, ◌+◌, ◌-◌, ◌==◌, ◌&&◌, ◌||◌, not, ℕ, Bool, true, false, cond, zero, suc, List, [], ◌∷◌, length, length-append, length-drop, drop, get_or, nat_eq, nat_lt, codes, Option, Some, None, option_map, option_and_then, ap, arith}
use Rattle.std.specs.List.{starts_with, prefix_len, position_or_len}
use Rattle.std.specs.Option.{IfSome, option_or}
use Rattle.std.proofs.lemmas.Bool.{and_parts, cond_both, eqb-true, ltb-true}
use Rattle.std.proofs.lemmas.List.Sums.{prefix_len-le-length}
use Rattle.lrpar_grammar_words.specs.Words.{begins_name, closed_len, is_byte_at, is_digit, is_in_name as is_in_word}
use Rattle.lrpar_grammar_words.proofs.FormLemmas.{starts}
use Rattle.lrpar_grammar_code.specs.declared.code.Run.{Run}
use Rattle.lrpar_grammar_code.specs.declared.code.Run.TheVariants.{BracedC, PrologueC}
use Rattle.lrpar_grammar_code.specs.Code.{c_comment_len, c_len, depth_after, end_len, end_of, is_end, is_unescaped, literal_len, more, piece_len, run_len}
use Rattle.lrpar_grammar_bison.specs.declared.words.Piece.{Piece}
use Rattle.lrpar_grammar_bison.specs.declared.words.WordKind.TheVariants.{Directive, Character, Text, Translated, Number, Tag, Code, Prologue, Predicate, Label, Colon, Bar, Semicolon, Equals, Sections}
use Rattle.lrpar_grammar_bison.specs.Words.{blank_piece, comment_after, ends_tag, is_blank, is_in_name, is_space, label_after, letters_after, name_after, name_piece, percent_after, piece_at, piece_from, predicate_after, sign_after, tag_depth, tag_len, translated_len, word_piece}

-- n more bytes, if there are any
more_within : (n most limit : ℕ) (found : Option ℕ) → n + most ≤ limit → IfSome found (λ m. m ≤ most) → IfSome (more n found) (λ m. m ≤ limit)
more_within n most limit None room within = tt
more_within n most limit (Some m) room within = omega arith

-- a sign lies in the text
starts_within : (s p : List ℕ) → starts_with nat_eq s p ≡ true → length p ≤ length s
starts_within s p is = omega (arith, ap length (starts s p is), length-append p (drop (length p) s))

-- and so does one that is after a byte
starts_next : (s p : List ℕ) → starts_with nat_eq s p ≡ true → suc (length p) ≤ suc (length s)
starts_next s p is = let most : length p ≤ length s = starts_within s p is in omega arith

-- a literal of C
literal_within : (quote : ℕ) (escaped : Bool) (s : List ℕ) → IfSome (literal_len quote escaped s) (λ m. m ≤ length s)
literal_within quote escaped [] = tt
literal_within quote escaped (c ∷ s) =
    let P : Option ℕ → Type 0 = λ r. IfSome r (λ m. m ≤ length (c ∷ s)) in
    let rest = more 1 (literal_len quote (is_unescaped escaped c 92) s) in
    cond_both (is_unescaped escaped c quote) (Some 1) (cond (is_unescaped escaped c 10) None rest) P (λ _. omega arith)
    (λ _. cond_both (is_unescaped escaped c 10) None rest P (λ _. tt)
    (λ _. more_within 1 (length s) (length (c ∷ s)) (literal_len quote (is_unescaped escaped c 92) s) (omega arith) (literal_within quote (is_unescaped escaped c 92) s)))

-- one byte before a comment
next_within : (most : ℕ) (found : Option ℕ) → IfSome found (λ m. m ≤ most) → IfSome (option_map (λ n. n + 1) found) (λ m. m ≤ suc most)
next_within most None within = tt
next_within most (Some m) within = omega arith

-- a comment that is closed
closed_within : (s : List ℕ) → IfSome (closed_len s) (λ m. m ≤ length s)
closed_within [] = tt
closed_within (c ∷ s) =
    cond_both (starts_with nat_eq (c ∷ s) (codes "*/")) (Some 2) (option_map (λ n. n + 1) (closed_len s)) (λ r. IfSome r (λ m. m ≤ length (c ∷ s)))
    (λ is. starts_within (c ∷ s) (codes "*/") is) (λ _. next_within (length s) (closed_len s) (closed_within s))

-- a comment of C
c_comment_within : (s : List ℕ) → IfSome (c_comment_len s) (λ m. m ≤ length s)
unfolding c_comment_len
c_comment_within [] = omega arith
c_comment_within (c ∷ s) =
    let P : Option ℕ → Type 0 = λ r. IfSome r (λ m. m ≤ length (c ∷ s)) in
    let line = position_or_len (λ x. x == 10) s in
    let closed = more 1 (closed_len s) in
    cond_both (c == 47) (Some (1 + line)) (cond (c == 42) closed (Some 0)) P
    (λ _. let few : line ≤ length s = prefix_len-le-length (λ x. not (x == 10)) s in omega arith)
    (λ _. cond_both (c == 42) closed (Some 0) P (λ _. more_within 1 (length s) (length (c ∷ s)) (closed_len s) (omega arith) (closed_within s)) (λ _. omega arith))

-- a piece of C code
c_within : (prologue : Bool) (c : ℕ) (s : List ℕ) → IfSome (c_len prologue c s) (λ m. m ≤ suc (length s))
unfolding c_len
c_within prologue c s =
    let P : Option ℕ → Type 0 = λ r. IfSome r (λ m. m ≤ suc (length s)) in
    let literal = more 1 (literal_len c false s) in
    let comment = more 1 (c_comment_len s) in
    let last : Option ℕ = cond (prologue && (c == 37) && starts_with nat_eq s (codes "}")) (Some 2) (Some 1) in
    cond_both ((c == 34) || (c == 39)) literal (cond (c == 47) comment last) P
    (λ _. more_within 1 (length s) (suc (length s)) (literal_len c false s) (omega arith) (literal_within c false s))
    (λ _. cond_both (c == 47) comment last P
    (λ _. more_within 1 (length s) (suc (length s)) (c_comment_len s) (omega arith) (c_comment_within s))
    (λ _. cond_both (prologue && (c == 37) && starts_with nat_eq s (codes "}")) (Some 2) (Some 1) P (λ is. starts_next s (codes "}") (and_parts (prologue && (c == 37)) (starts_with nat_eq s (codes "}")) is).1) (λ _. omega arith)))

-- one byte before a run
more_before : (end most : ℕ) (found : Option ℕ) → IfSome found (λ m. m + end ≤ most) → IfSome (more 1 found) (λ m. m + end ≤ suc most)
more_before end most None within = tt
more_before end most (Some m) within = omega arith

-- a run from a piece on
run_by : (run : Run) (depth c : ℕ) (s : List ℕ) (piece : Option ℕ) → IfSome piece (λ m. m ≤ suc (length s))
    → ((depth skip : ℕ) → IfSome (run_len run depth skip s) (λ m. m + end_len run ≤ length s))
    → IfSome (option_and_then (λ len. cond (is_end run depth c len) (Some 0) (more 1 (run_len run (depth_after run depth c) (len - 1) s))) piece) (λ m. m + end_len run ≤ suc (length s))
run_by run depth c s None most rest = tt
run_by run depth c s (Some len) most rest =
    let later = run_len run (depth_after run depth c) (len - 1) s in
    cond_both (is_end run depth c len) (Some 0) (more 1 later) (λ r. IfSome r (λ m. m + end_len run ≤ suc (length s)))
    (λ is. let same : len ≡ end_len run = eqb-true len (end_len run) (and_parts ((depth == 0) && (c == end_of run)) (len == end_len run) is).1 in omega arith)
    (λ _. more_before (end_len run) (length s) later (rest (depth_after run depth c) (len - 1)))

-- a run of code whose pieces lie in the text lies in it, with the piece that ends it
run_within : (run : Run) → ((c : ℕ) (s : List ℕ) → IfSome (piece_len run c s) (λ m. m ≤ suc (length s)))
    → (depth skip : ℕ) (s : List ℕ) → IfSome (run_len run depth skip s) (λ m. m + end_len run ≤ length s)
run_within run pieces depth skip [] = tt
run_within run pieces depth (suc skip) (c ∷ s) = more_before (end_len run) (length s) (run_len run depth skip s) (run_within run pieces depth skip s)
run_within run pieces depth zero (c ∷ s) = run_by run depth c s (piece_len run c s) (pieces c s) (λ d k. run_within run pieces d k s)

-- a tag
tag_within : (depth : ℕ) (dashed : Bool) (s : List ℕ) → IfSome (tag_len depth dashed s) (λ m. m ≤ length s)
tag_within depth dashed [] = tt
tag_within depth dashed (c ∷ s) =
    let later = tag_len (tag_depth depth dashed c) (c == 45) s in
    cond_both (ends_tag depth dashed c) (Some 1) (more 1 later) (λ r. IfSome r (λ m. m ≤ length (c ∷ s))) (λ _. omega arith)
    (λ _. more_within 1 (length s) (length (c ∷ s)) later (omega arith) (tag_within (tag_depth depth dashed c) (c == 45) s))

-- a byte of a text lies in it
byte_within : (s : List ℕ) (place byte : ℕ) → is_byte_at s place byte ≡ true → suc place ≤ length s
byte_within s place byte is = ltb-true place (length s) (and_parts (nat_lt place (length s)) (get_or s place 0 == byte) is).0

-- a piece is no longer than that
abbrev IsFew : ℕ → Option Piece → Type 0
IsFew limit found = IfSome found (λ x. x.len ≤ limit)

-- a piece that some bytes make
made_few : (piece : ℕ → Piece) (limit : ℕ) (P : ℕ → Type 0) (found : Option ℕ) → ((n : ℕ) → P n → (piece n).len ≤ limit) → IfSome found P
    → IsFew limit (option_map piece found)
made_few piece limit P None few holds = tt
made_few piece limit P (Some n) few holds = few n holds

-- a comment that isn't empty
comment_made : (most limit : ℕ) (found : Option ℕ) → suc most ≤ limit → IfSome found (λ n. n ≤ most)
    → IsFew limit (option_and_then (λ n. cond (nat_lt 0 n) (Some (blank_piece (1 + n))) None) found)
comment_made most limit None room within = tt
comment_made most limit (Some n) room within =
    cond_both (nat_lt 0 n) (Some (blank_piece (1 + n))) None (IsFew limit) (λ _. omega arith) (λ _. tt)

-- a comment
comment_few : (s : List ℕ) → IsFew (suc (length s)) (comment_after s)
unfolding comment_after
comment_few s = comment_made (length s) (suc (length s)) (c_comment_len s) (omega arith) (c_comment_within s)

-- a predicate
predicate_few : (s : List ℕ) → IsFew (suc (suc (length s))) (predicate_after s)
unfolding predicate_after
predicate_few s =
    let n = prefix_len is_space s in
    let code = drop (n + 1) s in
    cond_both (is_byte_at s n 123) (option_map (λ k. word_piece Predicate (n + k + 4)) (run_len BracedC 0 0 code)) None (IsFew (suc (suc (length s))))
    (λ is. let end : suc n ≤ length s = byte_within s n 123 is in
    made_few (λ k. word_piece Predicate (n + k + 4)) (suc (suc (length s))) (λ k. k + 1 ≤ length code) (run_len BracedC 0 0 code)
    (λ k few. omega (arith, few, end, length-drop (n + 1) s)) (run_within BracedC (c_within false) 0 0 code))
    (λ _. tt)

-- what begins with a `%`
percent_few : (s : List ℕ) → IsFew (suc (length s)) (percent_after s)
unfolding percent_after
percent_few [] = tt
percent_few (c ∷ s) =
    let P = IsFew (suc (suc (length s))) in
    let n = prefix_len is_in_name s in
    let prologue = option_map (λ n. word_piece Prologue (n + 4)) (run_len PrologueC 0 0 s) in
    let directive = cond (begins_name c) (Some (word_piece Directive (2 + n))) None in
    let predicate = cond (c == 63) (predicate_after s) directive in
    cond_both (c == 37) (Some (word_piece Sections 2)) (cond (c == 123) prologue predicate) P (λ _. omega arith)
    (λ _. cond_both (c == 123) prologue predicate P
    (λ _. made_few (λ n. word_piece Prologue (n + 4)) (suc (suc (length s))) (λ n. n + 2 ≤ length s) (run_len PrologueC 0 0 s) (λ n few. omega arith)
    (run_within PrologueC (c_within true) 0 0 s))
    (λ _. cond_both (c == 63) (predicate_after s) directive P (λ _. predicate_few s)
    (λ _. cond_both (begins_name c) (Some (word_piece Directive (2 + n))) None P
    (λ _. let few : n ≤ length s = prefix_len-le-length is_in_name s in omega arith) (λ _. tt))))

-- a label
label_few : (s : List ℕ) → IsFew (suc (length s)) (label_after s)
unfolding label_after
label_few s =
    let n = position_or_len (λ c. (c == 93) || (c == 10)) s in
    cond_both (is_byte_at s n 93) (Some (word_piece Label (n + 2))) None (IsFew (suc (length s)))
    (λ is. let end : suc n ≤ length s = byte_within s n 93 is in omega arith) (λ _. tt)

-- either piece
or_few : (limit : ℕ) (a b : Option Piece) → IsFew limit a → IsFew limit b → IsFew limit (option_or a b)
or_few limit None b first second = second
or_few limit (Some x) b first second = first

-- a literal in double quotes, up to the end of the `)` after it
translated_by : (s : List ℕ) (found : Option ℕ) → IfSome (option_and_then (λ n. cond (is_byte_at s (2 + n) 41) (Some (n + 3)) None) found) (λ n. n ≤ length s)
translated_by s None = tt
translated_by s (Some n) =
    cond_both (is_byte_at s (2 + n) 41) (Some (n + 3)) None (λ r. IfSome r (λ n. n ≤ length s)) (λ is. let end = byte_within s (2 + n) 41 is in omega arith) (λ _. tt)

-- the rest of a text that is to be translated
translated_within : (s : List ℕ) → IfSome (translated_len s) (λ n. n ≤ length s)
unfolding translated_len
translated_within s =
    let found = literal_len 34 false (drop 2 s) in
    cond_both (starts_with nat_eq s (codes "(\"")) (option_and_then (λ n. cond (is_byte_at s (2 + n) 41) (Some (n + 3)) None) found) None
    (λ r. IfSome r (λ n. n ≤ length s)) (λ _. translated_by s found) (λ _. tt)

-- a name, or a text that is to be translated
name_few : (c : ℕ) (s : List ℕ) → IsFew (suc (length s)) (name_after c s)
unfolding name_after
name_few c s =
    let P = IsFew (suc (length s)) in
    let most : prefix_len is_in_name s ≤ length s = prefix_len-le-length is_in_name s in
    let translated = option_map (λ n. word_piece Translated (1 + n)) (translated_len s) in
    let name = cond (begins_name c) (Some (name_piece s)) None in
    cond_both (c == 95) (option_or translated (Some (name_piece s))) name P
    (λ _. or_few (suc (length s)) translated (Some (name_piece s))
    (made_few (λ n. word_piece Translated (1 + n)) (suc (length s)) (λ n. n ≤ length s) (translated_len s) (λ n few. omega arith) (translated_within s)) (omega arith))
    (λ _. cond_both (begins_name c) (Some (name_piece s)) None P (λ _. omega arith) (λ _. tt))

-- what is made of letters and digits
letters_few : (c : ℕ) (s : List ℕ) → IsFew (suc (length s)) (letters_after c s)
unfolding letters_after
letters_few c s =
    let n = prefix_len is_in_word s in
    cond_both (is_digit c) (Some (word_piece Number (1 + n))) (name_after c s) (IsFew (suc (length s)))
    (λ _. let few : n ≤ length s = prefix_len-le-length is_in_word s in omega arith) (λ _. name_few c s)

-- a sign of one byte, or what is made of letters and digits
sign_few : (c : ℕ) (s : List ℕ) → IsFew (suc (length s)) (sign_after c s)
unfolding sign_after
sign_few c s =
    let P = IsFew (suc (length s)) in
    let equals = cond (c == 61) (Some (word_piece Equals 1)) (letters_after c s) in
    let semicolon = cond (c == 59) (Some (word_piece Semicolon 1)) equals in
    let bar = cond (c == 124) (Some (word_piece Bar 1)) semicolon in
    cond_both (c == 58) (Some (word_piece Colon 1)) bar P (λ _. omega arith)
    (λ _. cond_both (c == 124) (Some (word_piece Bar 1)) semicolon P (λ _. omega arith)
    (λ _. cond_both (c == 59) (Some (word_piece Semicolon 1)) equals P (λ _. omega arith)
    (λ _. cond_both (c == 61) (Some (word_piece Equals 1)) (letters_after c s) P (λ _. omega arith) (λ _. letters_few c s))))

-- the piece that begins with the byte c and goes on in s
piece_few : (c : ℕ) (s : List ℕ) → IsFew (suc (length s)) (piece_from c s)
unfolding piece_from
piece_few c s =
    let limit = suc (length s) in
    let P = IsFew limit in
    let label = cond (c == 91) (label_after s) (sign_after c s) in
    let tag = cond (c == 60) (option_map (λ n. word_piece Tag (1 + n)) (tag_len 0 false s)) label in
    let percent = cond (c == 37) (percent_after s) tag in
    let code = cond (c == 123) (option_map (λ n. word_piece Code (n + 2)) (run_len BracedC 0 0 s)) percent in
    let text = cond (c == 34) (option_map (λ n. word_piece Text (1 + n)) (literal_len 34 false s)) code in
    let character = cond (c == 39) (option_map (λ n. word_piece Character (1 + n)) (literal_len 39 false s)) text in
    let comment = cond (c == 47) (comment_after s) character in
    cond_both (is_blank c) (Some (blank_piece 1)) comment P (λ _. omega arith)
    (λ _. cond_both (c == 47) (comment_after s) character P (λ _. comment_few s)
    (λ _. cond_both (c == 39) (option_map (λ n. word_piece Character (1 + n)) (literal_len 39 false s)) text P
    (λ _. made_few (λ n. word_piece Character (1 + n)) limit (λ n. n ≤ length s) (literal_len 39 false s) (λ n few. omega arith) (literal_within 39 false s))
    (λ _. cond_both (c == 34) (option_map (λ n. word_piece Text (1 + n)) (literal_len 34 false s)) code P
    (λ _. made_few (λ n. word_piece Text (1 + n)) limit (λ n. n ≤ length s) (literal_len 34 false s) (λ n few. omega arith) (literal_within 34 false s))
    (λ _. cond_both (c == 123) (option_map (λ n. word_piece Code (n + 2)) (run_len BracedC 0 0 s)) percent P
    (λ _. made_few (λ n. word_piece Code (n + 2)) limit (λ n. n + 1 ≤ length s) (run_len BracedC 0 0 s) (λ n few. omega arith) (run_within BracedC (c_within false) 0 0 s))
    (λ _. cond_both (c == 37) (percent_after s) tag P (λ _. percent_few s)
    (λ _. cond_both (c == 60) (option_map (λ n. word_piece Tag (1 + n)) (tag_len 0 false s)) label P
    (λ _. made_few (λ n. word_piece Tag (1 + n)) limit (λ n. n ≤ length s) (tag_len 0 false s) (λ n few. omega arith) (tag_within 0 false s))
    (λ _. cond_both (c == 91) (label_after s) (sign_after c s) P (λ _. label_few s) (λ _. sign_few c s))))))))

-- the piece at the start of a text is no longer than the text
pub piece_within : (s : List ℕ) → IfSome (piece_at s) (λ x. x.len ≤ length s)
piece_within [] = tt
piece_within (c ∷ s) = piece_few c s
