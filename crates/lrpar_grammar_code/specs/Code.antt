-- Rust code and C code, by their bytes: their pieces, and where braces, types and prologues end. Bytes are numbers: 34 is `"`, 35 `#`,
-- 37 `%`, 39 `'`, 42 `*`, 45 `-`, 47 `/`, 58 `:`, 92 a backslash, 125 `}`.
use Rattle.std.specs.Prelude.{◌+◌, ◌-◌, ◌==◌, ◌&&◌, ◌||◌, not, ℕ, zero, suc, Bool, true, false, List, [], ◌∷◌, drop, take, nat_lt, nat_le, nat_eq, bytes_eq, codes, Option, Some, None, option_map, if◌then◌else◌}
use Rattle.std.specs.List.{prefix_len, position_or_len, starts_with}
use Rattle.std.specs.Option.{option_and_then}
use Rattle.lrpar_grammar_words.specs.Words.{closed_len, is_byte_at}
use Rattle.lrpar_grammar_code.specs.declared.code.Run.{Run}
use Rattle.lrpar_grammar_code.specs.declared.code.Run.TheVariants.{Braced, Typed, BracedC, PrologueC}

-- a number of bytes, with n more; none if there is none
abbrev pub more : ℕ → Option ℕ → Option ℕ
more n found = option_map (λ m. n + m) found

-- a letter, a digit, `_`, or a byte of a character that isn't ASCII
abbrev pub is_in_word : ℕ → Bool
is_in_word c = (nat_le 97 c && nat_le c 122) || (nat_le 65 c && nat_le c 90) || (nat_le 48 c && nat_le c 57) || (c == 95) || nat_le 128 c

-- the number of `#` with which s begins
abbrev pub hashes_len : List ℕ → ℕ
hashes_len s = prefix_len (λ c. c == 35) s

-- the byte c is the byte `one`, and isn't escaped
abbrev pub is_unescaped : Bool → ℕ → ℕ → Bool
is_unescaped escaped c one = not escaped && (c == one)

-- the byte c is a `"` with that many `#` after it
abbrev pub ends_raw : ℕ → ℕ → List ℕ → Bool
ends_raw hashes c s = (c == 34) && nat_le hashes (hashes_len s)

-- The number of bytes up to the end of the first quote that no backslash escapes. `escaped`: whether one before s escapes its
-- first byte.
abbrev pub escaped_len : ℕ → Bool → List ℕ → Option ℕ
escaped_len quote escaped [] = None
escaped_len quote escaped (c ∷ s) =
    if is_unescaped escaped c quote then Some 1 else more 1 (escaped_len quote (is_unescaped escaped c 92) s)

-- the number of bytes up to the end of the first `"` with that many `#` after it
abbrev pub raw_len : ℕ → List ℕ → Option ℕ
raw_len hashes [] = None
raw_len hashes (c ∷ s) = if ends_raw hashes c s then Some (1 + hashes) else more 1 (raw_len hashes s)

-- The number of bytes up to the end of the `*/` that closes a comment, with that many more open inside it. `paired`: whether the
-- first byte of s belongs to a `/*` or `*/` that begins before it.
abbrev pub nested_len : ℕ → Bool → List ℕ → Option ℕ
nested_len depth paired [] = None
nested_len depth paired (c ∷ s) =
    if paired then more 1 (nested_len depth false s)
    else (if starts_with nat_eq (c ∷ s) (codes "*/") then (if depth == 0 then Some 2 else more 1 (nested_len (depth - 1) true s))
    else (if starts_with nat_eq (c ∷ s) (codes "/*") then more 1 (nested_len (depth + 1) true s)
    else more 1 (nested_len depth false s)))

-- the number of bytes of the character that begins with the byte c
abbrev pub char_width : ℕ → ℕ
char_width c = if nat_lt c 128 then 1 else (if nat_lt c 224 then 2 else (if nat_lt c 240 then 3 else 4))

-- after a `'`: the rest of a character, or nothing, if a lifetime begins there
unfoldable pub char_len : List ℕ → Option ℕ
char_len [] = Some 0
char_len (c ∷ s) =
    if c == 92 then escaped_len 39 false (c ∷ s)
    else (if not (c == 39) && is_byte_at (c ∷ s) (char_width c) 39 then Some (char_width c + 1) else Some 0)

-- after a `/`: the rest of a comment, or nothing
unfoldable pub comment_len : List ℕ → Option ℕ
comment_len [] = Some 0
comment_len (c ∷ s) =
    if c == 47 then Some (1 + position_or_len (λ x. x == 10) s)
    else (if c == 42 then more 1 (nested_len 0 false s) else Some 0)

-- `r`, `br` or `cr`
abbrev pub begins_raw : List ℕ → Bool
begins_raw name = bytes_eq name (codes "r") || bytes_eq name (codes "br") || bytes_eq name (codes "cr")

-- the name or number that begins with the byte c and goes on in s; with the raw string after it, if there is one
unfoldable pub word_len : ℕ → List ℕ → Option ℕ
word_len c s =
    let len = prefix_len is_in_word s in
    let rest = drop len s in
    let hashes = hashes_len rest in
    if begins_raw (c ∷ take len s) && is_byte_at rest hashes 34 then more (1 + len + hashes + 1) (raw_len hashes (drop (hashes + 1) rest)) else Some (1 + len)

-- the piece of Rust code that begins with the byte c and goes on in s: a literal, a comment, a name, `::`, `->` or one byte
unfoldable pub rust_len : ℕ → List ℕ → Option ℕ
rust_len c s =
    if c == 34 then more 1 (escaped_len 34 false s)
    else (if c == 39 then more 1 (char_len s)
    else (if c == 47 then more 1 (comment_len s)
    else (if (c == 58) && starts_with nat_eq s (codes ":") then Some 2
    else (if (c == 45) && starts_with nat_eq s (codes ">") then Some 2
    else (if is_in_word c then word_len c s else Some 1)))))

-- In C, the number of bytes up to the end of the first quote that no backslash escapes: none if the line ends before it, by an LF that
-- isn't escaped. `escaped`: whether a backslash before s escapes its first byte.
abbrev pub literal_len : ℕ → Bool → List ℕ → Option ℕ
literal_len quote escaped [] = None
literal_len quote escaped (c ∷ s) =
    if is_unescaped escaped c quote then Some 1
    else (if is_unescaped escaped c 10 then None else more 1 (literal_len quote (is_unescaped escaped c 92) s))

-- in C, after a `/`: the rest of a comment, which ends at the first `*/`, or nothing
unfoldable pub c_comment_len : List ℕ → Option ℕ
c_comment_len [] = Some 0
c_comment_len (c ∷ s) =
    if c == 47 then Some (1 + position_or_len (λ x. x == 10) s)
    else (if c == 42 then more 1 (closed_len s) else Some 0)

-- the piece of C code that begins with the byte c and goes on in s: a literal, a comment or one byte; `%}` is one, if it ends the run
unfoldable pub c_len : Bool → ℕ → List ℕ → Option ℕ
c_len prologue c s =
    if (c == 34) || (c == 39) then more 1 (literal_len c false s)
    else (if c == 47 then more 1 (c_comment_len s)
    else (if prologue && (c == 37) && starts_with nat_eq s (codes "}") then Some 2 else Some 1))

-- the piece of a run that begins with the byte c and goes on in s
abbrev pub piece_len : Run → ℕ → List ℕ → Option ℕ
piece_len Braced c s = rust_len c s
piece_len Typed c s = rust_len c s
piece_len BracedC c s = c_len false c s
piece_len PrologueC c s = c_len true c s

-- the bytes that open brackets, which have to be closed in a run
abbrev pub opens : Run → ℕ → Bool
opens Braced c = c == 123
opens BracedC c = c == 123
opens PrologueC c = false
opens Typed c = (c == 40) || (c == 91) || (c == 123) || (c == 60)

-- the bytes that close brackets in a run
abbrev pub closes : Run → ℕ → Bool
closes Braced c = c == 125
closes BracedC c = c == 125
closes PrologueC c = false
closes Typed c = (c == 41) || (c == 93) || (c == 125) || (c == 62)

-- the first byte of the piece that ends a run, outside all brackets
abbrev pub end_of : Run → ℕ
end_of Braced = 125
end_of Typed = 58
end_of BracedC = 125
end_of PrologueC = 37

-- the length of the piece that ends a run
abbrev pub end_len : Run → ℕ
end_len PrologueC = 2
end_len _ = 1

-- whether the piece of that length with the first byte c ends a run, if so many brackets are open
abbrev pub is_end : Run → ℕ → ℕ → ℕ → Bool
is_end run depth c len = (depth == 0) && (c == end_of run) && (len == end_len run)

-- the number of open brackets after a piece that begins with the byte c
abbrev pub depth_after : Run → ℕ → ℕ → ℕ
depth_after run depth c = if opens run c then depth + 1 else (if closes run c then depth - 1 else depth)

-- The number of bytes of code before the piece that ends the run: outside all brackets, `}` if the run is in braces, `:` if it is a
-- type, `%}` if it is a prologue. `depth`: the number of open brackets. `skip`: how many bytes of s belong to a piece that begins before it.
abbrev pub run_len : Run → ℕ → ℕ → List ℕ → Option ℕ
run_len run depth skip [] = None
run_len run depth (suc skip) (c ∷ s) = more 1 (run_len run depth skip s)
run_len run depth zero (c ∷ s) =
    option_and_then (λ len. if is_end run depth c len then Some 0 else more 1 (run_len run (depth_after run depth c) (len - 1) s)) (piece_len run c s)
