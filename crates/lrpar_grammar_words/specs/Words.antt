-- The words of a grammar text. Bytes are numbers: 37 is `%`, 39 `'`, 34 `"`, 47 `/`, 42 `*`, 58 `:`, 59 `;`, 124 `|`.
use Rattle.std.specs.Prelude.{◌≡◌, ◌<◌, ◌≤◌, ◌+◌, ◌-◌, ◌*◌, slice_index, length, ◌==◌, ◌&&◌, ◌||◌, ℕ, Bool, List, [], ◌∷◌, ◌++◌, drop, nat_lt, nat_le, nat_eq, codes, slice_range, Option, Some, None, option_map, if◌then◌else◌}
use Rattle.std.specs.List.{prefix_len, position_or_len, starts_with}
use Rattle.std.specs.Option.{option_to_list}
use Rattle.lrpar_grammar_words.specs.declared.words.WordKind.{WordKind}
use Rattle.lrpar_grammar_words.specs.declared.words.WordKind.TheVariants.{Name, Quoted, StartSign, TokenSign, EppSign, RulesSign, Colon, Bar, Semicolon}
use Rattle.lrpar_grammar_words.specs.declared.words.Piece.{Piece}
use Rattle.lrpar_grammar_words.specs.declared.words.Word.{Word}
use Rattle.lrpar_grammar_places.specs.Span.{Extent}

-- space, tab, CR and LF
abbrev pub is_white : ℕ → Bool
is_white c = (c == 32) || (c == 9) || (c == 13) || (c == 10)

-- a digit
abbrev pub is_digit : ℕ → Bool
is_digit c = nat_le 48 c && nat_le c 57

-- an ASCII letter, `_` or `.`, with which a name begins
abbrev pub begins_name : ℕ → Bool
begins_name c = (nat_le 97 c && nat_le c 122) || (nat_le 65 c && nat_le c 90) || (c == 95) || (c == 46)

-- a byte that a name may contain
abbrev pub is_in_name : ℕ → Bool
is_in_name c = begins_name c || is_digit c

-- s has the byte c at that place
abbrev pub is_byte_at : List ℕ → ℕ → ℕ → Bool
is_byte_at s place c = nat_lt place (length s) && (slice_index s place == c)

-- a word of that kind, with that many bytes
abbrev pub word_piece : WordKind → ℕ → Piece
word_piece kind len = record { word = Some kind; len = len }

-- blanks of that length in bytes
abbrev pub blank_piece : ℕ → Piece
blank_piece len = record { word = None; len = len }

-- the number of bytes up to the end of the first `*/`
abbrev pub closed_len : List ℕ → Option ℕ
closed_len [] = None
closed_len (c ∷ s) = if starts_with nat_eq (c ∷ s) (codes "*/") then Some 2 else option_map (λ n. n + 1) (closed_len s)

-- after a `/`: a comment to the end of the line, or one to the first `*/`
unfoldable pub comment_after : List ℕ → Option Piece
comment_after [] = None
comment_after (c ∷ s) =
    if c == 47 then Some (blank_piece (2 + position_or_len (λ x. x == 10) s))
    else (if c == 42 then option_map (λ n. blank_piece (2 + n)) (closed_len s) else None)

-- after a quote: one or more bytes other than it and LF, and the quote again
unfoldable pub quoted_after : ℕ → List ℕ → Option Piece
quoted_after quote s =
    let n = position_or_len (λ c. (c == quote) || (c == 10)) s in
    if nat_lt 0 n && is_byte_at s n quote then Some (word_piece Quoted (n + 2)) else None

-- after a `%`: the rest of a sign
unfoldable pub sign_after : List ℕ → Option Piece
sign_after s =
    if starts_with nat_eq s (codes "start") then Some (word_piece StartSign 6)
    else (if starts_with nat_eq s (codes "token") then Some (word_piece TokenSign 6)
    else (if starts_with nat_eq s (codes "epp") then Some (word_piece EppSign 4)
    else (if starts_with nat_eq s (codes "%") then Some (word_piece RulesSign 2) else None)))

-- the name that begins with the byte c and goes on in s, as long as it can
unfoldable pub name_after : ℕ → List ℕ → Option Piece
name_after c s = if begins_name c then Some (word_piece Name (1 + prefix_len is_in_name s)) else None

-- the longest piece that begins with the byte c and goes on in s
unfoldable pub piece_from : ℕ → List ℕ → Option Piece
piece_from c s =
    if is_white c then Some (blank_piece 1)
    else (if c == 47 then comment_after s
    else (if (c == 39) || (c == 34) then quoted_after c s
    else (if c == 37 then sign_after s
    else (if c == 58 then Some (word_piece Colon 1)
    else (if c == 124 then Some (word_piece Bar 1)
    else (if c == 59 then Some (word_piece Semicolon 1) else name_after c s))))))

-- the longest piece at the start of s: a word or blanks
abbrev pub piece_at : List ℕ → Option Piece
piece_at [] = None
piece_at (c ∷ s) = piece_from c s

-- a piece has at least one byte, and at most `limit`
pub record IsWithin (piece : Piece) (limit : ℕ) : Type 0 where
  pub some : 0 < piece.len
  pub most : piece.len ≤ limit

-- the length in bytes of the quote at each end of a word
abbrev pub quote_len : WordKind → ℕ
quote_len Quoted = 1
quote_len _ = 0

-- s begins with a word of that kind and length: it has room for its quotes, and its first and last byte are ASCII
pub record IsWordPiece (s : List ℕ) (len : ℕ) (kind : WordKind) : Type 0 where
  pub room : 2 * quote_len kind ≤ len
  pub first : slice_index s 0 < 128
  pub last : slice_index s (len - 1) < 128

-- a word: its kind, its bytes and its place, both without quotes
pub record PlacedWord : Type 0 where
  pub kind : WordKind
  pub name : List ℕ
  pub span : Extent

-- a word as plain data
abbrev pub placed : Word → PlacedWord
placed w = record { kind = w.kind; name = w.name.now; span = record { start = w.end - w.len; end = w.end } }

-- the word of that kind and length at the start of s, which begins at that place of the text
abbrev pub word_at : ℕ → List ℕ → WordKind → ℕ → PlacedWord
word_at place s kind len =
    let quote = quote_len kind in
    record {
      kind = kind;
      name = slice_range s quote (len - quote);
      span = record { start = place + quote; end = place + (len - quote) };
    }

-- s is cut into these pieces, each the longest one at its place
abbrev pub IsCutInto : List ℕ → List Piece → Type 0
IsCutInto s [] = s ≡ []
IsCutInto s (x ∷ xs) = (piece_at s ≡ Some x) × IsCutInto (drop x.len s) xs

-- the first n bytes of s are cut into these pieces, each the longest one at its place
abbrev pub IsCutUpTo : List ℕ → ℕ → List Piece → Type 0
IsCutUpTo s n [] = n ≡ 0
IsCutUpTo s n (x ∷ xs) = (piece_at s ≡ Some x) × (x.len ≤ n) × IsCutUpTo (drop x.len s) (n - x.len) xs

-- the words among the pieces of s, which begins at that place of the text
abbrev pub words_of : ℕ → List ℕ → List Piece → List PlacedWord
words_of place s [] = []
words_of place s (x ∷ xs) =
    option_to_list (option_map (λ kind. word_at place s kind x.len) x.word) ++ words_of (place + x.len) (drop x.len s) xs

-- the text reads as these words: it is cut into pieces, and these are the words among them
pub record ReadsAs (text : List ℕ) (words : List PlacedWord) : Type 0 where
  pub pieces : List Piece
  pub cut : IsCutInto text pieces
  pub listed : words ≡ words_of 0 text pieces

-- a text reads as at most one list of words
abbrev pub ReadsAsOne : Type 0
ReadsAsOne = (text : List ℕ) (xs ys : List PlacedWord) → ReadsAs text xs → ReadsAs text ys → xs ≡ ys
