-- The words of a `.y` file as bison reads it. Bytes are numbers: 10 is LF, 34 `"`, 37 `%`, 39 `'`, 41 `)`, 42 `*`, 44 `,`, 45 `-`, 47 `/`,
-- 58 `:`, 59 `;`, 60 `<`, 61 `=`, 62 `>`, 63 `?`, 91 `[`, 93 `]`, 95 `_`, 123 `{`, 124 `|`.
use Rattle.std.specs.Prelude.{◌<◌, ◌≤◌, ◌+◌, ◌-◌, ◌==◌, ◌&&◌, ◌||◌, not, ℕ, Bool, false, List, [], ◌∷◌, drop, nat_lt, nat_le, nat_eq, codes, slice_index, slice_range, Option, Some, None, option_map, if◌then◌else◌}
use Rattle.std.specs.List.{prefix_len, position_or_len, starts_with}
use Rattle.std.specs.Option.{option_and_then, option_or}
use Rattle.lrpar_grammar_places.specs.Span.{Extent}
use Rattle.lrpar_grammar_words.specs.Words.{begins_name, is_byte_at, is_digit, is_in_name as is_in_word}
use Rattle.lrpar_grammar_code.specs.Code.{c_comment_len, literal_len, more, run_len}
use Rattle.lrpar_grammar_code.specs.declared.code.Run.TheVariants.{BracedC, PrologueC}
use Rattle.lrpar_grammar_bison.specs.declared.words.Piece.{Piece}
use Rattle.lrpar_grammar_bison.specs.declared.words.Unread.{Unread}
use Rattle.lrpar_grammar_bison.specs.declared.words.Unread.TheVariants.{Byte, Comment, Character as CharacterUnread, Text as TextUnread, Code as CodeUnread, Prologue as PrologueUnread, Predicate as PredicateUnread, Tag as TagUnread, Label as LabelUnread}
use Rattle.lrpar_grammar_bison.specs.declared.words.Word.{Word}
use Rattle.lrpar_grammar_bison.specs.declared.words.WordKind.{WordKind}
use Rattle.lrpar_grammar_bison.specs.declared.words.WordKind.TheVariants.{Name, Directive, Character, Text, Translated, Number, Tag, Code, Prologue, Predicate, Label, Colon, Bar, Semicolon, Equals, Sections}

-- a space, a tab, an end of a line or of a page, or a comma
abbrev pub is_blank : ℕ → Bool
is_blank c = (nat_le 9 c && nat_le c 13) || (c == 32) || (c == 44)

-- a space, a tab, or an end of a line or of a page
abbrev pub is_space : ℕ → Bool
is_space c = (nat_le 9 c && nat_le c 13) || (c == 32)

-- a byte that a name may contain: a letter, a digit, `_`, `.` or `-`
abbrev pub is_in_name : ℕ → Bool
is_in_name c = is_in_word c || (c == 45)

-- a word of that kind, with that many bytes
abbrev pub word_piece : WordKind → ℕ → Piece
word_piece kind len = record { word = Some kind; len = len }

-- blanks of that length in bytes
abbrev pub blank_piece : ℕ → Piece
blank_piece len = record { word = None; len = len }

-- after a `/`: a comment
unfoldable pub comment_after : List ℕ → Option Piece
comment_after s = option_and_then (λ n. if nat_lt 0 n then Some (blank_piece (1 + n)) else None) (c_comment_len s)

-- the byte c closes a tag or one inside it: it is a `>`, and no `-` is before it
abbrev pub closes_tag : Bool → ℕ → Bool
closes_tag dashed c = not dashed && (c == 62)

-- the byte c ends a tag, with that many more open inside it
abbrev pub ends_tag : ℕ → Bool → ℕ → Bool
ends_tag depth dashed c = (depth == 0) && closes_tag dashed c

-- the number of tags that are open after the byte c
abbrev pub tag_depth : ℕ → Bool → ℕ → ℕ
tag_depth depth dashed c = if closes_tag dashed c then depth - 1 else (if c == 60 then depth + 1 else depth)

-- The number of bytes up to the end of the `>` that closes a tag, with that many more open inside it. `dashed`: whether a `-` is before s,
-- so that a `>` there closes nothing.
abbrev pub tag_len : ℕ → Bool → List ℕ → Option ℕ
tag_len depth dashed [] = None
tag_len depth dashed (c ∷ s) = if ends_tag depth dashed c then Some 1 else more 1 (tag_len (tag_depth depth dashed c) (c == 45) s)

-- after a `%?`: code in braces, perhaps after blanks
unfoldable pub predicate_after : List ℕ → Option Piece
predicate_after s =
    let n = prefix_len is_space s in
    if is_byte_at s n 123 then option_map (λ k. word_piece Predicate (n + k + 4)) (run_len BracedC 0 0 (drop (n + 1) s)) else None

-- after a `%`: a second one, a prologue, a predicate, or the name of a directive
unfoldable pub percent_after : List ℕ → Option Piece
percent_after [] = None
percent_after (c ∷ s) =
    if c == 37 then Some (word_piece Sections 2)
    else (if c == 123 then option_map (λ n. word_piece Prologue (n + 4)) (run_len PrologueC 0 0 s)
    else (if c == 63 then predicate_after s
    else (if begins_name c then Some (word_piece Directive (2 + prefix_len is_in_name s)) else None)))

-- after a `[`: a name that ends at a `]` of the same line
unfoldable pub label_after : List ℕ → Option Piece
label_after s =
    let n = position_or_len (λ c. (c == 93) || (c == 10)) s in
    if is_byte_at s n 93 then Some (word_piece Label (n + 2)) else None

-- after a `_`: the rest of a text that is to be translated, as in `_("text")`
unfoldable pub translated_len : List ℕ → Option ℕ
translated_len s =
    if starts_with nat_eq s (codes "(\"") then option_and_then (λ n. if is_byte_at s (2 + n) 41 then Some (n + 3) else None) (literal_len 34 false (drop 2 s))
    else None

-- the name that begins with the byte c and goes on in s, as long as it can
abbrev pub name_piece : List ℕ → Piece
name_piece s = word_piece Name (1 + prefix_len is_in_name s)

-- a name, or a text that is to be translated
unfoldable pub name_after : ℕ → List ℕ → Option Piece
name_after c s =
    if c == 95 then option_or (option_map (λ n. word_piece Translated (1 + n)) (translated_len s)) (Some (name_piece s))
    else (if begins_name c then Some (name_piece s) else None)

-- a number, a name, or a text that is to be translated
unfoldable pub letters_after : ℕ → List ℕ → Option Piece
letters_after c s = if is_digit c then Some (word_piece Number (1 + prefix_len is_in_word s)) else name_after c s

-- a sign of one byte, or what is made of letters and digits
unfoldable pub sign_after : ℕ → List ℕ → Option Piece
sign_after c s =
    if c == 58 then Some (word_piece Colon 1)
    else (if c == 124 then Some (word_piece Bar 1)
    else (if c == 59 then Some (word_piece Semicolon 1)
    else (if c == 61 then Some (word_piece Equals 1) else letters_after c s)))

-- the longest piece that begins with the byte c and goes on in s
unfoldable pub piece_from : ℕ → List ℕ → Option Piece
piece_from c s =
    if is_blank c then Some (blank_piece 1)
    else (if c == 47 then comment_after s
    else (if c == 39 then option_map (λ n. word_piece Character (1 + n)) (literal_len 39 false s)
    else (if c == 34 then option_map (λ n. word_piece Text (1 + n)) (literal_len 34 false s)
    else (if c == 123 then option_map (λ n. word_piece Code (n + 2)) (run_len BracedC 0 0 s)
    else (if c == 37 then percent_after s
    else (if c == 60 then option_map (λ n. word_piece Tag (1 + n)) (tag_len 0 false s)
    else (if c == 91 then label_after s else sign_after c s)))))))

-- the longest piece at the start of s: a word or blanks
abbrev pub piece_at : List ℕ → Option Piece
piece_at [] = None
piece_at (c ∷ s) = piece_from c s

-- what begins with the byte c and goes on in s, if that is no piece
unfoldable pub unread_from : ℕ → List ℕ → Unread
unread_from c s =
    if (c == 47) && starts_with nat_eq s (codes "*") then Comment
    else (if c == 39 then CharacterUnread
    else (if c == 34 then TextUnread
    else (if c == 123 then CodeUnread
    else (if (c == 37) && starts_with nat_eq s (codes "{") then PrologueUnread
    else (if (c == 37) && starts_with nat_eq s (codes "?") then PredicateUnread
    else (if c == 60 then TagUnread
    else (if c == 91 then LabelUnread else Byte)))))))

-- what begins at the start of s, if that is no piece
abbrev pub unread_at : List ℕ → Unread
unread_at [] = Byte
unread_at (c ∷ s) = unread_from c s

-- the number of bytes of a word before its name
abbrev pub front_len : WordKind → ℕ
front_len Directive = 1
front_len Translated = 2
front_len Tag = 1
front_len Code = 1
front_len Prologue = 2
front_len Predicate = 2
front_len Label = 1
front_len _ = 0

-- the number of bytes of a word after its name
abbrev pub back_len : WordKind → ℕ
back_len Translated = 1
back_len Tag = 1
back_len Code = 1
back_len Prologue = 2
back_len Label = 1
back_len _ = 0

-- the number of `%%` that a word is
abbrev pub marks_of : WordKind → ℕ
marks_of Sections = 1
marks_of _ = 0

-- a piece has at least one byte, and at most `limit`
pub record IsWithin (piece : Piece) (limit : ℕ) : Type 0 where
  pub some : 0 < piece.len
  pub most : piece.len ≤ limit

-- the byte of a word at which its name ends, or before which, if the word ends with it
abbrev pub last_at : WordKind → ℕ → ℕ
last_at kind len = len - (if back_len kind == 0 then 1 else back_len kind)

-- s begins with a word of that kind and length: it has room for what is around its name, which begins after an ASCII byte, or with one,
-- and ends before one, or with one
pub record IsWordPiece (s : List ℕ) (len : ℕ) (kind : WordKind) : Type 0 where
  pub room : front_len kind + back_len kind ≤ len
  pub first : slice_index s (front_len kind - 1) < 128
  pub last : slice_index s (last_at kind len) < 128

-- a word: its kind, its name, which is without what is around it, and its place, which is with it
pub record PlacedWord : Type 0 where
  pub kind : WordKind
  pub name : List ℕ
  pub span : Extent

-- a word as plain data
abbrev pub placed : Word → PlacedWord
placed w = record { kind = w.kind; name = w.name.now; span = record { start = w.end - w.len; end = w.end } }

-- the word of that kind and length at the start of s, which begins at that place of the text
abbrev pub word_at : ℕ → List ℕ → WordKind → ℕ → PlacedWord
word_at place s kind len = record {
  kind = kind;
  name = slice_range s (front_len kind) (len - back_len kind);
  span = record { start = place; end = place + len };
}
