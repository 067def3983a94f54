-- Symbols of a `.y` file that may be spelled in several ways. Bytes are numbers: 34 is `"`, 39 `'`, 48 `0`, 55 `7`, 63 `?`, 85 `U`, 92 `\`,
-- 117 `u`, 120 `x`.
use Rattle.std.specs.Prelude.{◌≡◌, ◌-◌, ◌==◌, ◌&&◌, ◌||◌, ◌∷◌, ◌++◌, [], Bool, ℕ, List, Option, None, Some, bytes_eq, codes, length, map, nat_le, nat_lt, option_map, slice_range, Vec, if◌then◌else◌}
use Rattle.std.specs.List.{find}
use Rattle.std.specs.Borrow.{Bor}
use Rattle.std.specs.Option.{option_and_then, option_map_or}
use Rattle.lrpar_grammar_bison.specs.declared.words.Word.{Word}
use Rattle.lrpar_grammar_bison.specs.declared.words.WordKind.{WordKind}
use Rattle.lrpar_grammar_bison.specs.declared.words.WordKind.TheVariants.{Character, Name}
use Rattle.lrpar_grammar_bison.specs.Words.{PlacedWord, placed}
use Rattle.lrpar_grammar_bison.specs.declared.spellings.Spelling.{Spelling}
use Rattle.lrpar_grammar_bison.specs.Numbers.{number_of_digits}

-- a number that isn't 0
abbrev pub not_zero : ℕ → Option ℕ
not_zero n = if n == 0 then None else Some n

-- the byte with these digits, which isn't 0
abbrev pub byte_of : ℕ → List ℕ → Option ℕ
byte_of base digits = option_and_then not_zero (number_of_digits base 256 digits)

-- a digit of octal numbers
abbrev pub is_octal : ℕ → Bool
is_octal c = nat_le 48 c && nat_le c 55

-- the character that a backslash and the byte c are
abbrev pub letter_escape : ℕ → Option ℕ
letter_escape c =
    if c == 97 then Some 7
    else (if c == 98 then Some 8
    else (if c == 116 then Some 9
    else (if c == 110 then Some 10
    else (if c == 118 then Some 11
    else (if c == 102 then Some 12
    else (if c == 114 then Some 13 else (if (c == 34) || (c == 39) || (c == 63) || (c == 92) then Some c else None)))))))

-- an `x`, or a `u` and four digits, or a `U` and eight, are before a hexadecimal number
abbrev pub is_hexadecimal : ℕ → ℕ → Bool
is_hexadecimal c len = (c == 120) || ((c == 117) && (len == 4)) || ((c == 85) && (len == 8))

-- the character of an escape, after its backslash: one to three octal digits, hexadecimal ones, or a letter or sign
abbrev pub escaped : List ℕ → Option ℕ
escaped [] = None
escaped (c ∷ s) =
    if is_octal c && nat_lt (length s) 3 then byte_of 8 (c ∷ s)
    else (if is_hexadecimal c (length s) then byte_of 16 s else (if length s == 0 then letter_escape c else None))

-- the one character of a literal, which is without its quotes
abbrev pub one_character : List ℕ → Option ℕ
one_character [] = None
one_character (c ∷ s) = if c == 92 then escaped s else (if length s == 0 then Some c else None)

-- the character of a literal, which has its quotes
abbrev pub character_of : List ℕ → Option ℕ
character_of s = if nat_lt 1 (length s) then one_character (slice_range s 1 (length s - 1)) else None

-- the character of a word of that kind with that name
abbrev pub character_by : WordKind → List ℕ → Option ℕ
character_by Character name = character_of name
character_by _ name = None

-- the character that a word is, if it is a literal of one
abbrev pub character_in : PlacedWord → Option ℕ
character_in w = character_by w.kind w.name

-- a character, and how it is spelled
pub record CharacterName : Type 0 where
  pub character : ℕ
  pub name : List ℕ

-- how a character is spelled, if it is among these
abbrev pub spelling_in : List CharacterName → ℕ → Option (List ℕ)
spelling_in spellings c = option_map (λ (x : CharacterName). x.name) (find (λ (x : CharacterName). x.character == c) spellings)

-- with a character that has no spelling yet
abbrev pub with_character : List CharacterName → List ℕ → ℕ → List CharacterName
with_character spellings name c =
    option_map_or (λ (spelled : List ℕ). spellings) (spelling_in spellings c) (spellings ++ record { character = c; name = name } ∷ [])

-- with one more word, if it is a literal of a character that has no spelling yet
abbrev pub with_word : List CharacterName → PlacedWord → List CharacterName
with_word spellings w = option_map_or (with_character spellings w.name) (character_in w) spellings

-- with some more words
abbrev pub with_words : List CharacterName → List PlacedWord → List CharacterName
with_words spellings [] = spellings
with_words spellings (w ∷ ws) = with_words (with_word spellings w) ws

-- how each character is spelled that is among the words: as its first literal
abbrev pub spellings_of : List PlacedWord → List CharacterName
spellings_of words = with_words [] words

-- the name of a word that is no literal of a character: `YYerror` is `error`
abbrev pub name_by : WordKind → List ℕ → List ℕ
name_by Name name = if bytes_eq name (codes "YYerror") then codes "error" else name
name_by _ name = name

-- the name of a word that is no literal of a character
abbrev pub plain_name : PlacedWord → List ℕ
plain_name w = name_by w.kind w.name

-- the one name of the symbol that a word is
abbrev pub name_of : List CharacterName → PlacedWord → List ℕ
name_of spellings w = option_map_or (λ (c : ℕ). option_map_or (λ (x : List ℕ). x) (spelling_in spellings c) w.name) (character_in w) (plain_name w)

-- the word with the one name of its symbol
abbrev pub respelled : List CharacterName → PlacedWord → PlacedWord
respelled spellings w = record w { name = name_of spellings w }

-- the words with one name for each symbol: a literal is spelled as the first one of its character is, and `YYerror` is `error`
abbrev pub all_respelled : List PlacedWord → List PlacedWord
all_respelled words = map (respelled (spellings_of words)) words

-- a character and its spelling as plain data
abbrev pub spelling_of : Spelling → CharacterName
spelling_of x = record { character = x.character; name = x.name.now }

-- these are the words with one name for each symbol
abbrev pub AreRespelled : {A : Type 0} → List Word → Vec Word A → Type 0
AreRespelled words others = map placed others.items ≡ all_respelled (map placed words)

-- this is the spelling of the character, if it is among these
abbrev pub HasSpelling : List Spelling → ℕ → Option (Bor (List ℕ)) → Type 0
HasSpelling spellings c result = option_map (λ (x : Bor (List ℕ)). x.now) result ≡ spelling_in (map spelling_of spellings) c

-- this is the one name of the symbol that a word is
abbrev pub IsNameOf : List Spelling → Word → Bor (List ℕ) → Type 0
IsNameOf spellings word result = result.now ≡ name_of (map spelling_of spellings) (placed word)
