-- The words of a `.y` file up to its second `%%`, which its last part is after, and where reading is stuck.
use Rattle.std.specs.Prelude.{◌≡◌, ◌+◌, ◌-◌, ℕ, zero, suc, List, [], ◌∷◌, ◌++◌, drop, map, nat_lt, Option, Some, None, option_map, if◌then◌else◌, Vec}
use Rattle.std.specs.Option.{option_map_or, option_to_list}
use Rattle.lrpar_grammar_bison.specs.declared.words.Piece.{Piece}
use Rattle.lrpar_grammar_bison.specs.declared.words.Word.{Word}
use Rattle.lrpar_grammar_bison.specs.declared.words.WordKind.{WordKind}
use Rattle.lrpar_grammar_bison.specs.declared.word_list.WordsFault.{WordsFault}
use Rattle.lrpar_grammar_bison.specs.declared.word_list.WordsFault.TheVariants.{Unread as UnreadFault, Memory}
use Rattle.lrpar_grammar_bison.specs.Words.{PlacedWord, marks_of, piece_at, placed, unread_at, word_at}

-- words, and the place after them at which no piece begins, if there is one
pub record Reading : Type 0 where
  pub words : List PlacedWord
  pub stuck : Option ℕ

-- nothing is left to read
abbrev pub all_read : Reading
all_read = record { words = []; stuck = None }

-- no piece begins at the place
abbrev pub stuck_at : ℕ → Reading
stuck_at place = record { words = []; stuck = Some place }

-- some words, and then what is read
abbrev pub with_words : List PlacedWord → Reading → Reading
with_words words r = record { words = words ++ r.words; stuck = r.stuck }

-- the word of a piece at the start of s, which begins at that place of the text; nothing, if it is blanks
abbrev pub word_of : ℕ → List ℕ → Piece → List PlacedWord
word_of place s x = option_to_list (option_map (λ kind. word_at place s kind x.len) x.word)

-- the number of `%%` that a piece is
abbrev pub marks : Option WordKind → ℕ
marks word = option_map_or marks_of word 0

-- What is read from s on, which is at that place of the text, after that many `%%`. `skip`: how many bytes of s belong to a piece that
-- begins before it.
abbrev pub read_from : ℕ → ℕ → ℕ → List ℕ → Reading
read_from place sections skip [] = all_read
read_from place sections (suc skip) (c ∷ s) = read_from (place + 1) sections skip s
read_from place sections zero (c ∷ s) =
    if nat_lt sections 2 then option_map_or (λ x. with_words (word_of place (c ∷ s) x) (read_from (place + 1) (sections + marks x.word) (x.len - 1) s)) (piece_at (c ∷ s)) (stuck_at place)
    else all_read

-- what is read of a text
abbrev pub read : List ℕ → Reading
read text = read_from 0 0 0 text

-- all words up to the second `%%` can be read, and these are they
abbrev pub AreWordsOf : {A : Type 0} → List ℕ → Vec Word A → Type 0
AreWordsOf text words = read text ≡ record { words = map placed words.items; stuck = None }

-- reading is stuck at that place, and that is what begins there; or an allocation failed
abbrev pub IsWordsFault : List ℕ → WordsFault → Type 0
IsWordsFault text (UnreadFault place what) = ((read text).stuck ≡ Some place) × (what ≡ unread_at (drop place text))
IsWordsFault text Memory = Unit {0}
