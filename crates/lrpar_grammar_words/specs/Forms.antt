-- What the words and blanks of a grammar text are, by their bytes alone. How they are found isn't said here.
use Rattle.std.specs.Prelude.{◌≡◌, ◌≢◌, ◌↔◌, ◌<◌, ◌≤◌, ◌⊎◌, true, ℕ, List, [], ◌∷◌, ◌++◌, All, codes, drop, length, take, Option, Some, None}
use Rattle.lrpar_grammar_words.specs.declared.words.WordKind.{WordKind}
use Rattle.lrpar_grammar_words.specs.declared.words.WordKind.TheVariants.{Name, Quoted, StartSign, TokenSign, EppSign, RulesSign, Colon, Bar, Semicolon}
use Rattle.lrpar_grammar_words.specs.declared.words.Piece.{Piece}
use Rattle.lrpar_grammar_words.specs.Words.{begins_name, is_in_name, is_white, piece_at}

-- a letter, `_` or `.`, and then letters, digits, `_` and `.`
pub record IsName (s : List ℕ) : Type 0 where
  pub first : ℕ
  pub others : List ℕ
  pub begins : begins_name first ≡ true
  pub goes_on : All (λ c. is_in_name c ≡ true) others
  pub is : s ≡ first ∷ others

-- `'` or `"`, one or more bytes other than that quote and LF, and the quote again
pub record IsQuotedText (s : List ℕ) : Type 0 where
  pub quote : ℕ
  pub text : List ℕ
  pub quotes : (quote ≡ 39) ⊎ (quote ≡ 34)
  pub some : text ≢ []
  pub unquoted : All (λ c. (c ≢ quote) × (c ≢ 10)) text
  pub is : s ≡ quote ∷ (text ++ quote ∷ [])

-- a word of that kind
abbrev pub IsWord : WordKind → List ℕ → Type 0
IsWord Name s = IsName s
IsWord Quoted s = IsQuotedText s
IsWord StartSign s = s ≡ codes "%start"
IsWord TokenSign s = s ≡ codes "%token"
IsWord EppSign s = s ≡ codes "%epp"
IsWord RulesSign s = s ≡ codes "%%"
IsWord Colon s = s ≡ codes ":"
IsWord Bar s = s ≡ codes "|"
IsWord Semicolon s = s ≡ codes ";"

-- a space, tab, CR or LF
pub record IsWhite (s : List ℕ) : Type 0 where
  pub byte : ℕ
  pub white : is_white byte ≡ true
  pub is : s ≡ byte ∷ []

-- `//` and bytes without LF
pub record IsLineComment (s : List ℕ) : Type 0 where
  pub line : List ℕ
  pub on_line : All (λ c. c ≢ 10) line
  pub is : s ≡ codes "//" ++ line

-- `/*`, and the bytes up to the end of the next `*/`
pub record IsClosedComment (s : List ℕ) : Type 0 where
  pub text : List ℕ
  pub unclosed : (k : ℕ) → k < length text → take 2 (drop k (text ++ codes "*/")) ≢ codes "*/"
  pub is : s ≡ codes "/*" ++ (text ++ codes "*/")

-- blanks
abbrev pub IsBlank : List ℕ → Type 0
IsBlank s = IsWhite s ⊎ (IsLineComment s ⊎ IsClosedComment s)

-- a word of that kind, or blanks if there is no kind
abbrev pub IsPieceText : Option WordKind → List ℕ → Type 0
IsPieceText (Some kind) s = IsWord kind s
IsPieceText None s = IsBlank s

-- the piece x is a word or blanks at the start of s, and none there is longer
pub record IsLongestPiece (s : List ℕ) (x : Piece) : Type 0 where
  pub within : x.len ≤ length s
  pub is : IsPieceText x.word (take x.len s)
  pub longest : (n : ℕ) (word : Option WordKind) → n ≤ length s → IsPieceText word (take n s) → n ≤ x.len

-- the piece at the start of s is the longest word or blanks there
abbrev pub PiecesAreLongest : Type 0
PiecesAreLongest = (s : List ℕ) (x : Piece) → (piece_at s ≡ Some x) ↔ IsLongestPiece s x

-- if there is no piece at the start of s, then s begins with no word or blanks
abbrev pub NothingIsPassedOver : Type 0
NothingIsPassedOver = (s : List ℕ) → piece_at s ≡ None → (n : ℕ) (word : Option WordKind) → IsPieceText word (take n s) → ⊥
