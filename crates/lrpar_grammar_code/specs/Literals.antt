-- Literals of Rust code, by their bytes alone. 34 is `"`, 39 `'`, 92 a backslash.
use Rattle.std.specs.Prelude.{◌≡◌, ◌≢◌, ◌<◌, ℕ, List, [], ◌∷◌, ◌++◌, All, length, Option, Some, None}
use Rattle.std.specs.List.{flat_map}
use Rattle.lrpar_grammar_code.specs.Code.{rust_len}

-- a byte of a literal: a plain one, or one after a backslash
pub data LiteralByte : Type 0 where
  Plain : (byte : ℕ) → LiteralByte
  Escaped : (byte : ℕ) → LiteralByte

-- the bytes that spell a byte of a literal
abbrev pub bytes_of : LiteralByte → List ℕ
bytes_of (Plain c) = c ∷ []
bytes_of (Escaped c) = 92 ∷ c ∷ []

-- a plain byte is neither the quote nor a backslash
abbrev pub IsInside : ℕ → LiteralByte → Type 0
IsInside quote (Plain c) = (c ≢ quote) × (c ≢ 92)
IsInside quote (Escaped c) = Unit {0}

-- `"`, bytes in which no quote is but after a backslash, and `"`
pub record IsString (s : List ℕ) : Type 0 where
  pub text : List LiteralByte
  pub inside : All (IsInside 34) text
  pub is : s ≡ 34 ∷ (flat_map bytes_of text ++ 34 ∷ [])

-- `'`, an ASCII byte other than `'` and a backslash, and `'`
pub record IsPlainChar (s : List ℕ) : Type 0 where
  pub byte : ℕ
  pub ascii : byte < 128
  pub inside : IsInside 39 (Plain byte)
  pub is : s ≡ 39 ∷ byte ∷ 39 ∷ []

-- `'`, a backslash and a byte, bytes in which no quote is but after a backslash, and `'`
pub record IsEscapedChar (s : List ℕ) : Type 0 where
  pub byte : ℕ
  pub text : List LiteralByte
  pub inside : All (IsInside 39) text
  pub is : s ≡ 39 ∷ (flat_map bytes_of (Escaped byte ∷ text) ++ 39 ∷ [])

-- the length of the piece of code at the start of s
abbrev pub code_piece : List ℕ → Option ℕ
code_piece [] = None
code_piece (c ∷ s) = rust_len c s

-- code that begins with s begins with it as one piece
abbrev pub IsOnePiece : List ℕ → Type 0
IsOnePiece s = (rest : List ℕ) → code_piece (s ++ rest) ≡ Some (length s)

-- strings and characters are one piece each
pub record LiteralsAreOnePiece : Type 0 where
  pub strings : (s : List ℕ) → IsString s → IsOnePiece s
  pub chars : (s : List ℕ) → IsPlainChar s → IsOnePiece s
  pub escaped : (s : List ℕ) → IsEscapedChar s → IsOnePiece s
