-- What is written to a writer, and the spaces at the front of a line.
use Rattle.std.specs.Prelude.{◌≡◌, ℕ, List, OnOk, Option, Result, String, length, replicate, string_bytes, take}
use Rattle.std.specs.Io.KnownBytes.{Appends}

-- the text was written; `contents` is what a writer has, as far as that is known
abbrev pub Writes : {W : Type 0} → (W → Option (List ℕ)) → W → W → List ℕ → Type 0
Writes contents old new text = Appends (contents old) (contents new) text

-- if the call succeeded, the text was written
abbrev pub WritesAll : {W T E : Type 0} → List ℕ → (W → Option (List ℕ)) → W → W → Result T E → Type 0
WritesAll text contents old new result = OnOk result (Writes contents old new text)

-- the line is this number of spaces
abbrev pub IsSpaces : {A : Type 0} → ℕ → String A → Type 0
IsSpaces count line = string_bytes line ≡ replicate count 32

-- the line has nothing but spaces
abbrev pub HasOnlySpaces : {A : Type 0} → String A → Type 0
HasOnlySpaces line = IsSpaces (length (string_bytes line)) line

-- the line begins with this number of spaces
abbrev pub BeginsWithSpaces : {A : Type 0} → ℕ → String A → Type 0
BeginsWithSpaces count line = take count (string_bytes line) ≡ replicate count 32

-- the line begins with as many spaces as the line before had characters
abbrev pub KeepsSpaces : {A : Type 0} → String A → String A → Type 0
KeepsSpaces old new = BeginsWithSpaces (length (string_bytes old)) new
