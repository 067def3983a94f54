-- Strings that get a text, or have one.
use Rattle.std.specs.Prelude.{◌≡◌, ◌++◌, ℕ, List, String, string_bytes}

-- the text was added at the end
abbrev pub Appends : {A : Type 0} → String A → String A → List ℕ → Type 0
Appends old new text = string_bytes new ≡ string_bytes old ++ text

-- the string has this text
abbrev pub HasText : {A : Type 0} → List ℕ → String A → Type 0
HasText text = λ string. string_bytes string ≡ text
