-- The characters of sums and their tokens.
use Rattle.std.specs.Prelude.{◌==◌, ◌||◌, if◌then◌else◌, ℕ, Bool, Option, Some, None}
use Rattle.std.specs.Char.{is_ascii_alphabetic}

-- an ASCII letter or `_`
abbrev pub is_name : ℕ → Bool
is_name c = is_ascii_alphabetic c || (c == 95)

-- the token of a character: 0 of `+`, 1 of a name, none of any other
abbrev pub token_of : ℕ → Option ℕ
token_of c = if c == 43 then Some 0 else if is_name c then Some 1 else None
