-- Numbers of a `.y` file: those of tokens, and those in escapes. Bytes are numbers: 48 is `0`, 57 `9`, 65 `A`, 70 `F`, 88 `X`, 97 `a`,
-- 102 `f`, 120 `x`.
use Rattle.std.specs.Prelude.{◌+◌, ◌-◌, ◌*◌, ◌^◌, ◌==◌, ◌&&◌, ◌||◌, ◌∷◌, [], Bool, ℕ, List, Option, None, Some, nat_le, nat_lt, if◌then◌else◌}

-- the value of a hexadecimal digit; 16 if the byte is none
abbrev pub digit_value : ℕ → ℕ
digit_value c =
    if nat_le 48 c && nat_le c 57 then c - 48
    else (if nat_le 97 c && nat_le c 102 then (c - 97) + 10 else (if nat_le 65 c && nat_le c 70 then (c - 65) + 10 else 16))

-- the number with one more digit
abbrev pub next_number : ℕ → ℕ → ℕ → ℕ
next_number base number c = number * base + digit_value c

-- the byte is a digit to that base, and the number with it is below the limit
abbrev pub may_follow : ℕ → ℕ → ℕ → ℕ → Bool
may_follow base limit number c = nat_lt (digit_value c) base && nat_lt (next_number base number c) limit

-- the number with these digits after some that have a number; `None` if one isn't a digit to that base, or the limit is reached
abbrev pub number_after : ℕ → ℕ → ℕ → List ℕ → Option ℕ
number_after base limit number [] = Some number
number_after base limit number (c ∷ s) = if may_follow base limit number c then number_after base limit (next_number base number c) s else None

-- the number with these digits
abbrev pub number_of_digits : ℕ → ℕ → List ℕ → Option ℕ
number_of_digits base limit digits = number_after base limit 0 digits

-- the numbers of tokens are below this
abbrev pub number_limit : ℕ
number_limit = 2 ^ 31 - 1

-- a hexadecimal number of a token, after its `0x`
abbrev pub hexadecimal : List ℕ → Option ℕ
hexadecimal [] = None
hexadecimal (c ∷ s) = number_of_digits 16 number_limit (c ∷ s)

-- `0x`
abbrev pub is_hexadecimal : ℕ → ℕ → Bool
is_hexadecimal c d = (c == 48) && ((d == 120) || (d == 88))

-- the number of a token
abbrev pub token_number : List ℕ → Option ℕ
token_number (c ∷ d ∷ s) = if is_hexadecimal c d then hexadecimal s else number_of_digits 10 number_limit (c ∷ d ∷ s)
token_number s = number_of_digits 10 number_limit s
