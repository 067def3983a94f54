-- Where the quotes of a literal are.
use Rattle.std.proofs.Common.{◌≡◌, ◌<◌, ◌-◌, ℕ, List, true, length, get_or, arith}
use Rattle.std.proofs.lemmas.Bool.Decides.{nat_tests}
use Rattle.lrpar_grammar_bison_parts.specs.Unquoted.{is_in_quotes, is_quote}

-- a quote is ASCII
quote_ascii : (c : ℕ) → is_quote c ≡ true → c < 128
quote_ascii c is = grind (arith, nat_tests)

-- a text in quotes begins and ends with an ASCII byte
pub quotes : (s : List ℕ) → is_in_quotes s ≡ true → (1 < length s) × (get_or s 0 0 < 128) × (get_or s (length s - 1) 0 < 128)
quotes s is = grind (arith, nat_tests, quote_ascii)
