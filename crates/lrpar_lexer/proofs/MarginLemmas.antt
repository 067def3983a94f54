-- The bytes that are ignored at the ends of a line, and the bytes of a gap, are ASCII characters.
use Rattle.std.proofs.Common.{◌≡◌, ℕ, ◌<◌, Bool, true, List, [], ◌∷◌, Option, arith}
use Rattle.std.specs.Char.{char_set_contains}
use Rattle.std.specs.Str.Pattern.{FindsPrefixBy, FindsSuffixBy, IsTrimEndMatches, IsTrimStartMatches}
use Rattle.std.proofs.lemmas.Bool.Decides.{nat_tests}
use Rattle.lrpar_lexer.specs.RuleLines.{is_blank, is_margin, without_front}
use Rattle.lrpar_lexer.proofs.TrimLemmas.{EndCut, StopsAt, end_trimmed, front_trimmed}

pub blank_set : (c : ℕ) → char_set_contains (32 ∷ 9 ∷ []) c ≡ is_blank c
blank_set c = grind (arith, nat_tests)

pub margin_set : (c : ℕ) → char_set_contains (32 ∷ 9 ∷ 13 ∷ []) c ≡ is_margin c
margin_set c = grind (arith, nat_tests)

pub blank_ascii : (c : ℕ) → is_blank c ≡ true → c < 128
blank_ascii c is = grind (arith, nat_tests)

pub margin_ascii : (c : ℕ) → is_margin c ≡ true → c < 128
margin_ascii c is = grind (arith, nat_tests)

-- what `trim_start_matches` and `trim_end_matches` find for a list of characters
abbrev pub FindsFront : List ℕ → List ℕ → Option ℕ → Type 0
FindsFront set text found = (test : ℕ → Bool) → ((c : ℕ) → char_set_contains set c ≡ test c) → FindsPrefixBy test text found

abbrev pub FindsEnd : List ℕ → List ℕ → Option ℕ → Type 0
FindsEnd set text found = (test : ℕ → Bool) → ((c : ℕ) → char_set_contains set c ≡ test c) → FindsSuffixBy test text found

pub margin_front : (text rest : List ℕ) → IsTrimStartMatches (FindsFront (32 ∷ 9 ∷ 13 ∷ [])) text rest → rest ≡ without_front is_margin text
margin_front text rest trims =
    front_trimmed is_margin margin_ascii (FindsFront (32 ∷ 9 ∷ 13 ∷ [])) text rest trims (λ m found says. says is_margin margin_set)

pub margin_end : (text rest : List ℕ) → IsTrimEndMatches (FindsEnd (32 ∷ 9 ∷ 13 ∷ [])) text rest → (cut : EndCut is_margin text rest) × StopsAt is_margin text cut.kept
margin_end text rest trims =
    end_trimmed is_margin margin_ascii (FindsEnd (32 ∷ 9 ∷ 13 ∷ [])) text rest trims (λ m found says. says is_margin margin_set)

pub blank_end : (text rest : List ℕ) → IsTrimEndMatches (FindsEnd (32 ∷ 9 ∷ [])) text rest → (cut : EndCut is_blank text rest) × StopsAt is_blank text cut.kept
blank_end text rest trims =
    end_trimmed is_blank blank_ascii (FindsEnd (32 ∷ 9 ∷ [])) text rest trims (λ m found says. says is_blank blank_set)
