-- Numbers of tokens.
use Rattle.std.specs.Prelude.{◌≡◌, ◌==◌, ◌||◌, ◌∷◌, [], not, Bool, false, ℕ, List, Option, None, Some, option_map, bytes_eq, if◌then◌else◌}
use Rattle.std.specs.BTreeMap.{BTreeMap, get_by}
use Rattle.std.specs.Borrow.{Bor}
use Rattle.std.specs.Cmp.Lexicographic.{slice_cmp}
use Rattle.std.specs.List.{find}
use Rattle.std.specs.Option.{option_map_or}
use Rattle.std.specs.Ordering.{nat_cmp}
use Rattle.lrpar_grammar_bison.specs.Numbers.{token_number}
use Rattle.lrpar_grammar_bison.specs.Spellings.{character_in}
use Rattle.lrpar_grammar_bison.specs.Words.{PlacedWord}
use Rattle.lrpar_grammar_bison_rules.specs.declared.rules.TokenNumber.{TokenNumber}
use Rattle.lrpar_grammar_bison_rules.specs.Rules.{FileNumber, number_of}
use Rattle.lrpar_grammar_bison_parts.specs.declared.faults.BisonFault.{BisonFault}
use Rattle.lrpar_grammar_bison_parts.specs.declared.faults.BisonFault.TheVariants.{BadNumber, Memory, RepeatedNumber}

-- a token by its name, with its number
pub record NumberedToken : Type 0 where
  pub name : List ℕ
  pub number : ℕ

-- the number of the token with that name, if it is among these
abbrev pub number_with : List NumberedToken → List ℕ → Option ℕ
number_with tokens name = option_map (λ (x : NumberedToken). x.number) (find (λ (x : NumberedToken). bytes_eq x.name name) tokens)

-- that number is there, and another one
abbrev pub is_other : Option ℕ → ℕ → Bool
is_other found n = option_map_or (λ (m : ℕ). not (m == n)) found false

-- the token is a literal of a character with another number
abbrev pub has_own_other : PlacedWord → ℕ → Bool
has_own_other token n = is_other (character_in token) n

-- the token has another number: by these tokens, or as a literal
abbrev pub has_other : List NumberedToken → PlacedWord → ℕ → Bool
has_other tokens token n = is_other (number_with tokens token.name) n || has_own_other token n

-- the tokens, and before them one with that number
abbrev pub with_number : List NumberedToken → PlacedWord → ℕ → List NumberedToken
with_number tokens token n = record { name = token.name; number = n } ∷ tokens

-- the first number that no token can have, or whose token has another one, after these tokens, the last of which is first
abbrev pub fault_after : List NumberedToken → List FileNumber → Option BisonFault
fault_after tokens [] = None
fault_after tokens (x ∷ xs) =
    option_map_or (λ (n : ℕ). if has_other tokens x.token n then Some (RepeatedNumber x.number.span) else fault_after (with_number tokens x.token n) xs)
    (token_number x.number.name) (Some (BadNumber x.number.span))

-- the fault of the numbers of a file
abbrev pub number_fault : List FileNumber → Option BisonFault
number_fault numbers = fault_after [] numbers

-- the map has the numbers of these tokens
abbrev pub MapsNumbers : BTreeMap (Bor (List ℕ)) ℕ → List NumberedToken → Type 0
MapsNumbers found tokens = (q : List ℕ) → get_by (λ k. slice_cmp nat_cmp q k.now) found ≡ number_with tokens q

-- if the map has the numbers of some tokens, this says whether the token of the entry has another one
abbrev pub HasOther : BTreeMap (Bor (List ℕ)) ℕ → TokenNumber → ℕ → Bool → Type 0
HasOther found x n result = (tokens : List NumberedToken) → MapsNumbers found tokens → result ≡ has_other tokens (number_of x).token n

-- this is the fault of the numbers; or an allocation failed
abbrev pub IsNumberFault : List FileNumber → BisonFault → Type 0
IsNumberFault numbers (BadNumber span) = number_fault numbers ≡ Some (BadNumber span)
IsNumberFault numbers (RepeatedNumber span) = number_fault numbers ≡ Some (RepeatedNumber span)
IsNumberFault numbers Memory = Unit {0}
IsNumberFault numbers _ = ⊥
