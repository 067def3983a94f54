-- Arguments without an error are given one by one.
use Rattle.std.proofs.Common.{◌≡◌, ◌↔◌, List, [], ◌∷◌, None, Ok, Err, Result, arith, length, refl}
use Rattle.lrpar_parse_run.specs.declared.values.AStackType.{AStackType}
use Rattle.lrpar_parse_run.specs.declared.values.AStackType.TheVariants.{ActionType, Lexeme}
use Rattle.lrpar_parse.specs.ValueArguments.{first_failure, given_of}

-- as many arguments are given as there are
pub given_as_many : {X V E : Type 0} (args : List (AStackType X (Result V E))) → first_failure args ≡ None → length (given_of args) ≡ length args
given_as_many [] none = refl
given_as_many (Lexeme x ∷ args) none = omega (arith, given_as_many args none)
given_as_many (ActionType (Ok v) ∷ args) none = omega (arith, given_as_many args none)
given_as_many (ActionType (Err e) ∷ args) none = absurd (let no : ⊥ = cc in no)

-- a list has no entries if and only if its length is 0
pub none_by_length : {T : Type 0} (xs : List T) → (length xs ≡ 0) ↔ (xs ≡ [])
none_by_length [] = (λ _. refl, λ _. refl)
none_by_length (x ∷ xs) = (λ none. absurd (omega (arith, none)), λ none. absurd (let no : ⊥ = cc in no))
