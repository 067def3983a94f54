-- Names of rules and tokens.
use Rattle.std.proofs.Common.{inl, inr, ◌≡◌, ◌≢◌, ◌<◌, ◌+◌, ℕ, Bool, true, List, [], ◌∷◌, bytes_eq, length, Option, Some, None, option_map, ap, refl, sym, ◌∙◌, arith}
use Rattle.std.specs.List.{Any, list_any, position, position_from}
use Rattle.std.specs.Option.{is_some, option_map_or}
use Rattle.std.proofs.lemmas.Bool.{cases_Bool}
use Rattle.std.proofs.lemmas.Iterator.Adapters.{position_from-zero}
use Rattle.std.proofs.lemmas.Option.{slice_get_cases, slice_get_read}
use Rattle.std.proofs.lemmas.List.Folds.{Any-from_list_any, list_any-from_Any}
use Rattle.std.proofs.lemmas.Slice.Eq.{bytes_eq-Decides}
use Rattle.lrpar_grammar_reader.specs.Grammar.{Grammar, TokenName, rule_name}

-- the rule of a number has the name
rule_named : (g : Grammar) (n : ℕ) (name : List ℕ) → n < length g.rules → rule_name g n ≡ name → Any (λ rule. rule.name ≡ name) g.rules
rule_named g n name within is =
    elim ((slice_get_cases g.rules n).1) [
      | inl (rule, there, found, same) ↦ (n, rule, there, same, sym (ap (λ o. option_map_or (λ r. r.name) o []) found) ∙ is)
      | inr past ↦ absurd (omega (arith, past.0))
    ]

-- the same by a test of its name
pub rule_has : (g : Grammar) (n number : ℕ) (name text : List ℕ) → n < length g.rules → number ≡ n → text ≡ rule_name g number
    → bytes_eq text name ≡ true → Any (λ rule. rule.name ≡ name) g.rules
rule_has g n number name text within same is passes =
    rule_named g n name within (ap (rule_name g) (sym same) ∙ sym is ∙ (bytes_eq-Decides text name).0 passes)

-- if the rule of no number has the name, none has it
pub rules_lack : (g : Grammar) (name : List ℕ) → ((n : ℕ) → n < length g.rules → rule_name g n ≢ name) → Any (λ rule. rule.name ≡ name) g.rules → ⊥
rules_lack g name lack has =
    let found = slice_get_read g.rules (length g.rules) has.0 has.1 refl has.2 (sym has.3) in
    lack has.0 has.2 (ap (λ o. option_map_or (λ r. r.name) o []) found ∙ has.4)

-- there is a first place of a value that passes if and only if some value passes
place_from : {X : Type 0} (p : X → Bool) (n : ℕ) (xs : List X) → is_some (position_from p n xs) ≡ list_any p xs
place_from p n [] = refl
place_from p n (x ∷ xs) =
    elim (cases_Bool (p x)) [
      | inl passes ↦ rw passes refl
      | inr fails ↦ rw fails (place_from p (n + 1) xs)
    ]

place : {X : Type 0} (p : X → Bool) (xs : List X) → is_some (position p xs) ≡ list_any p xs
place p xs = ap is_some (position_from-zero p xs) ∙ place_from p 0 xs

-- a token has the name if and only if there is a first one that has it
pub tokens_have : (name : List ℕ) (tokens : List TokenName) → is_some (position (λ token. bytes_eq token.name name) tokens) ≡ true
    → Any (λ token. token.name ≡ name) tokens
tokens_have name tokens found =
    let some = Any-from_list_any (λ token. bytes_eq token.name name) tokens (sym (place (λ token. bytes_eq token.name name) tokens) ∙ found) in
    (some.0, some.1, some.2, some.3, (bytes_eq-Decides (some.1).name name).0 some.4)

pub tokens_found : (name : List ℕ) (tokens : List TokenName) → Any (λ token. token.name ≡ name) tokens
    → is_some (position (λ token. bytes_eq token.name name) tokens) ≡ true
tokens_found name tokens has =
    place (λ token. bytes_eq token.name name) tokens
    ∙ list_any-from_Any (λ token. bytes_eq token.name name) tokens (has.0, has.1, has.2, has.3, (bytes_eq-Decides (has.1).name name).1 has.4)

-- a value that is there is there under another name
pub some_as : {X Y : Type 0} (f : X → Y) (o : Option X) → is_some (option_map f o) ≡ is_some o
some_as f None = refl
some_as f (Some x) = refl
