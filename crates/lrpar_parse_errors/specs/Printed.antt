-- What a caller's function prints for a token, or a grammar, and why a text can't be made.
use denote.Ref.{Bor}
use Rattle.std.specs.Prelude.{◌≡◌, ℕ, Bool, true, false, List, ◌++◌, Option, Some, None, String, option_map, string_bytes}
use Rattle.lrpar_grammar.specs.Grammar.{Grammar}
use Rattle.lrpar_grammar.specs.Printed.{printed_of}
use Rattle.lrpar_grammar_places.specs.declared.span.TIdx.{TIdx}
use Rattle.lrpar_parse_errors.specs.SequenceText.{IsFirstUnnamed}
use Rattle.lrpar_parse_lexemes.specs.declared.pp_fault.PpFault.{PpFault}
use Rattle.lrpar_parse_lexemes.specs.declared.pp_fault.PpFault.TheVariants.{NoPrintedName, Memory}

-- `answers` are the function's answers. For a token of this number it returns this text, or `None`.
abbrev pub printed_by : {S : Type 0} → (S → ℕ) → (TIdx S → Option (Bor (List ℕ)) → Type 0) → ℕ → Option (List ℕ) → Type 0
printed_by {S} index answers t name =
    (token : TIdx S) × (answer : Option (Bor (List ℕ))) × (index token.0 ≡ t) × (option_map (λ text. text.now) answer ≡ name) × answers token answer

-- the name is what the grammar prints for token t; it prints one text for each token
abbrev pub IsPrintedName : Grammar → ℕ → Option (List ℕ) → Type 0
IsPrintedName g t name = name ≡ Some (printed_of g t)

-- a text gets one of the names that may be printed, at its end; or nothing may be printed
abbrev pub IsNamed : (Option (List ℕ) → Type 0) → List ℕ → List ℕ → Bool → Type 0
IsNamed prints old new true = (name : List ℕ) × prints (Some name) × (new ≡ old ++ name)
IsNamed prints old new false = prints None

-- a string gets one of the names that may be printed for the token, at its end; or nothing may be printed
abbrev pub AppendsName : {S A : Type 0} → (S → ℕ) → (ℕ → Option (List ℕ) → Type 0) → TIdx S → String A → String A → Bool → Type 0
AppendsName index names token old new = IsNamed (names (index token.0)) (string_bytes old) (string_bytes new)

-- a string gets the name that a function answers for the token, at its end; or the function answers none
abbrev pub AppendsAnswer : {S A : Type 0} → (S → ℕ) → (TIdx S → Option (Bor (List ℕ)) → Type 0) → TIdx S → String A → String A → Bool → Type 0
AppendsAnswer index answers token old new = AppendsName index (printed_by index answers) token old new

-- the fault names the first of the tokens for which nothing is printed, or is `Memory`
abbrev pub IsPpFault : {S : Type 0} → (S → ℕ) → (ℕ → Option (List ℕ) → Type 0) → List ℕ → PpFault S → Type 0
IsPpFault index names tokens (NoPrintedName t) = IsFirstUnnamed names tokens (index t.0)
IsPpFault index names tokens Memory = Unit {0}
