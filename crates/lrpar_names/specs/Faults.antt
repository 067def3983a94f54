-- Answers with a fault, unless an allocation failed.
use Rattle.std.specs.Prelude.{◌≡◌, ◌≢◌, Result, Ok, Err, MatchResult}
use Rattle.lrpar_names.specs.declared.fault.NamesFault.{NamesFault}
use Rattle.lrpar_names.specs.declared.fault.NamesFault.TheVariants.{Memory}

infixl 10 ◌>>=◌
-- one step after another, where each may give a fault
abbrev pub ◌>>=◌ : {A B : Type 0} → Result A NamesFault → (A → Result B NamesFault) → Result B NamesFault
Ok x >>= f = f x
Err fault >>= f = Err fault

-- the answer or the fault is this one; the fault may also be `Memory`
abbrev pub Gives : {A : Type 0} → Result A NamesFault → Result A NamesFault → Type 0
Gives is (Ok x) = is ≡ Ok x
Gives is (Err fault) = fault ≢ Memory → is ≡ Err fault

-- what a call has left in place of an answer, or its fault, is this one; the fault may also be `Memory`
abbrev pub Keeps : {A B : Type 0} → B → Result B NamesFault → Result A NamesFault → Type 0
Keeps left is (Ok x) = is ≡ Ok left
Keeps left is (Err fault) = fault ≢ Memory → is ≡ Err fault

-- the answer, as plain data, or the fault is this one
abbrev pub GivesExactly : {A B : Type 0} → (A → B) → Result B NamesFault → Result A NamesFault → Type 0
GivesExactly view is result = MatchResult result (λ x. is ≡ Ok (view x)) (λ fault. is ≡ Err fault)
