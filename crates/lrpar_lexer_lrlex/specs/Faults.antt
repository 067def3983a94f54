-- Answers with a fault, unless an allocation failed.
use Rattle.std.specs.Prelude.{◌≡◌, ◌≢◌, Result, Ok, Err, MatchResult}
use Rattle.lrpar_lexer_lrlex.specs.declared.fault.LrlexFault.{LrlexFault}
use Rattle.lrpar_lexer_lrlex.specs.declared.fault.LrlexFault.TheVariants.{Memory}

infixl 10 ◌>>=◌
-- one step after another, where each may give a fault
abbrev pub ◌>>=◌ : {A B : Type 0} → Result A LrlexFault → (A → Result B LrlexFault) → Result B LrlexFault
Ok x >>= f = f x
Err fault >>= f = Err fault

-- the answer, as plain data, or the fault is this one; the fault may also be `Memory`
abbrev pub Gives : {A B : Type 0} → (A → B) → Result B LrlexFault → Result A LrlexFault → Type 0
Gives view is (Ok x) = is ≡ Ok (view x)
Gives view is (Err fault) = fault ≢ Memory → is ≡ Err fault

-- what a call has left in place of an answer, or its fault, is this one; the fault may also be `Memory`
abbrev pub Keeps : {A B : Type 0} → B → Result B LrlexFault → Result A LrlexFault → Type 0
Keeps left is (Ok x) = is ≡ Ok left
Keeps left is (Err fault) = fault ≢ Memory → is ≡ Err fault

-- the answer, as plain data, or the fault is this one
abbrev pub GivesExactly : {A B : Type 0} → (A → B) → Result B LrlexFault → Result A LrlexFault → Type 0
GivesExactly view is result = MatchResult result (λ x. is ≡ Ok (view x)) (λ fault. is ≡ Err fault)
