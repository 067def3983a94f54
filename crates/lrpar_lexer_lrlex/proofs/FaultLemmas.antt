-- Faults that a `?` or a `match` returns.
use Rattle.std.proofs.Common.{◌≡◌, ◌≢◌, Result, Ok, Err, IfErr, IsErrAnd, MatchResult, sym, subst, ◌∙◌, ap}
use Rattle.lrpar_lexer_lrlex.specs.declared.fault.LrlexFault.{LrlexFault}
use Rattle.lrpar_lexer_lrlex.specs.declared.fault.LrlexFault.TheVariants.{Memory}
use Rattle.lrpar_lexer_lrlex.specs.Faults.{Gives, Keeps}

module _ {B : Type 0} (is : Result B LrlexFault) (fault : LrlexFault) where
  pub match_fault : {T : Type 0} (P : T → Type 0) (r : Result T LrlexFault) → IsErrAnd r (λ y. y ≡ fault) → is ≡ Err fault
      → MatchResult r P (λ y. is ≡ Err y)
  match_fault P (Ok x) same says = absurd same
  match_fault P (Err y) same says = says ∙ ap Err (sym same)

  pub gives_fault : {A : Type 0} (view : A → B) (r : Result A LrlexFault) → IsErrAnd r (λ y. y ≡ fault) → (fault ≢ Memory → is ≡ Err fault)
      → Gives view is r
  gives_fault view (Ok x) same says = absurd same
  gives_fault view (Err y) same says = λ other. says (λ memory. other (same ∙ memory)) ∙ ap Err (sym same)

  pub keeps_fault : {A : Type 0} (left : B) (r : Result A LrlexFault) → IsErrAnd r (λ y. y ≡ fault) → (fault ≢ Memory → is ≡ Err fault)
      → Keeps left is r
  keeps_fault left (Ok x) same says = absurd same
  keeps_fault left (Err y) same says = λ other. says (λ memory. other (same ∙ memory)) ∙ ap Err (sym same)

-- the same of what holds of a fault
pub if_fault : {T : Type 0} (P : LrlexFault → Type 0) (fault : LrlexFault) (r : Result T LrlexFault) → IsErrAnd r (λ y. y ≡ fault)
    → (fault ≢ Memory → P fault) → IfErr r (λ y. y ≢ Memory → P y)
if_fault P fault (Ok x) same says = tt
if_fault P fault (Err y) same says = λ other. subst P (sym same) (says (λ memory. other (same ∙ memory)))
