-- Faults that a `?` or a `match` returns.
use Rattle.std.proofs.Common.{◌≡◌, ◌≢◌, Result, Ok, Err, IsErrAnd, sym, ◌∙◌, ap}
use Rattle.lrpar_names.specs.declared.fault.NamesFault.{NamesFault}
use Rattle.lrpar_names.specs.declared.fault.NamesFault.TheVariants.{Memory}
use Rattle.lrpar_names.specs.Faults.{Gives, Keeps}

module _ {B : Type 0} (is : Result B NamesFault) (fault : NamesFault) where
  pub gives_fault : (r : Result B NamesFault) → IsErrAnd r (λ y. y ≡ fault) → (fault ≢ Memory → is ≡ Err fault) → Gives is r
  gives_fault (Ok x) same says = absurd same
  gives_fault (Err y) same says = λ other. says (λ memory. other (same ∙ memory)) ∙ ap Err (sym same)

  pub keeps_fault : {A : Type 0} (left : B) (r : Result A NamesFault) → IsErrAnd r (λ y. y ≡ fault) → (fault ≢ Memory → is ≡ Err fault)
      → Keeps left is r
  keeps_fault left (Ok x) same says = absurd same
  keeps_fault left (Err y) same says = λ other. says (λ memory. other (same ∙ memory)) ∙ ap Err (sym same)
