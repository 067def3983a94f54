-- What the refusals of rows say.
use Rattle.std.proofs.Common.{◌≡◌, ◌<◌, ◌≤◌, ◌↔◌, ℕ, Result, Ok, Err, IsErrAnd, IsErrOf, refl, arith}
use Rattle.lrpar_table_rows.specs.declared.fault.TableFault.{TableFault}
use Rattle.lrpar_table_rows.specs.declared.fault.TableFault.TheVariants.{BadIndex, Memory}

-- if the input is right, a result that is a value isn't `BadIndex`
pub made_of_good : {T : Type 0} (A : Type 0) (x : T) → A → IsErrOf (Ok x) BadIndex ↔ ¬ A
made_of_good A x good = (λ h. absurd cc, λ bad. absurd (bad good))

-- nor is it if an allocation failed
pub memory_of_good : {T : Type 0} (A : Type 0) (r : Result T TableFault) → A → IsErrAnd r (λ fault. fault ≡ Memory) → IsErrOf r BadIndex ↔ ¬ A
memory_of_good A (Ok x) good memory = absurd memory
memory_of_good A (Err fault) good memory = (λ h. absurd cc, λ bad. absurd (bad good))

-- if the input isn't right, `BadIndex` is the right result
pub refused_as_bad : {T : Type 0} (A : Type 0) → ¬ A → IsErrOf {T = T} (Err BadIndex) BadIndex ↔ ¬ A
refused_as_bad A bad = (λ h. bad, λ bad. refl)

-- a count that has to be at most a limit is refused exactly if it is more
module _ (limit count : ℕ) where
  pub made_of_few : {T : Type 0} (x : T) → count ≤ limit → IsErrOf (Ok x) BadIndex ↔ (limit < count)
  made_of_few x few = (λ h. absurd cc, λ many. absurd (omega (arith, few, many)))

  pub memory_of_few : {T : Type 0} (r : Result T TableFault) → count ≤ limit → IsErrAnd r (λ fault. fault ≡ Memory) → IsErrOf r BadIndex ↔ (limit < count)
  memory_of_few (Ok x) few memory = absurd memory
  memory_of_few (Err fault) few memory = (λ h. absurd cc, λ many. absurd (omega (arith, few, many)))

  pub refused_as_many : {T : Type 0} → limit < count → IsErrOf {T = T} (Err BadIndex) BadIndex ↔ (limit < count)
  refused_as_many many = (λ h. many, λ h. refl)
