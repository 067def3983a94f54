-- Tests in other words.
use Rattle.std.proofs.Common.{◌↔◌, Bool, IsTrue}

-- a test of one thing is a test of the same in other words
pub reworded : {A B : Type 0} (r : Bool) → IsTrue r ↔ A → A ↔ B → IsTrue r ↔ B
reworded r test same = (λ h. same.0 (test.0 h), λ b. test.1 (same.1 b))
