-- What a `?` returns early.
use Rattle.std.proofs.Common.{Result, Ok, Err, IsErrAnd, IfOk, OnOk}

-- if an error is returned, there is no value
pub no_value : {T E : Type 0} (r : Result T E) (P : T → Type 0) (Q : E → Type 0) → IsErrAnd r Q → IfOk r P
no_value (Ok x) P Q failed = absurd failed
no_value (Err e) P Q failed = tt

-- and nothing was done
pub nothing_done : {T E : Type 0} (r : Result T E) (P : Type 0) (Q : E → Type 0) → IsErrAnd r Q → OnOk r P
nothing_done (Ok x) P Q failed = absurd failed
nothing_done (Err e) P Q failed = tt
