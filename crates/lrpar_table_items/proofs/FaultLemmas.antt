-- What a `?` returns, and what follows from several facts about a value that is made.
use Rattle.std.proofs.Common.{◌≡◌, sym, subst, Result, Ok, Err, IsErrAnd, IfErr, IfOk}
use Rattle.lrpar_table_items.specs.declared.fault.BuildFault.{BuildFault}

-- the fault that a `?` returns
pub fault_same : {T : Type 0} (r : Result T BuildFault) (P : BuildFault → Type 0) (fault : BuildFault) → IsErrAnd r (λ other. other ≡ fault) → P fault → IfErr r P
fault_same (Ok x) P fault is holds = tt
fault_same (Err other) P fault is holds = subst P (sym is) holds

-- what follows from two facts about a value that is made
pub ok_two : {T E : Type 0} (r : Result T E) (P Q R : T → Type 0) → ((x : T) → P x → Q x → R x) → IfOk r P → IfOk r Q → IfOk r R
ok_two (Ok x) P Q R f p q = f x p q
ok_two (Err e) P Q R f p q = tt
