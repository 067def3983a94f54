-- What the caller's function makes of a rule and the values of its symbols.
use Rattle.std.specs.Prelude.{◌≡◌, ℕ, List, Vec}
use Rattle.lrpar_grammar_places.specs.declared.span.RIdx.{RIdx}

-- `answers` are the function's answers. For a rule of this number and these values it may return this value.
abbrev pub made_by : {S V Z : Type 0} → (S → ℕ) → (RIdx S → Vec V Z → V → Type 0) → ℕ → List V → V → Type 0
made_by {S} {V} {Z} index answers r values value =
    (ridx : RIdx S) × (args : Vec V Z) × (index ridx.0 ≡ r) × (args.items ≡ values) × answers ridx args value
