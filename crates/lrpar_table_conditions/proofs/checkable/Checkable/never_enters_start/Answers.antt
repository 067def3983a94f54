use Rattle.lrpar_table_conditions.proofs.checkable.Checkable.never_enters_start.Goals as goal

pub returns-then-begins_as_start : goal.returns-then-begins_as_start
returns-then-begins_as_start g c = (
  λ h. record { never_back = c.goes_never_back.ensures.0 h; first_core = c.begins_as_start.ensures.0 c.if-begins_as_start.true },
  λ leaves. c.goes_never_back.ensures.1 leaves.never_back,
)

pub returns-else-begins_as_start : goal.returns-else-begins_as_start
returns-else-begins_as_start g c = (λ h. absurd (cc), λ leaves. c.begins_as_start.ensures.1 leaves.first_core)
