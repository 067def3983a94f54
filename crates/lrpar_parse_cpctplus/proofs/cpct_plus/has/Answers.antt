use Rattle.std.proofs.Common.{arith}
use Rattle.lrpar_parse_cpctplus.proofs.cpct_plus.has.Goals as goal

pub returns : goal.returns
returns c = ((λ h. absurd (cc)), (λ h. absurd (c.loop-one.invariant h.0 (omega (arith, h.1, c.loop-one-test.false)) h.2)))
