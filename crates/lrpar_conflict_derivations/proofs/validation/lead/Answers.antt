use Rattle.std.proofs.Common.{◌∙◌, sym}
use Rattle.std.proofs.lemmas.Bool.{eqb-true}
use Rattle.lrpar_conflict_derivations.proofs.ValidationLemmas.{lead_more, lead_none}
use Rattle.lrpar_conflict_derivations.proofs.validation.lead.Goals as goal

pub loop-step-preserved : goal.loop-step-preserved
loop-step-preserved g c =
    lead_more _ _ _ _ _ _ _ _ _ c.in-Some.ensures.cases.0 (sym c.from.ensures ∙ c.if-from.false ∙ c.from-in-Some.ensures) c.in-Some-next_by.ensures
    c.loop-step.invariant

pub returns : goal.returns
returns g c =
    λ is.
    lead_none _ _ _ _ _ _ c.in_default.ensures.cases (sym c.from-2.ensures ∙ eqb-true c.from-2.result c.from-3.result is ∙ c.from-3.ensures) c.loop-step.invariant
