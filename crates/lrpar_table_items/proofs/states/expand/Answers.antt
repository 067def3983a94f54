use Rattle.lrpar_table_items.proofs.states.expand.Goals as goal

pub returns-clause-state : goal.returns-clause-state
returns-clause-state g c =
    let set = c.in_ok-successors.ensures.set in
    let steps = c.in_ok-gotos.ensures.steps in record {
      kernels = steps.kernels;
      expanded = record { items = set.closure; cores = set.is.cores; gotos = steps.gotos; shifts = steps.shifts };
    }
