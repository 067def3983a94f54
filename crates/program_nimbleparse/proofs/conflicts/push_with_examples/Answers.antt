use Rattle.program_nimbleparse.proofs.conflicts.push_with_examples.Goals as goal

pub format_examples-requires : goal.format_examples-requires
format_examples-requires c = record { fit = c.first_of-first.ensures c.args.grm.now c.requires }
