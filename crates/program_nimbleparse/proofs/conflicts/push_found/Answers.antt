use Rattle.std.proofs.Common.{sym, subst}
use Rattle.lrpar_conflict_examples.specs.ExamplesFit.{ExamplesFit}
use Rattle.program_nimbleparse.proofs.conflicts.push_found.Goals as goal

pub format_examples-requires : goal.format_examples-requires
format_examples-requires c = record {
  fit = c.first_of-first.ensures c.args.grm.now (subst (ExamplesFit c.args.grm.now) (sym c.deref-4.ensures.value) c.requires);
}
