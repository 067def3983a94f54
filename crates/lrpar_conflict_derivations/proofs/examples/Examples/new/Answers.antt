use Rattle.lrpar_conflict_derivations.proofs.examples.Examples.new.Goals as goal

pub returns-clause-made : goal.returns-clause-made
returns-clause-made g c = record {
  firsts = c.in_ok-firsts.ensures;
  shortest = c.in_ok-shortest.ensures.shortest;
  access = c.in_ok-access.ensures;
  each = c.in_ok-shortest.ensures.each;
}
