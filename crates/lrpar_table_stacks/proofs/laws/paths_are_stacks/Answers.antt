use Rattle.lrpar_table_stacks.proofs.StackLemmas.{path_is_stack, stack_has_path}
use Rattle.lrpar_table_stacks.proofs.laws.paths_are_stacks.Goals as goal

pub returns : goal.returns
returns c = record {
  stacks = λ table symbols st no_token no_rule path. path_is_stack table no_token no_rule symbols st path;
  paths = stack_has_path;
}
