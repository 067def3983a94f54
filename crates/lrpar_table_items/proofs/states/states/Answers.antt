use Rattle.lrpar_table_items.specs.Numbers.{IsFaultOfStates}
use Rattle.lrpar_table_items.specs.declared.fault.BuildFault.TheVariants.{Memory}
use Rattle.lrpar_grammar_places.proofs.FaultLemmas.{no_value}
use Rattle.lrpar_table_items.proofs.FaultLemmas.{fault_same}
use Rattle.lrpar_table_items.proofs.states.states.Goals as goal

pub returns-in_err-sets : goal.returns-in_err-sets
returns-in_err-sets g c =
    let reported = c.from_residual.ensures.1 in record {
      states = no_value c.from_residual.result _ _ reported;
      within = no_value c.from_residual.result _ _ reported;
      fits = no_value c.from_residual.result _ _ reported;
      fault = fault_same c.from_residual.result (IsFaultOfStates c.args.grm.now c.args.max_states g.StorageT.StorageIndex.limit) Memory reported tt;
    }

pub returns-in_err-kernels : goal.returns-in_err-kernels
returns-in_err-kernels g c =
    let reported = c.from_residual-in_err-kernels.ensures.1 in record {
      states = no_value c.from_residual-in_err-kernels.result _ _ reported;
      within = no_value c.from_residual-in_err-kernels.result _ _ reported;
      fits = no_value c.from_residual-in_err-kernels.result _ _ reported;
      fault = fault_same c.from_residual-in_err-kernels.result (IsFaultOfStates c.args.grm.now c.args.max_states g.StorageT.StorageIndex.limit) c.in_err-kernels.field-0.0 reported c.in_err-kernels.ensures.fault;
    }
