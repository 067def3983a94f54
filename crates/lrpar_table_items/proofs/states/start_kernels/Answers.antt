use Rattle.std.proofs.Common.{[], sym, subst, map, List}
use Rattle.lrpar_table_items.specs.Canonical.{AreSame}
use Rattle.lrpar_table_items.specs.Cores.{CoreSet, IsAmong, core_set}
use Rattle.lrpar_table_items.specs.ItemSets.{IsStartItem}
use Rattle.lrpar_table_items.specs.Numbers.{IsFaultOfStates, IsNumberFault, IsNumberOf}
use Rattle.lrpar_table_items.proofs.FaultLemmas.{fault_same}
use Rattle.lrpar_table_items.proofs.NumberLemmas.{first_number, none_numbered, number_fault, number_numbered, start_reached}
use Rattle.lrpar_table_items.proofs.states.start_kernels.Goals as goal

pub returns-in_err-_start-clause-fault : goal.returns-in_err-_start-clause-fault
returns-in_err-_start-clause-fault g c =
    let index = g.StorageT.StorageIndex.index in
    let limit = g.StorageT.StorageIndex.limit in
    let grm = c.args.grm.now in
    let max = c.args.max_states in
    let kernel = map (core_set index) c.in_ok-start.start.items in
    let fault = c.in_err-_start.field-0.0 in
    fault_same c.from_residual-in_err-_start.result (IsFaultOfStates grm max limit) fault c.from_residual-in_err-_start.ensures.1
    (number_fault grm c.start_kernel.ensures.well_formed max limit [] (none_numbered grm max limit) kernel c.in_ok-start.ensures.kernel []
    (start_reached grm kernel c.in_ok-start.ensures.start) fault
    (subst (λ items. IsNumberFault max limit [] (map (core_set index) items) fault) c.deref.ensures.value
    (subst (λ (kernels : List (List CoreSet)). IsNumberFault max limit kernels (map (core_set index) c.deref.result.now) fault) c.new-kernels.ensures
    c.in_err-_start.ensures.fault)))

pub returns-clause-kernels : goal.returns-clause-kernels
returns-clause-kernels g c =
    let index = g.StorageT.StorageIndex.index in
    let limit = g.StorageT.StorageIndex.limit in
    let grm = c.args.grm.now in
    let max = c.args.max_states in
    let kernel = map (core_set index) c.in_ok-start.start.items in
    let n = index c.in_ok-_start._start.0 in
    let after = c.number.new.kernels in
    let number =
    subst (λ items. IsNumberOf max limit [] (map (core_set index) items) n after) c.deref.ensures.value
    (subst (λ (kernels : List (List CoreSet)). IsNumberOf max limit kernels (map (core_set index) c.deref.result.now) n after) c.new-kernels.ensures
    c.in_ok-_start.ensures.number) in
    let found = first_number max limit kernel n after number in
    record {
      numbered =
          number_numbered grm c.start_kernel.ensures.well_formed max limit [] (none_numbered grm max limit) kernel c.in_ok-start.ensures.kernel []
          (start_reached grm kernel c.in_ok-start.ensures.start) n after number;
      starts = record {
        some = found.within;
        is = subst (λ cores. AreSame (IsAmong cores) (IsStartItem grm)) (sym found.is) c.in_ok-start.ensures.start;
      };
    }
