use Rattle.std.proofs.Common.{◌≡◌, ◌<◌, ◌≤◌, ◌∷◌, ◌++◌, ◌∙◌, [], List, ap, arith, inl, inr, length, map, refl, subst, sym}
use Rattle.std.proofs.lemmas.Bool.{cases_lt, false≢true}
use Rattle.lrpar_table_items.specs.Cores.{CoreSet, core_set}
use Rattle.lrpar_table_items.specs.Numbers.{IsNumberFault}
use Rattle.lrpar_table_items.specs.declared.fault.BuildFault.TheVariants.{Memory}
use Rattle.lrpar_grammar_places.proofs.FaultLemmas.{no_value}
use Rattle.lrpar_table_items.proofs.FaultLemmas.{fault_same}
use Rattle.lrpar_table_items.proofs.NumberLemmas.{pushed_number}
use Rattle.lrpar_table_items.proofs.numbers.number.Goals as goal

pub returns-in-Some-clause-number : goal.returns-in-Some-clause-number
returns-in-Some-clause-number g c = record { found = c.in-Some.ensures; kernels = inl refl }

pub returns-then-next-max_states-clause-fault : goal.returns-then-next-max_states-clause-fault
returns-then-next-max_states-clause-fault g c = (c.in_default.ensures, omega (arith, c.if-next-max_states.true, c.len-next.ensures))

pub returns-in-None-clause-fault : goal.returns-in-None-clause-fault
returns-in-None-clause-fault g c = (
  c.in_default.ensures,
  elim (cases_lt c.len-next.result g.StorageT.StorageIndex.limit) as (λ _. g.StorageT.StorageIndex.limit ≤ length c.args.kernels.now) [
    | inl low ↦ absurd (false≢true (c.in-None.ensures.within.1 low))
    | inr past ↦ omega (arith, past, c.len-next.ensures)
  ],
)

pub returns-in_err-kept-in-Some-from_index-clause-number : goal.returns-in_err-kept-in-Some-from_index-clause-number
returns-in_err-kept-in-Some-from_index-clause-number g c = no_value c.from_residual.result _ _ c.from_residual.ensures.1

pub returns-in_err-kept-in-Some-from_index-clause-fault : goal.returns-in_err-kept-in-Some-from_index-clause-fault
returns-in_err-kept-in-Some-from_index-clause-fault g c =
    fault_same c.from_residual.result
    (IsNumberFault c.args.max_states g.StorageT.StorageIndex.limit c.args.kernels.now (map (core_set g.StorageT.StorageIndex.index) c.args.kernel.now)) Memory
    c.from_residual.ensures.1 tt

pub returns-in_err-push-in-Some-from_index-clause-number : goal.returns-in_err-push-in-Some-from_index-clause-number
returns-in_err-push-in-Some-from_index-clause-number g c =
    no_value c.from_residual-in_err-push-in-Some-from_index.result _ _ c.from_residual-in_err-push-in-Some-from_index.ensures.1

pub returns-in_err-push-in-Some-from_index-clause-fault : goal.returns-in_err-push-in-Some-from_index-clause-fault
returns-in_err-push-in-Some-from_index-clause-fault g c =
    let Reported = IsNumberFault c.args.max_states g.StorageT.StorageIndex.limit c.args.kernels.now (map (core_set g.StorageT.StorageIndex.index) c.args.kernel.now) in
    fault_same c.from_residual-in_err-push-in-Some-from_index.result Reported c.in_err-push-in-Some-from_index.field-0.0
    c.from_residual-in_err-push-in-Some-from_index.ensures.1 (subst Reported (sym c.in_err-push-in-Some-from_index.ensures.fault) tt)

pub returns-in_ok-push-in-Some-from_index-clause-number : goal.returns-in_ok-push-in-Some-from_index-clause-number
returns-in_ok-push-in-Some-from_index-clause-number g c =
    let index = g.StorageT.StorageIndex.index in
    let kernels = c.args.kernels.now in
    let n = index c.in-Some-from_index.number in
    let reported = c.in-Some-from_index.ensures in
    let next : n ≡ length kernels = omega (arith, reported.back, c.len-next.ensures) in
    let room : length kernels < c.args.max_states = omega (arith, next, reported.back, c.if-next-max_states.false) in
    let fits : length kernels < g.StorageT.StorageIndex.limit = omega (arith, next, reported.back, reported.within.0 refl) in
    pushed_number c.args.max_states g.StorageT.StorageIndex.limit kernels (map (core_set index) c.args.kernel.now) n c.push.new.self
    c.in_default.ensures next room fits
    (c.in_ok-push-in-Some-from_index.ensures.pushed ∙ ap (λ (kernel : List CoreSet). kernels ++ kernel ∷ []) c.in_ok-kept-in-Some-from_index.ensures)
