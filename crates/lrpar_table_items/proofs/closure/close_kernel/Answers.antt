use Rattle.std.proofs.Common.{arith, ◌↔◌, ℕ, subst, sym, map}
use Rattle.lrpar_table_items.specs.Brought.{HasIn, IsBrought}
use Rattle.lrpar_table_items.specs.Cores.{AreBringing, core_set}
use Rattle.lrpar_table_first.specs.FirstRows.{rows_of}
use Rattle.lrpar_table_items.specs.Working.{brought_rows}
use Rattle.lrpar_table_items.proofs.AmongLemmas.{closure_among}
use Rattle.lrpar_table_items.proofs.PutLemmas.{added_not_brought}
use Rattle.lrpar_grammar_places.proofs.FaultLemmas.{no_value}
use Rattle.lrpar_table_items.proofs.closure.close_kernel.Goals as goal

pub push_brought-requires-clause-added : goal.push_brought-requires-clause-added
push_brought-requires-clause-added g c =
    let cores = map (core_set g.StorageT.StorageIndex.index) c.deref.result.now in
    λ t h.
    let there = subst (λ sets. HasIn (rows_of sets) 0 t) c.deref-2.ensures.value h in
    let listed = added_not_brought c.args.grm.now c.requires.well_formed cores 0 t ((c.bring.ensures.exact 0 t).0 there) in omega (arith, listed)

pub returns-clause-items : goal.returns-clause-items
returns-clause-items g c =
    let index = g.StorageT.StorageIndex.index in
    let grm = c.args.grm.now in
    let rows = rows_of c.deref-2.result.now in
    let cores = map (core_set index) c.args.kernel.items in
    let exact =
    subst (λ sets. (r t : ℕ) → HasIn (rows_of sets) r t ↔ IsBrought grm (AreBringing grm cores) r t) (sym c.deref-2.ensures.value)
    (subst (λ cs. (r t : ℕ) → HasIn (brought_rows c.bring.new.sets) r t ↔ IsBrought grm (AreBringing grm (map (core_set index) cs)) r t) c.deref.ensures.value
    c.bring.ensures.exact) in
    closure_among grm cores (map (core_set index) c.push_brought.new.closure.items) rows exact c.in_ok-push_brought.ensures.items

pub returns-in_err-push_brought-clause-items : goal.returns-in_err-push_brought-clause-items
returns-in_err-push_brought-clause-items g c = no_value c.from_residual.result _ _ c.from_residual.ensures.1

pub returns-in_err-push_brought-clause-cores : goal.returns-in_err-push_brought-clause-cores
returns-in_err-push_brought-clause-cores g c = no_value c.from_residual.result _ _ c.from_residual.ensures.1
