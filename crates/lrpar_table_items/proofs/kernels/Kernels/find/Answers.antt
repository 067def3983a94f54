use Rattle.std.proofs.Common.{Global, Vec, ◌≡◌, ◌∙◌, [], sym, ap, subst, arith, length, map, List, MatchOption}
use Rattle.std.proofs.lemmas.Bool.{false≢true}
use Rattle.std.proofs.lemmas.List.{length-map}
use Rattle.lrpar_table_items.specs.Cores.{CoreSet, core_set}
use Rattle.lrpar_table_items.specs.Next.{kernel_at}
use Rattle.lrpar_table_items.specs.KernelMap.{IsFound, IsFresh}
use Rattle.lrpar_table_items.specs.declared.cores.CoreItems.{CoreItems}
use Rattle.lrpar_table_items.proofs.FindLemmas.{mapped_at}
use Rattle.lrpar_table_items.proofs.KernelMapLemmas.{new_beside, new_without}
use Rattle.lrpar_table_items.proofs.kernels.Kernels.find.Goals as goal

pub returns-in_err-state : goal.returns-in_err-state
returns-in_err-state g c =
    let index = g.StorageT.StorageIndex.index in
    let kernels = c.args.self.now in
    let kernel = map (core_set index) c.args.kernel.now in
    subst (λ r. MatchOption r (IsFresh kernels kernel) (λ state. IsFound kernels kernel (index state.0))) (sym c.from_residual.ensures)
    (new_without index g.StorageT.Ord.cmp g.met.StorageT.StorageIndex.cmp_law c.args.kernel.now c.self.inside.numbers _ kernels c.self.view_is
    c.self.invariant c.in_err-state.ensures.value)

pub returns-in_err-found : goal.returns-in_err-found
returns-in_err-found g c =
    let index = g.StorageT.StorageIndex.index in
    let kernels = c.args.self.now in
    let kernel = map (core_set index) c.args.kernel.now in
    let count = length-map c.self.inside.kernels.items (λ row. map (core_set index) row.items) in
    let rows = ap (λ (rows : List (List CoreSet)). length rows) c.self.view_is in
    let past = c.in_err-found.ensures.lookup.3 in
    subst (λ r. MatchOption r (IsFresh kernels kernel) (λ state. IsFound kernels kernel (index state.0))) (sym c.from_residual-in_err-found.ensures)
    (new_beside index g.StorageT.Ord.cmp g.met.StorageT.StorageIndex.cmp_law c.args.kernel.now c.self.inside.numbers _ kernels c.self.view_is
    c.self.invariant c.in_ok-state.field-0.now c.in_ok-state.ensures.value
    (λ below. absurd (omega (arith, below, past, count, rows, c.deref.ensures.len, c.from-number.ensures))))

pub returns-else-are_same : goal.returns-else-are_same
returns-else-are_same g c =
    let index = g.StorageT.StorageIndex.index in
    let kernels = c.args.self.now in
    let cores = λ (row : Vec (CoreItems g.row.StorageT.Denot) Global). map (core_set index) row.items in
    let n = c.from-number.result in
    let found = c.in_ok-found.ensures.lookup in
    let rows : map cores c.deref.result.now ≡ kernels = ap (map cores) c.deref.ensures.value ∙ c.self.view_is in
    let here : kernel_at kernels (index c.in_ok-state.field-0.now.0) ≡ cores c.in_ok-found.found.now =
    sym (λ i. kernel_at (rows i) (c.from-number.ensures i)) ∙ mapped_at cores c.deref.result.now n c.in_ok-found.found.now [] found.3.0 found.1 in
    new_beside index g.StorageT.Ord.cmp g.met.StorageT.StorageIndex.cmp_law c.args.kernel.now c.self.inside.numbers _ kernels c.self.view_is
    c.self.invariant c.in_ok-state.field-0.now c.in_ok-state.ensures.value
    (λ below is.
    let same = c.are_same.ensures.1 (ap (map (core_set index)) c.deref-2.ensures.value ∙ sym here ∙ is) in
    false≢true (sym c.if-are_same.false ∙ same))
