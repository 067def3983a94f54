use Rattle.std.proofs.Common.{◌≡◌, ◌<◌, ◌∙◌, sym, subst, ap, arith, length, map}
use Rattle.std.proofs.lemmas.Bool.{OnFalse_at, OnFalse_from, OnTrue_at, OnTrue_from}
use Rattle.lrpar_table_items.specs.Cores.{core_set}
use Rattle.lrpar_table_items.specs.Next.{kernel_rows}
use Rattle.lrpar_table_merge.specs.Compatible.{HaveSameCores}
use Rattle.lrpar_table_merge.specs.United.{rooms_of}
use Rattle.lrpar_table_merge.proofs.PassLemmas.{beginnings_value, fewer_kernels, kernel_value, passed_value, rooms_at, rows_len, same_kernels}
use Rattle.lrpar_table_merge.proofs.held.pass_to.Goals as goal

pub unite_kernel-requires : goal.unite_kernel-requires
unite_kernel-requires g c =
    let index = g.StorageT.StorageIndex.index in
    let kernels = c.args.kernels.now in
    let next = map (core_set index) c.args.next.now in
    let low : c.args.state < length kernels = omega (arith, c.if-state-kernels.false) in
    let own = kernel_value index kernels c.args.state c.index-kernels-state-2.result low in
    let same = subst (λ kernel. HaveSameCores kernel next)
    (ap (map (core_set index)) c.deref.ensures.value ∙ sym (kernel_value index kernels c.args.state c.index-kernels-state.result low))
    (c.have_same_cores.ensures.0 c.if-not-have_same_cores.false) in
    let rooms = rooms_at (kernel_rows index kernels) c.args.state next (omega (arith, low, rows_len index kernels)) same c.requires.known.0
    c.requires.known.1 c.requires.known.2 in record {
      same = subst (λ kernel. HaveSameCores kernel next) own same;
      room = subst (λ kernel. rooms_of kernel ≡ rooms_of next) own rooms;
    }

pub returns : goal.returns
returns g c =
    let index = g.StorageT.StorageIndex.index in
    let kernels = c.args.kernels.now in
    let next = map (core_set index) c.args.next.now in
    let state = c.args.state in
    let new = c.unite_kernel.new.kernel in
    let d = c.index-kernels-state-2.result in
    let low : state < length kernels = omega (arith, c.if-state-kernels.false) in
    let same = subst (λ kernel. HaveSameCores kernel next)
    (ap (map (core_set index)) c.deref.ensures.value ∙ sym (kernel_value index kernels state c.index-kernels-state.result low))
    (c.have_same_cores.ensures.0 c.if-not-have_same_cores.false) in
    let one = c.unite_kernel.ensures in record {
      passed = passed_value index kernels state d new next low same one.united;
      kernels = λ grm. beginnings_value index kernels state d new next low same one.united grm;
      grown = OnTrue_from c.unite_kernel.result _ (λ e. fewer_kernels index kernels state d new next low (OnTrue_at e one.grown));
      same = OnFalse_from c.unite_kernel.result _ (λ e. same_kernels index kernels state d new next low (OnFalse_at e one.same));
      misfit = tt;
    }
