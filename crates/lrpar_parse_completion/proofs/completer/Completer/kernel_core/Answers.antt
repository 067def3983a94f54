use Rattle.std.proofs.Common.{◌≡◌, ◌∙◌, ℕ, arith, inl, length, subst, sym}
use Rattle.std.proofs.lemmas.Bool.{eqb-false, eqb-true}
use Rattle.lrpar_table_conditions.proofs.CoreLemmas.{core_in_shape}
use Rattle.lrpar_parse_completion.specs.Opening.{IsKernelCore}
use Rattle.lrpar_parse_completion.proofs.OpenLemmas.{begun_is, begun_none, start_core}
use Rattle.lrpar_parse_completion.proofs.completer.Completer.kernel_core.Goals as goal

pub returns-then-is_empty : goal.returns-then-is_empty
returns-then-is_empty g c =
    let index = g.StorageT.StorageIndex.index in
    let d = c.args.self.now.data.now in
    let s = index c.args.state.0 in
    let cores = c.begun_cores-cores.result.now in
    let none : length cores ≡ 0 = eqb-true (length cores) 0 (sym c.is_empty.ensures ∙ c.if-is_empty.true) in
    let number = rw c.grm.ensures at c.start_prod.ensures.number in
    let all = rw c.sgraph.ensures at c.begun_cores-cores.ensures.all in
    record {
      prod = rw c.grm.ensures at c.start_prod.ensures.within;
      dot = omega arith;
      kernel = λ can.
          subst (λ (p : ℕ). IsKernelCore d.grammar d.graph s p 0) (sym number)
          (start_core d c.stable-lemma.ensures.checked can s c.requires (begun_none index d.graph s cores all none));
    }

pub returns : goal.returns
returns g c =
    let index = g.StorageT.StorageIndex.index in
    let d = c.args.self.now.data.now in
    let s = index c.args.state.0 in
    let cores = c.begun_cores-cores.result.now in
    let core = c.index-cores-0.result in
    let all = rw c.sgraph.ensures at c.begun_cores-cores.ensures.all in
    let some = eqb-false (length cores) 0 (sym c.is_empty.ensures ∙ c.if-is_empty.false) in
    let has = begun_is index d.graph s cores 0 core all (omega arith) c.index-cores-0.is in
    let shape = core_in_shape d.grammar d.graph d.table _ _ _ c.stable-lemma.ensures.checked.safe.shape has.0 in
    record { prod = shape.0; dot = shape.1; kernel = λ can. record { core = has.0; begun = inl has.1 } }
