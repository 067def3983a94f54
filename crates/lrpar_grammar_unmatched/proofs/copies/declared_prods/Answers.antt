use Rattle.std.proofs.Common.{◌≡◌, Some, subst}
use Rattle.std.specs.List.{slice_get}
use Rattle.lrpar_grammar_reader.specs.Parts.{prod_of}
use Rattle.lrpar_grammar_unmatched.proofs.CopyLemmas.{copies_grow}
use Rattle.lrpar_grammar_unmatched.proofs.copies.declared_prods.Goals as goal

pub loop-number-preserved : goal.loop-number-preserved
loop-number-preserved g c =
    let index = g.StorageT.StorageIndex.index in
    let prods = c.args.grm.now.prods in
    let number = c.loop-number.number in
    let is : index c.unwrap.result ≡ number = rw c.unwrap.ensures at c.from_index.ensures.back in
    copies_grow (prod_of index) prods number c.loop-number.prods.items c.push.new.self.items c.in_ok-copied_prod.field-0
    c.loop-number.invariant c.in_ok-push.ensures.items
    (subst (λ n. slice_get prods n ≡ Some (prod_of index c.in_ok-copied_prod.field-0)) is c.in_ok-copied_prod.ensures)
