use Rattle.std.proofs.Common.{arith}
use Rattle.lrpar_grammar_reader.specs.Grammar.{added_prod}
use Rattle.lrpar_grammar.specs.Kept.{split_prod_of}
use Rattle.lrpar_grammar_reader.specs.Parts.{prod_of}
use Rattle.lrpar_grammar_places.proofs.ListLemmas.{follows_more, follows_all}
use Rattle.lrpar_grammar.proofs.grammar.prods.split_prods.Goals as goal

pub loop-part-preserved : goal.loop-part-preserved
loop-part-preserved g c =
    let index = g.StorageT.StorageIndex.index in
    follows_more (split_prod_of index) (prod_of index) c.args.parts.now c.loop-part.part-index c.part-item.result
    c.loop-part.prods.items c.push.new.self.items c.in_ok-split_prod.field-0
    (omega arith) c.part-item.is c.loop-part.invariant c.in_ok-push.ensures.items c.in_ok-split_prod.ensures

pub returns : goal.returns
returns g c =
    let index = g.StorageT.StorageIndex.index in
    follows_all (split_prod_of index) (prod_of index) c.args.parts.now c.loop-part.part-index
    c.loop-part.prods.items c.push-2.new.self.items c.in_ok-added.field-0 (added_prod (index c.args.start.0))
    (omega arith) c.loop-part.invariant c.in_ok-push-2.ensures.items c.in_ok-added.ensures
