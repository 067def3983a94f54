use Rattle.std.proofs.Common.{◌≡◌, [], refl, subst, arith}
use Rattle.lrpar_grammar.specs.Kept.{AreRowsOf}
use Rattle.lrpar_grammar.proofs.RowsLemmas.{AreRowsOf-more}
use Rattle.lrpar_grammar.proofs.grammar.prods.empty_rows.Goals as goal

pub loop-init : goal.loop-init
loop-init g c = rw c.in_ok-rows.ensures.items (record { len = refl; each = λ r d within. absurd (omega (arith, within)) })

pub loop-preserved : goal.loop-preserved
loop-preserved g c =
    rw c.in_ok-push.ensures.items
    (AreRowsOf-more g.StorageT.StorageIndex.index c.loop.counter c.loop.rows.items c.new.result c.loop.invariant c.new.ensures.items)

pub returns : goal.returns
returns g c =
    let all : c.loop.counter ≡ c.args.rules = omega arith in
    subst (λ n. AreRowsOf g.StorageT.StorageIndex.index n [] c.loop.rows.items) all c.loop.invariant
