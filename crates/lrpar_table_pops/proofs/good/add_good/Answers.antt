use Rattle.std.proofs.Common.{inl, inr, subst}
use Rattle.lrpar_table_pops.specs.Good.{GoesOn}
use Rattle.lrpar_table_pops.proofs.GoodAllLemmas.{good_grows}
use Rattle.lrpar_table_pops.proofs.good.add_good.Goals as goal

pub returns-in-Some-clause-good : goal.returns-in-Some-clause-good
returns-in-Some-clause-good g c = λ r h.
    elim (c.unite.ensures.adds r h) [
      | inl was ↦ inl was
      | inr leaves ↦
          inr (subst (GoesOn c.args.grm.now c.args.good.now c.args.reduced.now) leaves.2 (c.in-Some.ensures.good leaves.0 leaves.1))
    ]

pub returns-in-Some-clause-all : goal.returns-in-Some-clause-all
returns-in-Some-clause-all g c =
    good_grows c.args.grm.now c.args.good.now c.args.reduced.now c.args.above.now c.args.place c.get.result.now c.in-Some.tokens.now c.unite.new.self c.get.ensures.at
    c.in-Some.ensures.all c.unite.ensures.all
