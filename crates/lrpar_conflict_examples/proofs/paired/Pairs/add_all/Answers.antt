use Rattle.std.proofs.Common.{◌∙◌, refl}
use Rattle.lrpar_conflict_examples.specs.Pairs.{pairs_in}
use Rattle.lrpar_conflict_examples.proofs.PairLemmas.{added_all, added_more, added_none}
use Rattle.lrpar_conflict_examples.proofs.paired.Pairs.add_all.Goals as goal

pub loop-pair-init : goal.loop-pair-init
loop-pair-init c = (refl, added_none c.args.pairs.now (pairs_in c.args.self.now))

pub loop-pair-preserved : goal.loop-pair-preserved
loop-pair-preserved c = (
  c.in_ok-add.ensures.len ∙ c.loop-pair.invariant.0,
  added_more c.args.pairs.now c.loop-pair.pair-index (pairs_in c.args.self.now) (pairs_in c.loop-pair.self) (pairs_in c.add.new.self) c.loop-pair-test.true
      c.loop-pair.invariant.1 c.in_ok-add.ensures.added,
)

pub returns-clause-added : goal.returns-clause-added
returns-clause-added c =
    added_all c.args.pairs.now c.loop-pair.pair-index (pairs_in c.args.self.now) (pairs_in c.loop-pair.self) c.loop-pair-test.false c.loop-pair.invariant.1
