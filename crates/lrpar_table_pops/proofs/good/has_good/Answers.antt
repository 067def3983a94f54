use Rattle.std.proofs.lemmas.Bool.{OnTrue_at}
use Rattle.std.proofs.Common.{◌≡◌, ◌∙◌, arith, false, inl, inr, List, subst, sym, true}
use Rattle.std.specs.Prelude.{IsTrue}
use Rattle.std.proofs.lemmas.List.{take_all}
use Rattle.lrpar_table_pops.specs.AllGood.{IsGoodExit}
use Rattle.lrpar_table_pops.specs.Growth.{SomeHasLookahead}
use Rattle.lrpar_table_pops.specs.declared.exits.Exit.{Exit}
use Rattle.lrpar_table_pops.specs.declared.exits.Way.{Way}
use Rattle.lrpar_table_pops.proofs.GrowthLemmas.{none_has, some_more}
use Rattle.lrpar_table_pops.proofs.good.has_good.Goals as goal

pub returns-then-is_good-clause-good : goal.returns-then-is_good-clause-good
returns-then-is_good-clause-good g c =
    let some = OnTrue_at c.if-is_good.true c.is_good.ensures.good in
    (some.0, (c.get.result.now, c.get.ensures.member, some.1), some.2)

pub loop-place-init : goal.loop-place-init
loop-place-init g c = λ way t h _. none_has c.args.above.now way t h

pub loop-place-preserved : goal.loop-place-preserved
loop-place-preserved g c = λ way t h taken.
    elim (some_more c.args.above.now c.loop-place.place c.get.result.now way t c.get.ensures.at h) as (λ _. ⊥) [
      | inl before ↦ c.loop-place.invariant way t before taken
      | inr here ↦
          let met : IsTrue c.is_good.result =
          c.is_good.ensures.all t here.1 (subst (λ (w : Way). IsGoodExit c.args.grm.now c.args.good.now c.args.reduced.now w t) (sym here.0) taken) in
          let no : true ≡ false = sym met ∙ c.if-is_good.false in absurd (let none : ⊥ = cc in none)
    ]

pub returns-clause-all : goal.returns-clause-all
returns-clause-all g c = λ way t h taken.
    let whole = take_all c.loop-place.place c.args.above.now (omega (arith, c.len-place-end.ensures, c.loop-place-test.false)) in
    absurd (c.loop-place.invariant way t (subst (λ (l : List Exit). SomeHasLookahead l way t) (sym whole) h) taken)
