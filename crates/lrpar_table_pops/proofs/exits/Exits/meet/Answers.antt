use Rattle.std.proofs.Common.{◌≡◌, true, false, arith, inl, inr, List, subst, sym, ◌∙◌}
use Rattle.std.specs.Prelude.{IsTrue}
use Rattle.std.proofs.lemmas.List.{take_all}
use Rattle.lrpar_table_pops.specs.Growth.{HasLookahead, SomeHasLookahead}
use Rattle.lrpar_table_pops.specs.declared.exits.Exit.{Exit}
use Rattle.lrpar_table_pops.specs.declared.exits.Way.{Way}
use Rattle.lrpar_table_pops.proofs.GrowthLemmas.{none_has, some_more}
use Rattle.lrpar_table_pops.proofs.exits.Exits.meet.Goals as goal

pub loop-place-init : goal.loop-place-init
loop-place-init c = λ way t h _. none_has c.args.self.now way t h

pub loop-place-preserved : goal.loop-place-preserved
loop-place-preserved c = λ way t h other.
    elim (some_more c.args.self.now c.loop-place.place c.get.result.now way t c.get.ensures.at h) as (λ _. ⊥) [
      | inl before ↦ c.loop-place.invariant way t before other
      | inr here ↦
          let met : IsTrue c.meets.result = c.meets.ensures.all t (subst (λ (w : Way). HasLookahead c.args.others.now w t) (sym here.0) other) here.1 in
          let no : true ≡ false = sym met ∙ c.if-meets.false in absurd (let none : ⊥ = cc in none)
    ]

pub returns-clause-all : goal.returns-clause-all
returns-clause-all c = λ way t h other.
    let whole = take_all c.loop-place.place c.args.self.now (omega (arith, c.len-place-end.ensures, c.loop-place-test.false)) in
    absurd (c.loop-place.invariant way t (subst (λ (l : List Exit). SomeHasLookahead l way t) (sym whole) h) other)
