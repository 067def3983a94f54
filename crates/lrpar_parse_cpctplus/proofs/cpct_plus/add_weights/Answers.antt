use Rattle.std.proofs.Common.{inl, inr, ℕ, List, get_or, subst, sym}
use Rattle.std.specs.List.{Contains}
use Rattle.std.proofs.lemmas.List.{get_or_default, take_all}
use Rattle.lrpar_parse_cpctplus.proofs.NumberLemmas.{take_cases}
use Rattle.lrpar_parse_cpctplus.proofs.cpct_plus.add_weights.Goals as goal

pub loop-cost-preserved : goal.loop-cost-preserved
loop-cost-preserved c =
    let costs = c.args.costs.now in
    let l = c.loop-cost in
    let x = get_or costs l.cost-index 0 in
    let added = c.in_ok-add_weight.ensures in
    record {
      once = added.once;
      stay = λ w h. added.stay w (l.invariant.stay w h);
      added = λ w h.
          elim (take_cases costs l.cost-index x w c.loop-cost-test.true (get_or_default costs l.cost-index 0 x c.loop-cost-test.true) h)
          as (λ _. Contains c.add_weight.new.weights.items w) [
            | inl before ↦ added.stay w (l.invariant.added w before)
            | inr same ↦ subst (Contains c.add_weight.new.weights.items) same added.added
          ];
    }

pub returns-clause-added : goal.returns-clause-added
returns-clause-added c = λ w h.
    let costs = c.args.costs.now in
    let l = c.loop-cost in
    l.invariant.added w (subst (λ (xs : List ℕ). Contains xs w) (sym (take_all l.cost-index costs c.loop-cost-test.false)) h)
