use Rattle.std.proofs.Common.{◌≡◌, ◌∙◌, List, [], ◌∷◌, ℕ, ap, refl, subst, sym}
use Rattle.std.specs.List.{Contains}
use Rattle.lrpar_parse_cpctplus.specs.Listing.{Settings}
use Rattle.lrpar_parse_cpctplus.specs.SearchRound.{AreWeights}
use Rattle.lrpar_parse_cpctplus.proofs.AddLemmas.{weights_are}
use Rattle.lrpar_parse_cpctplus.proofs.NumberLemmas.{contains_at, contains_none, once_single}
use Rattle.lrpar_parse_cpctplus.proofs.cpct_plus.CpctPlus.weights.Goals as goal

pub returns-in-None : goal.returns-in-None
returns-in-None c =
    let view = rw c.in-None.is at c.self.view_is in
    let same : c.args.self.now.costs ≡ [] = ap (λ (t : Settings). t.costs) (sym view) in
    let one : c.push.new.self.items ≡ 1 ∷ [] = rw c.new-weights.ensures.items at c.in_ok-push.ensures.items in
    let here = weights_are [] (1 ∷ []) (once_single 1) (contains_at (1 ∷ []) 0 1 refl) (λ w h. absurd (contains_none w h)) in
    subst (λ (costs : List ℕ). AreWeights costs c.push.new.self.items) (sym same) (subst (AreWeights []) (sym one) here)

pub returns-in_ok-add_weights-in-Some : goal.returns-in_ok-add_weights-in-Some
returns-in_ok-add_weights-in-Some c =
    let view = rw c.in-Some.is at c.self.view_is in
    let same : c.args.self.now.costs ≡ c.deref.result.now = ap (λ (t : Settings). t.costs) (sym view) ∙ sym c.deref.ensures.value in
    let one : c.push.new.self.items ≡ 1 ∷ [] = rw c.new-weights.ensures.items at c.in_ok-push.ensures.items in
    let added = c.in_ok-add_weights-in-Some.ensures in
    let here = subst (λ (xs : List ℕ). Contains xs 1) (sym one) (contains_at (1 ∷ []) 0 1 refl) in
    subst (λ (costs : List ℕ). AreWeights costs c.add_weights.new.weights.items) (sym same)
    (weights_are c.deref.result.now c.add_weights.new.weights.items added.once (added.stay 1 here) added.added)
