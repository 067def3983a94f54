use Rattle.std.proofs.Common.{◌≡◌, ◌+◌, ◌||◌, [], ◌∷◌, ◌++◌, take, sym, subst, ◌∙◌, ap}
use Rattle.std.proofs.lemmas.Bool.{false≢true}
use Rattle.std.proofs.lemmas.List.{map-append, map_more}
use Rattle.lrpar_grammar.specs.Tokens.{CoversAll, has}
use Rattle.lrpar_names.specs.Choosing.{AreChosen, rule_numbers}
use Rattle.lrpar_names.proofs.ChosenLemmas.{chosen_with, chosen_without}
use Rattle.lrpar_names.proofs.choosing.choose_rules.Goals as goal

pub order-preserved-in_default : goal.order-preserved-in_default
order-preserved-in_default g c =
    let index = g.StorageT.StorageIndex.index in
    let so_far = rule_numbers index (take c.order.rule-index c.args.order.now) in
    let rules = rule_numbers index c.order.rules.items in
    let rule = c.rule-item.result in
    let step : rule_numbers index (take (c.order.rule-index + 1) c.args.order.now) ≡ so_far ++ index rule.0 ∷ [] =
    map_more (λ r. index r.0) c.args.order.now c.order.rule-index rule c.order-test.true ∙ ap (λ r. so_far ++ index r.0 ∷ []) (sym c.rule-item.is) in
    record {
      room = c.order.invariant.room;
      chosen = subst (λ ns. AreChosen c.args.sets.now c.args.names.now c.args.wanted.now ns rules c.order.covered) (sym step)
          (chosen_without c.args.sets.now c.args.names.now c.args.wanted.now so_far rules c.order.covered (index rule.0)
          (λ can. absurd (c.in_default.ensures can)) c.order.invariant.chosen);
    }

pub order-preserved-then-covers : goal.order-preserved-then-covers
order-preserved-then-covers g c =
    let index = g.StorageT.StorageIndex.index in
    let so_far = rule_numbers index (take c.order.rule-index c.args.order.now) in
    let rules = rule_numbers index c.order.rules.items in
    let rule = c.rule-item.result in
    let step : rule_numbers index (take (c.order.rule-index + 1) c.args.order.now) ≡ so_far ++ index rule.0 ∷ [] =
    map_more (λ r. index r.0) c.args.order.now c.order.rule-index rule c.order-test.true ∙ ap (λ r. so_far ++ index r.0 ∷ []) (sym c.rule-item.is) in
    record {
      room = c.order.invariant.room;
      chosen = subst (λ ns. AreChosen c.args.sets.now c.args.names.now c.args.wanted.now ns rules c.order.covered) (sym step)
          (chosen_without c.args.sets.now c.args.names.now c.args.wanted.now so_far rules c.order.covered (index rule.0)
          (λ can. subst (CoversAll c.order.covered) c.in-Some.ensures.1 (c.covers.ensures.0 c.if-covers.true)) c.order.invariant.chosen);
    }

pub order-preserved : goal.order-preserved
order-preserved g c =
    let index = g.StorageT.StorageIndex.index in
    let so_far = rule_numbers index (take c.order.rule-index c.args.order.now) in
    let rules = rule_numbers index c.order.rules.items in
    let rule = c.rule-item.result in
    let step : rule_numbers index (take (c.order.rule-index + 1) c.args.order.now) ≡ so_far ++ index rule.0 ∷ [] =
    map_more (λ r. index r.0) c.args.order.now c.order.rule-index rule c.order-test.true ∙ ap (λ r. so_far ++ index r.0 ∷ []) (sym c.rule-item.is) in
    let more : rule_numbers index c.push.new.self.items ≡ rules ++ index rule.0 ∷ [] =
    ap (rule_numbers index) c.in_ok-push.ensures.items ∙ map-append (λ r. index r.0) c.order.rules.items (rule ∷ []) in
    record {
      room = c.add_all.ensures.room ∙ c.order.invariant.room;
      chosen = subst (λ ns. AreChosen c.args.sets.now c.args.names.now c.args.wanted.now ns (rule_numbers index c.push.new.self.items) c.add_all.new.covered)
          (sym step)
          (subst (λ rs. AreChosen c.args.sets.now c.args.names.now c.args.wanted.now (so_far ++ index rule.0 ∷ []) rs c.add_all.new.covered) (sym more)
          (chosen_with c.args.sets.now c.args.names.now c.args.wanted.now so_far rules c.order.covered c.add_all.new.covered (index rule.0) c.in-Some.ensures.2
          (λ all. false≢true (sym c.if-covers.false ∙ c.covers.ensures.1 (subst (CoversAll c.order.covered) (sym c.in-Some.ensures.1) all)))
          (λ t. c.add_all.ensures.tokens t ∙ ap (λ row. has c.order.covered t || has row t) c.in-Some.ensures.1) c.order.invariant.chosen));
    }
