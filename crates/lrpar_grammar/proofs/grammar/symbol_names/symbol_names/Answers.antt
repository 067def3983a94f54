use Rattle.std.proofs.Common.{◌++◌, ◌∷◌, [], append_assoc, map, take, ap, sym, ◌∙◌}
use Rattle.std.proofs.lemmas.List.{append-nil, map-append, take_all}
use Rattle.lrpar_grammar_places.proofs.ListLemmas.{map-take_more}
use Rattle.lrpar_grammar.proofs.grammar.symbol_names.symbol_names.Goals as goal

pub loop-name-init : goal.loop-name-init
loop-name-init g c = c.in_ok-names.ensures ∙ sym (append-nil (map (λ rule. rule.name) c.args.grm.now.rules))

pub loop-name-preserved : goal.loop-name-preserved
loop-name-preserved g c =
    let rules = map (λ rule. rule.name) c.args.grm.now.rules in
    let items = c.deref-name-items.result.now in
    let i = c.loop-name.name-index in
    let item = c.loop-name-item.result in
    ap (map (λ x. x.now)) c.in_ok-push.ensures.items ∙ map-append (λ x. x.now) c.loop-name.names.items (item.0 ∷ []) ∙ ap (λ s. s ++ item.0.now ∷ []) c.loop-name.invariant
    ∙ append_assoc rules (map (λ pair. pair.0.now) (take i items)) (item.0.now ∷ [])
    ∙ ap (λ s. rules ++ s) (sym (map-take_more (λ pair. pair.0.now) items i item c.loop-name-test.true c.loop-name-item.is))

pub returns : goal.returns
returns g c =
    let rules = map (λ rule. rule.name) c.args.grm.now.rules in
    let items = c.deref-name-items.result.now in
    c.loop-name.invariant ∙ ap (λ s. rules ++ map (λ pair. pair.0.now) s) (take_all c.loop-name.name-index items c.loop-name-test.false ∙ c.deref-name-items.ensures.value)
    ∙ ap (λ s. rules ++ s) c.in_ok-tokens.ensures.names
