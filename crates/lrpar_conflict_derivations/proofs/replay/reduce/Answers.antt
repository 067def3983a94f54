use Rattle.std.proofs.Common.{◌-◌, ◌∙◌, refl, sym, ap, length, map, take, drop}
use Rattle.lrpar_grammar.specs.Symbols.{symbol_of}
use Rattle.lrpar_grammar_places.specs.declared.span.Symbol.TheVariants.{Rule}
use Rattle.lrpar_conflict_derivations.proofs.ReplayLemmas.{made_rule}
use Rattle.lrpar_conflict_derivations.proofs.replay.reduce.Goals as goal

pub returns : goal.returns
returns g c =
    let index = g.StorageT.StorageIndex.index in
    let stack = c.args.stack.now.items in
    let from = c.len-2.result - length c.prod-symbols.result.now in
    let same = ap (λ xs. map (symbol_of index) (take (length xs - from) (drop from xs))) (sym c.deref.ensures.value) ∙ c.are_same.ensures c.if-not-are_same.false
    ∙ c.prod-symbols.ensures in
    λ yes.
    made_rule index c.args.grm.now (index c.args.prod.0) from stack c.truncate.new.self.items c.push.new.self.items (Rule c.prod_to_rule.result) (index c.prod_to_rule.result.0)
    c.requires same c.truncate.ensures.items c.in_ok-push.ensures.items refl c.prod_to_rule.ensures.rule
