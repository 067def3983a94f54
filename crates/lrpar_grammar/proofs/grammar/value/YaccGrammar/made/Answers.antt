use Rattle.std.proofs.Common.{◌≡◌, length, rules, arith}
use Rattle.lrpar_grammar.proofs.PartsLemmas.{kept_is_made, kept_parts, kept_well_formed, split_fits, split_rules_within}
use Rattle.lrpar_grammar.proofs.grammar.value.YaccGrammar.made.Goals as goal

pub split_prods-requires : goal.split_prods-requires
split_prods-requires g c = omega (arith, c.requires.storage.prods)

pub prods_by_rule-requires-clause-numbered : goal.prods_by_rule-requires-clause-numbered
prods_by_rule-requires-clause-numbered g c =
    rw c.deref-2.ensures.value
    (split_fits g.StorageT.StorageIndex.limit g.StorageT.StorageIndex.index c.args.parts c.in_ok-prods.prods.items c.requires (rw c.deref.ensures.value at c.in_ok-prods.ensures))

pub prods_by_rule-requires-clause-within : goal.prods_by_rule-requires-clause-within
prods_by_rule-requires-clause-within g c =
    let rules_are : c.len.result ≡ length c.args.parts.rules.items = search rules in
    rw (c.deref-2.ensures.value, rules_are)
    (split_rules_within g.StorageT.StorageIndex.limit g.StorageT.StorageIndex.index c.args.parts c.in_ok-prods.prods.items c.requires (rw c.deref.ensures.value at c.in_ok-prods.ensures))

pub invariant_of-result : goal.invariant_of-result
invariant_of-result g c =
    let rules_are : c.len.result ≡ length c.args.parts.rules.items = search rules in
    kept_parts g.StorageT.StorageIndex.limit g.StorageT.StorageIndex.index c.args.parts c.in_ok-prods.prods.items c.in_ok-rule_prods.rule_prods.items
    c.requires (rw c.deref.ensures.value at c.in_ok-prods.ensures) (rw (c.deref-2.ensures.value, rules_are) at c.in_ok-rule_prods.ensures)

pub returns-clause-made : goal.returns-clause-made
returns-clause-made g c =
    kept_is_made g.StorageT.StorageIndex.index c.args.parts c.in_ok-prods.prods.items (rw c.deref.ensures.value at c.in_ok-prods.ensures)

pub returns-clause-well_formed : goal.returns-clause-well_formed
returns-clause-well_formed g c =
    kept_well_formed g.StorageT.StorageIndex.limit g.StorageT.StorageIndex.index c.args.parts c.in_ok-prods.prods.items
    c.requires (rw c.deref.ensures.value at c.in_ok-prods.ensures)
