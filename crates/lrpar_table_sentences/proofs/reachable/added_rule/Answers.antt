use Rattle.std.proofs.Common.{◌∙◌, arith, ap, false, true, replicate, set, Bool, List}
use Rattle.lrpar_grammar.specs.Grammar.{rule_of}
use Rattle.lrpar_table_sentences.proofs.ReachableLemmas.{added_marked}
use Rattle.lrpar_table_sentences.proofs.reachable.added_rule.Goals as goal

pub returns : goal.returns
returns g c =
    let grm = c.args.grm.now in
    let r = c.from.result in
    let zero_rule = c.from.ensures ∙ c.prod_to_rule-added.ensures.rule ∙ ap (rule_of grm) c.start_prod.ensures.number ∙ c.start_prod.ensures.well_formed.last_rule in
    let low = c.prod_to_rule-added.ensures.within in
    let none = c.in_ok-marks.ensures.items_if_clones_equal (λ y same. same) ∙ ap (λ n. replicate n false) c.rules_len.ensures.len in
    added_marked grm r _ zero_rule (omega (arith, low, c.from.ensures)) (ap (λ (xs : List Bool). set xs r true) none)
