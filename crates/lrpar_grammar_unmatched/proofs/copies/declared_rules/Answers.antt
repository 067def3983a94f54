use Rattle.std.proofs.Common.{◌≡◌, Some, subst}
use Rattle.std.specs.List.{slice_get}
use Rattle.lrpar_grammar_reader.specs.Parts.{rule_name_of}
use Rattle.lrpar_grammar_unmatched.proofs.CopyLemmas.{later_copies_grow}
use Rattle.lrpar_grammar_unmatched.proofs.copies.declared_rules.Goals as goal

pub loop-number-preserved : goal.loop-number-preserved
loop-number-preserved g c =
    let rules = c.args.grm.now.rules in
    let number = c.loop-number.number in
    let is : g.StorageT.StorageIndex.index c.unwrap.result ≡ number = rw c.unwrap.ensures at c.from_index.ensures.back in
    later_copies_grow rule_name_of rules number c.loop-number.rules.items c.push.new.self.items c.in_ok-copied_rule.field-0
    c.loop-number.auto.number c.loop-number.invariant c.in_ok-push.ensures.items
    (subst (λ n. slice_get rules n ≡ Some (rule_name_of c.in_ok-copied_rule.field-0)) is c.in_ok-copied_rule.ensures)
