use Rattle.std.proofs.Common.{◌∙◌}
use Rattle.lrpar_table_levels.specs.ByName.{precedence_in}
use Rattle.lrpar_table_levels.proofs.NameLemmas.{name_slots}
use Rattle.lrpar_table_levels.proofs.declared.tokens_by_name.Goals as goal

pub loop-name-preserved : goal.loop-name-preserved
loop-name-preserved g c =
    name_slots (λ pair. pair.0.now) (precedence_in c.args.names.now) c.deref-name-items.result.now c.loop-name.name-index c.loop-name-item.result
    c.loop-name.tokens.items c.push.new.self.items c.copied.result c.loop-name-test.true c.loop-name-item.is (c.copied.ensures ∙ c.get.ensures.value) c.loop-name.invariant c.in_ok-push.ensures.items
