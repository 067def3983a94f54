use Rattle.std.proofs.Common.{◌∙◌, sym, ap}
use Rattle.lrpar_table_levels.proofs.LevelLemmas.{entries_more}
use Rattle.lrpar_table_levels.proofs.levels.entries_of_tokens.Goals as goal

pub loop-number-preserved : goal.loop-number-preserved
loop-number-preserved g c =
    entries_more g.StorageT.StorageIndex.index c.args.levels.now c.loop-number.number c.index-levels-number.result c.precedence_of-precedence.result
    c.deref.result.now c.loop-number.entries.items c.push_tokens.new.entries.items c.loop-number-test.true c.index-levels-number.is
    c.precedence_of-precedence.ensures
    (c.deref.ensures.value ∙ ap (λ l. l.tokens.items) (sym c.index-levels-number.is)) c.loop-number.invariant c.in_ok-push_tokens.ensures
