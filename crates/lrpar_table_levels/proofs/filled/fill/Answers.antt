use Rattle.std.proofs.Common.{◌<◌, ◌∙◌, sym, arith, length, slice_index_or}
use Rattle.lrpar_table_precedence.specs.declared.precedence.AssocKind.TheVariants.{Left}
use Rattle.lrpar_table_levels.proofs.FilledLemmas.{fill_next, fill_twice}
use Rattle.lrpar_table_levels.proofs.filled.fill.Goals as goal

pub returns-then-is_some-clause-twice : goal.returns-then-is_some-clause-twice
returns-then-is_some-clause-twice c =
    fill_twice c.args.entries.now c.loop-entry.entry-index (0, record { level = 0; kind = Left }) c.loop-entry.slots c.loop-entry-test.true
    c.loop-entry.invariant (sym c.is_some.ensures ∙ c.if-is_some.true)

pub loop-entry-preserved : goal.loop-entry-preserved
loop-entry-preserved c =
    let i = c.loop-entry.entry-index in
    let e = slice_index_or c.args.entries.now i (0, record { level = 0; kind = Left }) in
    let old : e.0 < length c.args.slots.now = c.requires.within i (0, record { level = 0; kind = Left }) c.loop-entry-test.true in
    let below : e.0 < length c.loop-entry.slots = omega (arith, old, c.loop-entry.auto.slots) in
    fill_next c.args.entries.now i (0, record { level = 0; kind = Left }) c.loop-entry.slots c.loop-entry-test.true c.loop-entry.invariant below
    (sym c.is_some.ensures ∙ c.if-is_some.false)
