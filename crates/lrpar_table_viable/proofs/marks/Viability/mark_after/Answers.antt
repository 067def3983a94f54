use Rattle.std.proofs.Common.{◌∙◌, sym}
use Rattle.lrpar_table_viable.proofs.MarkLemmas.{justified_by, one_marked}
use Rattle.lrpar_table_viable.proofs.marks.Viability.mark_after.Goals as goal

pub is_by_marks-requires-clause-prod : goal.is_by_marks-requires-clause-prod
is_by_marks-requires-clause-prod g c =
    let index = g.StorageT.StorageIndex.index in
    (c.requires.sound.shape.items (index c.args.s.0) (index c.args.pidx.0) c.args.dot c.requires.core.0 c.requires.core.1).prod

pub rule_after-requires-clause-prod : goal.rule_after-requires-clause-prod
rule_after-requires-clause-prod g c =
    let index = g.StorageT.StorageIndex.index in
    (c.requires.sound.shape.items (index c.args.s.0) (index c.args.pidx.0) c.args.dot c.requires.core.0 c.requires.core.1).prod

pub rule_after-requires-clause-dot : goal.rule_after-requires-clause-dot
rule_after-requires-clause-dot g c =
    let index = g.StorageT.StorageIndex.index in
    (c.requires.sound.shape.items (index c.args.s.0) (index c.args.pidx.0) c.args.dot c.requires.core.0 c.requires.core.1).dot

pub returns-in-Some-clause-marks : goal.returns-in-Some-clause-marks
returns-in-Some-clause-marks g c =
    let index = g.StorageT.StorageIndex.index in
    let grm = c.args.self.now.grm.now in
    let graph = c.args.self.now.sgraph.now in
    let table = c.args.self.now.stable.now in
    let s = index c.args.s.0 in
    let p = index c.args.pidx.0 in
    let known = c.requires.sound.shape.items in
    let justified =
    justified_by grm graph table s c.args.marks.now c.requires.marks p c.args.dot (known s p c.args.dot c.requires.core.0 c.requires.core.1).prod c.requires.core
    (sym c.is_by_marks.ensures ∙ c.if-not-is_by_marks.false) in
    one_marked grm graph table s c.args.marks.now c.mark.new.marks (index c.in-Some.rule.0) c.requires.marks c.mark.ensures.room
    (record { prod = p; dot = c.args.dot; rest = _; justified = justified; before = c.in-Some.ensures.rule }) c.mark.ensures.others
