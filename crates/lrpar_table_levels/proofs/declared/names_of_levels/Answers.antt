use Rattle.std.proofs.Common.{map, refl, subst}
use Rattle.std.specs.List.{flat_map, range_with_len}
use Rattle.lrpar_grammar_yacc.specs.Declares.{level_of}
use Rattle.lrpar_table_levels.specs.ByName.{HasPrecedences, names_at}
use Rattle.lrpar_table_levels.proofs.NameLemmas.{level_more}
use Rattle.lrpar_table_levels.proofs.declared.names_of_levels.Goals as goal

pub loop-number-preserved : goal.loop-number-preserved
loop-number-preserved c =
    let levels = c.args.levels.now in
    let n = c.loop-number.number in
    let level = c.index-levels-number.result in
    subst (HasPrecedences c.add_names.new.names)
    (level_more levels n level (record { level = n; kind = level.kind }) c.deref.result.now
    c.loop-number-test.true c.index-levels-number.is refl c.deref.ensures.value)
    (c.in_ok-add_names.ensures (flat_map (names_at (map level_of levels)) (range_with_len 0 n)) c.loop-number.invariant)
