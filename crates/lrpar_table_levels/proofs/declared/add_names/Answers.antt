use Rattle.std.proofs.Common.{Some, sym, ◌∙◌}
use Rattle.std.proofs.lemmas.Map.Text.{btree_map_updates_str}
use Rattle.lrpar_table_levels.proofs.NameLemmas.{word_kept, word_put}
use Rattle.lrpar_table_levels.proofs.declared.add_names.Goals as goal
use Rattle.lrpar_table_levels.proofs.declared.add_names.Goals.{then-not-contains_key+in_ok-insert, else-not-contains_key}

pub loop-word-preserved : goal.loop-word-preserved
loop-word-preserved c = λ entries has.
    let words = c.args.words.now in
    let i = c.loop-word.word-index in
    let x = c.args.precedence in
    let m = c.loop-word.names in
    let all = c.if-not-contains_key.names in
    elim c.if-not-contains_key.branch [
      | then-not-contains_key+in_ok-insert w ↦
          word_put words i _ x entries m all c.loop-word-test.true (c.loop-word.invariant entries has) w.insert.new.self w.names-is
          (sym c.contains_key.ensures ∙ w.if-not-contains_key.true)
          (btree_map_updates_str _ m w.insert.new.self (Some x) w.in_ok-insert.ensures.updates)
      | else-not-contains_key w ↦
          word_kept words i _ x entries m all c.loop-word-test.true (c.loop-word.invariant entries has) w.names-is
          (sym c.contains_key.ensures ∙ w.if-not-contains_key.false)
    ]
