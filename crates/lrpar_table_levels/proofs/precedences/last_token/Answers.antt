use Rattle.lrpar_table_levels.proofs.LevelLemmas.{last_at_rule, last_at_token}
use Rattle.lrpar_table_levels.proofs.precedences.last_token.Goals as goal
use Rattle.lrpar_table_levels.proofs.precedences.last_token.Goals.{in-Token, in-Rule}

pub loop-symbol-preserved : goal.loop-symbol-preserved
loop-symbol-preserved g c =
    let index = g.StorageT.StorageIndex.index in
    elim c.match-symbol.branch [
      | in-Token w ↦
          last_at_token index c.args.symbols.now c.loop-symbol.symbol-index c.symbol-item.result c.loop-symbol-test.true c.symbol-item.is w.in-Token.token
          c.match-symbol.last w.in-Token.is w.last-is
      | in-Rule w ↦
          last_at_rule index c.args.symbols.now c.loop-symbol.symbol-index c.symbol-item.result c.loop-symbol-test.true c.symbol-item.is w.in-Rule.field-0
          c.match-symbol.last c.loop-symbol.last w.in-Rule.is w.last-is c.loop-symbol.invariant
    ]
