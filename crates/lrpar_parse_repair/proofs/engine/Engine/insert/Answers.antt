use Rattle.std.proofs.Common.{◌≡◌, ◌<◌, ◌≤◌, arith}
use Rattle.lrpar_grammar.specs.Grammar.{end_token}
use Rattle.lrpar_parse_repair.proofs.EngineLemmas.{unmoved}
use Rattle.lrpar_parse_repair.proofs.SequenceLemmas.{insert_done, insert_refused}
use Rattle.lrpar_parse_repair.proofs.engine.Engine.insert.Goals as goal

pub returns-then-from-clause-taken : goal.returns-then-from-clause-taken
returns-then-from-clause-taken g c =
    let index = g.StorageT.StorageIndex.index in
    let d = c.args.self.now.checked.now in
    let end : index c.eof_token_idx-end.result.0 ≡ end_token d.grammar = rw c.grm.ensures at c.eof_token_idx-end.ensures in
    let past : end_token d.grammar ≤ index c.args.token.0 = omega (arith, end, c.from.ensures, c.from-2.ensures, c.if-from.true) in
    insert_refused (λ (x : g.row.LexemeT.Denot). index (g.LexemeT.Lexeme.parts x).token) d.grammar d.table c.args.self.now.lexemes.now _ _ _ (g.S.StateStack.states c.args.stack.now) past

pub returns-then-from-clause-moved : goal.returns-then-from-clause-moved
returns-then-from-clause-moved g c =
    let d = c.args.self.now.checked.now in
    let kind = g.S.StateStack in
    unmoved kind.states kind.reduces g.S.ShiftStack.shifts d.grammar d.table d.cap 1 c.args.stack.now

pub returns-clause-taken : goal.returns-clause-taken
returns-clause-taken g c =
    let index = g.StorageT.StorageIndex.index in
    let d = c.args.self.now.checked.now in
    let end : index c.eof_token_idx-end.result.0 ≡ end_token d.grammar = rw c.grm.ensures at c.eof_token_idx-end.ensures in
    let below : index c.args.token.0 < end_token d.grammar = omega (arith, end, c.from.ensures, c.from-2.ensures, c.if-from.false) in
    rw c.then_some.ensures
    (insert_done (λ (x : g.row.LexemeT.Denot). index (g.LexemeT.Lexeme.parts x).token) d.grammar d.table c.args.self.now.lexemes.now
    (g.S.StateStack.states c.args.stack.now) c.args.place (index c.args.token.0) (g.S.StateStack.states c.feed.new.stack) c.in_ok-fed.fed below c.in_ok-fed.ensures.fed)
