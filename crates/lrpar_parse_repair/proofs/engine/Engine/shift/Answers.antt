use Rattle.std.proofs.Common.{◌≡◌, ◌<◌, ap, arith, length, refl, sym}
use Rattle.std.proofs.lemmas.Bool.{ltb-true}
use Rattle.std.proofs.lemmas.Option.{slice_get_read}
use Rattle.lrpar_grammar.specs.Grammar.{end_token}
use Rattle.lrpar_parse_lexemes.specs.Views.{token_by}
use Rattle.lrpar_parse_repair.proofs.EngineLemmas.{unmoved}
use Rattle.lrpar_parse_repair.proofs.SequenceLemmas.{shift_done}
use Rattle.lrpar_parse_repair.proofs.engine.Engine.shift.Goals as goal

pub feed-requires-clause-token : goal.feed-requires-clause-token
feed-requires-clause-token g c =
    let index = g.StorageT.StorageIndex.index in
    let lexemes = c.args.self.now.lexemes.now in
    let i = c.args.place in
    let x = c.in-Some.lexeme.now in
    let is = slice_get_read lexemes (length lexemes) i x refl (ltb-true i (length lexemes) (sym c.in-Some.ensures.lookup.0)) c.in-Some.ensures.lookup.1 in
    let good : index (g.LexemeT.Lexeme.parts x).token < end_token c.args.self.now.checked.now.grammar = c.requires.tokens i x is in
    let same : index c.tok_id.result ≡ index (g.LexemeT.Lexeme.parts x).token = ap index c.tok_id.ensures.token in
    omega (arith, good, same)

pub returns-clause-taken : goal.returns-clause-taken
returns-clause-taken g c =
    let index = g.StorageT.StorageIndex.index in
    let d = c.args.self.now.checked.now in
    let lexemes = c.args.self.now.lexemes.now in
    let i = c.args.place in
    let x = c.in-Some.lexeme.now in
    let is = slice_get_read lexemes (length lexemes) i x refl (ltb-true i (length lexemes) (sym c.in-Some.ensures.lookup.0)) c.in-Some.ensures.lookup.1 in
    rw c.then_some.ensures
    (shift_done (token_by index g.LexemeT.Lexeme.parts) d.grammar d.table lexemes (g.S.StateStack.states c.args.stack.now) i x (index c.tok_id.result)
    (g.S.StateStack.states c.feed.new.stack) c.in_ok-fed.fed is (ap index c.tok_id.ensures.token) c.in_ok-fed.ensures.fed)

pub returns-in_default-clause-moved : goal.returns-in_default-clause-moved
returns-in_default-clause-moved g c =
    let d = c.args.self.now.checked.now in
    let kind = g.S.StateStack in
    unmoved kind.states kind.reduces g.S.ShiftStack.shifts d.grammar d.table d.cap 1 c.args.stack.now
