use Rattle.std.proofs.Common.{rules, refl, ◌≡◌, ◌<◌, [], length, arith}
use Rattle.std.proofs.lemmas.List.{nil_from_length}
use Rattle.std.specs.String.{string_bytes}
use Rattle.lrpar_parse_errors.proofs.SequenceTextLemmas.{err_same}
use Rattle.lrpar_parse_errors.proofs.ErrorTextLemmas.{fault_listed, listed_after, listed_all, listed_next, listed_none, sequence_fits}
use Rattle.lrpar_parse_errors.proofs.TestLemmas.{repairs_alike}
use Rattle.lrpar_parse_errors.proofs.error_text.push_repairs.Goals as goal

pub returns-then-is_empty-clause-text : goal.returns-then-is_empty-clause-text
returns-then-is_empty-clause-text g c =
    let none : length c.args.sequences.now ≡ 0 = grind arith in
    let empty = nil_from_length c.args.sequences.now none in
    ([], c.in_ok-push_str.ensures.bytes, rw empty tt)

pub loop-i-init : goal.loop-i-init
loop-i-init g c = listed_none _ _ _ _

pub push_sequence-requires : goal.push_sequence-requires
push_sequence-requires g c κs =
    let index = g.StorageT.StorageIndex.index in
    let span = λ (x : g.row.LexemeT.Denot). (g.LexemeT.Lexeme.parts x).span in
    let input = g.L.NonStreamingLexer.text c.args.lexer.now in
    let sequence = c.index-sequences-i.result in
    let fits = sequence_fits index span input c.args.sequences.now c.loop-i.i sequence c.loop-i-test.true c.index-sequences-i.is c.requires.fits in
    ((refl, tt), (c.requires.names, (repairs_alike index g.LexemeT.Lexeme.parts input sequence.items).1 fits))

pub returns-in_err-push_sequence-clause-fault : goal.returns-in_err-push_sequence-clause-fault
returns-in_err-push_sequence-clause-fault g c =
    let index = g.StorageT.StorageIndex.index in
    let span = λ (x : g.row.LexemeT.Denot). (g.LexemeT.Lexeme.parts x).span in
    err_same c.from_residual-in_err-push_sequence.result _ c.in_err-push_sequence.field-0.0 c.from_residual-in_err-push_sequence.ensures.1
    (fault_listed index span (g.N.TokenNames.prints c.args.names.now) (g.L.NonStreamingLexer.text c.args.lexer.now) c.len-most.result
    c.args.sequences.now c.loop-i.i c.index-sequences-i.result (string_bytes c.push_str-2.new.self) (string_bytes c.loop-i.out) c.in_err-push_sequence.field-0.0
    c.loop-i-test.true c.index-sequences-i.is c.loop-i.invariant c.in_err-push_sequence.ensures.fault)

pub loop-i-preserved : goal.loop-i-preserved
loop-i-preserved g c =
    let index = g.StorageT.StorageIndex.index in
    let span = λ (x : g.row.LexemeT.Denot). (g.LexemeT.Lexeme.parts x).span in
    let text = c.in_ok-push_sequence.ensures.text in
    listed_next index span (g.N.TokenNames.prints c.args.names.now) (g.L.NonStreamingLexer.text c.args.lexer.now) c.len-most.result
    c.args.sequences.now c.loop-i.i c.index-sequences-i.result (string_bytes c.push_str-2.new.self) (string_bytes c.loop-i.out) (string_bytes c.push_numbering.new.out)
    text.0 (string_bytes c.push_sequence.new.out)
    c.loop-i-test.true c.index-sequences-i.is c.loop-i.invariant text.2 c.in_ok-push_numbering.ensures text.1

pub returns-clause-text : goal.returns-clause-text
returns-clause-text g c =
    let index = g.StorageT.StorageIndex.index in
    let span = λ (x : g.row.LexemeT.Denot). (g.LexemeT.Lexeme.parts x).span in
    let names = g.N.TokenNames.prints c.args.names.now in
    let input = g.L.NonStreamingLexer.text c.args.lexer.now in
    let begun = string_bytes c.push_str-2.new.self in
    let full : 0 < length c.args.sequences.now = grind arith in
    listed_after index span names input c.len-most.result c.args.sequences.now (string_bytes c.args.out.now) begun (string_bytes c.loop-i.out)
    full (search rules) c.in_ok-push_str-2.ensures.bytes
    (listed_all index span names input c.len-most.result c.args.sequences.now c.loop-i.i begun (string_bytes c.loop-i.out) c.loop-i-test.false c.loop-i.invariant)
