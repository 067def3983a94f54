use Rattle.std.proofs.Common.{rules, ◌++◌, ap, ◌∙◌, map}
use Rattle.std.specs.String.{string_bytes}
use Rattle.lrpar_parse_lexemes.specs.PrintedParts.{part_of, sequence_parts}
use Rattle.lrpar_parse_lexemes.specs.Repairs.{repair_of}
use Rattle.lrpar_parse_errors.proofs.SequenceTextLemmas.{printed_none, printed_more, printed_all, parts_fit, fault_next, err_same}
use Rattle.lrpar_parse_errors.proofs.TestLemmas.{repairs_alike}
use Rattle.lrpar_parse_errors.proofs.sequence_text.push_sequence.Goals as goal

pub loop-part-init : goal.loop-part-init
loop-part-init g c =
    let index = g.StorageT.StorageIndex.index in
    let input = g.L.NonStreamingLexer.text c.args.lexer.now in
    let span = λ (x : g.row.LexemeT.Denot). (g.LexemeT.Lexeme.parts x).span in
    record {
      utf8 = search rules;
      fits =
          rw c.as_slice-rest.ensures.value
          (parts_fit span input (map (repair_of index) c.args.sequence.now.items)
          ((repairs_alike index g.LexemeT.Lexeme.parts input c.args.sequence.now.items).0 c.requires.fits));
      printed =
          rw c.as_slice-rest.ensures.value
          (printed_none (g.N.TokenNames.prints c.args.names.now) input (sequence_parts index span c.args.sequence.now.items) (string_bytes c.args.out.now));
    }

pub loop-part-preserved : goal.loop-part-preserved
loop-part-preserved g c =
    let index = g.StorageT.StorageIndex.index in
    let input = g.L.NonStreamingLexer.text c.args.lexer.now in
    let span = λ (x : g.row.LexemeT.Denot). (g.LexemeT.Lexeme.parts x).span in
    let fits = rw c.in-Some.ensures.next at c.loop-part.invariant.fits in
    let so_far = rw c.in-Some.ensures.next at c.loop-part.invariant.printed in
    let text = c.in_ok-push_part.ensures.text in
    record {
      utf8 = search rules;
      fits = fits.1;
      printed = printed_more (g.N.TokenNames.prints c.args.names.now) input (sequence_parts index span c.args.sequence.now.items)
          (sequence_parts index span c.in-Some.others.now) (part_of index c.in-Some.part) (string_bytes c.args.out.now) (string_bytes c.loop-part.out) c.loop-part.separator.now
          text.0 (string_bytes c.push_part.new.out) so_far text.2 (text.1 ∙ ap (λ o. o ++ text.0) c.in_ok-push_str.ensures.bytes);
    }

pub returns-in_err-push_part-clause-fault : goal.returns-in_err-push_part-clause-fault
returns-in_err-push_part-clause-fault g c =
    let index = g.StorageT.StorageIndex.index in
    let input = g.L.NonStreamingLexer.text c.args.lexer.now in
    let span = λ (x : g.row.LexemeT.Denot). (g.LexemeT.Lexeme.parts x).span in
    let so_far = rw c.in-Some.ensures.next at c.loop-part.invariant.printed in
    err_same c.from_residual-in_err-push_part.result _ c.in_err-push_part.field-0.0 c.from_residual-in_err-push_part.ensures.1
    (fault_next index (g.N.TokenNames.prints c.args.names.now) input (sequence_parts index span c.args.sequence.now.items)
    (sequence_parts index span c.in-Some.others.now) (part_of index c.in-Some.part) (string_bytes c.args.out.now) (string_bytes c.loop-part.out) c.loop-part.separator.now
    c.in_err-push_part.field-0.0 so_far c.in_err-push_part.ensures.fault)

pub returns-clause-text : goal.returns-clause-text
returns-clause-text g c =
    let index = g.StorageT.StorageIndex.index in
    let input = g.L.NonStreamingLexer.text c.args.lexer.now in
    let span = λ (x : g.row.LexemeT.Denot). (g.LexemeT.Lexeme.parts x).span in
    printed_all (g.N.TokenNames.prints c.args.names.now) input (sequence_parts index span c.args.sequence.now.items)
    (string_bytes c.args.out.now) (string_bytes c.loop-part.out) c.loop-part.separator.now (rw c.in_default.ensures.next at c.loop-part.invariant.printed)
