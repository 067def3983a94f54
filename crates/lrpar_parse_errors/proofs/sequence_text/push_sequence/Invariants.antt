use denote.Shadow.{shadow}
use denote.Text.{Utf8}
use Rattle.std.proofs.Common.{length}
use Rattle.std.specs.List.{AllByRecursion}
use Rattle.std.specs.String.{string_bytes}
use Rattle.lrpar_parse_lexemes.specs.PrintedParts.{sequence_parts}
use Rattle.lrpar_parse_errors.specs.SequenceText.{PartFits}
use Rattle.lrpar_parse_errors.proofs.SequenceTextLemmas.{IsPrintedSoFar}
use Rattle.lrpar_parse_errors.proofs.sequence_text.push_sequence.Given as goal

-- the parts so far are printed, and those that are left fit
abbrev pub invariant-loop-part : goal.invariant-loop-part
invariant-loop-part g l =
    let index = g.StorageT.StorageIndex.index in
    let input = g.L.NonStreamingLexer.text l.lexer in
    let span = λ (x : g.row.LexemeT.Denot). (g.LexemeT.Lexeme.parts x).span in
    record {
      utf8 : shadow (Utf8 l.separator);
      fits : AllByRecursion (PartFits input) (sequence_parts index span l.rest);
      printed : IsPrintedSoFar (g.N.TokenNames.prints l.names) input
          (sequence_parts index span l.fn.sequence.items) (sequence_parts index span l.rest) (string_bytes l.initial.out) (string_bytes l.out) l.separator;
    }

abbrev pub decreases-loop-part : goal.decreases-loop-part
decreases-loop-part g l = length l.rest
