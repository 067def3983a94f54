use Rattle.std.proofs.Common.{◌≡◌, ◌≤◌, length}
use Rattle.lrpar_parse_lexemes.specs.PrintedParts.{sequence_parts}
use Rattle.lrpar_parse_lexemes.specs.PrintedSequence.{joined}
use Rattle.lrpar_parse_lexemes.proofs.printed_parts.deletion.Given as goal

-- the deletion so far and what is left make the whole
abbrev pub invariant-loop-lexeme : goal.invariant-loop-lexeme
invariant-loop-lexeme g l =
    let index = g.StorageT.StorageIndex.index in
    let span = λ (x : g.row.LexemeT.Denot). (g.LexemeT.Lexeme.parts x).span in
    record {
      ordered : l.fn.first.start ≤ l.end;
      shorter : length l.rest ≤ length l.fn.repairs;
      whole : joined l.fn.first (sequence_parts index span l.fn.repairs)
          ≡ joined (record { start = l.fn.first.start; end = l.end }) (sequence_parts index span l.rest);
    }

abbrev pub decreases-loop-lexeme : goal.decreases-loop-lexeme
decreases-loop-lexeme g l = length l.rest
