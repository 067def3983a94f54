use Rattle.std.proofs.Common.{◌≡◌}
use Rattle.lrpar_grammar_places.specs.Lines.{chars_before}
use Rattle.lrpar_grammar_places.proofs.ColumnLemmas.{counts_to}
use Rattle.lrpar_grammar_places.proofs.LineLemmas.{starts_among}
use Rattle.lrpar_grammar_places.proofs.lines.NewlineCache.new.Given as goal

-- the starts and the counts of the bytes so far, and the number of characters that begin in them
abbrev pub invariant-loop-at : goal.invariant-loop-at
invariant-loop-at l = record {
  starts : l.starts.items ≡ starts_among l.byte-items 1 l.at;
  counts : l.counts.items ≡ counts_to l.byte-items l.at;
  chars : l.chars ≡ chars_before l.byte-items l.at;
}
