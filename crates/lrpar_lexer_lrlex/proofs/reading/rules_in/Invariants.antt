use Rattle.std.proofs.Common.{◌≡◌, length, option_map}
use Rattle.lrpar_lexer_lrlex.specs.Parts.{pieces_left, placed}
use Rattle.lrpar_lexer_lrlex.specs.Reading.{rule_lines}
use Rattle.lrpar_lexer_lrlex.specs.States.{plain_names}
use Rattle.lrpar_lexer_lrlex.proofs.PieceLemmas.{left_len}
use Rattle.lrpar_lexer_lrlex.proofs.ReadingLemmas.{FaultsLead, Leads}
use Rattle.lrpar_lexer_lrlex.proofs.reading.rules_in.Given as goal

-- the rules so far, and then those of the lines that are left, are the rules of all lines; and the first fault in what is left is the first
abbrev pub invariant-lines : goal.invariant-lines
invariant-lines g l = record {
  paired : length l.starts.items ≡ length l.rules.items;
  leads : Leads g.StorageT.StorageIndex.index l.grm l.flags (plain_names l.states)
      (rule_lines l.flags (pieces_left 10 (option_map (λ p. placed p) l.fn.lines)))
      (rule_lines l.flags (pieces_left 10 (option_map (λ p. placed p) l.left))) l.rules.items l.starts.items;
  faults : FaultsLead g.StorageT.StorageIndex.index l.grm l.flags (plain_names l.states)
      (rule_lines l.flags (pieces_left 10 (option_map (λ p. placed p) l.fn.lines)))
      (rule_lines l.flags (pieces_left 10 (option_map (λ p. placed p) l.left)));
}

abbrev pub decreases-lines : goal.decreases-lines
decreases-lines g l = left_len (option_map (λ p. placed p) l.left)
