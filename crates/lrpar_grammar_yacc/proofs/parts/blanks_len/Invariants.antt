use Rattle.std.proofs.Common.{◌≡◌, ◌<◌, ◌≤◌, ◌+◌, ◌-◌, drop, length}
use Rattle.lrpar_grammar_yacc.specs.Parts.{EndsAtAscii, blanks_from}
use Rattle.lrpar_grammar_yacc.proofs.parts.blanks_len.Given as goal

-- all before the place are blanks
abbrev pub invariant-loop-piece : goal.invariant-loop-piece
invariant-loop-piece l = record {
  within : l.place ≤ length l.text;
  len : blanks_from 0 l.text ≡ l.place + blanks_from 0 (drop l.place l.text);
  end : 0 < l.place → EndsAtAscii l.text l.place;
}

abbrev pub decreases-loop-piece : goal.decreases-loop-piece
decreases-loop-piece l = length l.text - l.place
