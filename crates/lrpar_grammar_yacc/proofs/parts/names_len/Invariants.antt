use Rattle.std.proofs.Common.{◌≡◌, ◌<◌, ◌≤◌, ◌-◌, drop, get_or, length}
use Rattle.lrpar_grammar_yacc.specs.Parts.{names_from}
use Rattle.lrpar_grammar_yacc.proofs.parts.names_len.Given as goal

-- all before the place are names and blanks, and the last name ends at `end`
abbrev pub invariant-loop-piece : goal.invariant-loop-piece
invariant-loop-piece l = record {
  within : l.place ≤ length l.text;
  few : l.end ≤ l.place;
  len : names_from 0 0 0 l.text ≡ names_from l.end l.place 0 (drop l.place l.text);
  ascii : 0 < l.end → get_or l.text (l.end - 1) 0 < 128;
}

abbrev pub decreases-loop-piece : goal.decreases-loop-piece
decreases-loop-piece l = length l.text - l.place
