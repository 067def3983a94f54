use Rattle.std.proofs.Common.{◌≡◌, option_map}
use Rattle.lrpar_names.specs.Messages.{add_lines, read_names}
use Rattle.lrpar_names.specs.Parts.{pieces_left, plain}
use Rattle.lrpar_names.proofs.PieceLemmas.{left_len}
use Rattle.lrpar_names.proofs.names.Names.read.Given as goal

-- what is left adds to the names so far what is missing
abbrev pub invariant-lines : goal.invariant-lines
invariant-lines g l = add_lines l.grm l.names (pieces_left 10 (option_map (λ p. plain p) l.left)) ≡ read_names l.grm l.text

abbrev pub decreases-lines : goal.decreases-lines
decreases-lines g l = left_len (option_map (λ p. plain p) l.left)
