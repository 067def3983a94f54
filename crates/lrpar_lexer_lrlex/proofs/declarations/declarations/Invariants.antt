use Rattle.std.proofs.Common.{◌≡◌, option_map}
use Rattle.lrpar_lexer_lrlex.specs.Declarations.{declarations, declared}
use Rattle.lrpar_lexer_lrlex.specs.Parts.{pieces, pieces_left, placed}
use Rattle.lrpar_lexer_lrlex.specs.States.{plain_names}
use Rattle.lrpar_lexer_lrlex.proofs.PieceLemmas.{left_len}
use Rattle.lrpar_lexer_lrlex.proofs.declarations.declarations.Given as goal

-- what is left adds to the states so far what is missing
abbrev pub invariant-lines : goal.invariant-lines
invariant-lines l =
    declared (plain_names l.states.items) (pieces_left 10 (option_map (λ p. placed p) l.left)) ≡ declarations (pieces 10 (placed l.fn.text))

abbrev pub decreases-lines : goal.decreases-lines
decreases-lines l = left_len (option_map (λ p. placed p) l.left)
