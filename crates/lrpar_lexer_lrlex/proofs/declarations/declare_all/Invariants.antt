use Rattle.std.proofs.Common.{◌≡◌, option_map}
use Rattle.lrpar_lexer_lrlex.specs.Declarations.{declare_all, declare_each}
use Rattle.lrpar_lexer_lrlex.specs.Parts.{pieces_left, placed}
use Rattle.lrpar_lexer_lrlex.specs.States.{plain_names}
use Rattle.lrpar_lexer_lrlex.proofs.PieceLemmas.{left_len}
use Rattle.lrpar_lexer_lrlex.proofs.declarations.declare_all.Given as goal

-- what is left adds to the states so far what is missing
abbrev pub invariant-names : goal.invariant-names
invariant-names l =
    declare_each (plain_names l.states.items) (pieces_left 32 (option_map (λ p. placed p) l.left)) l.exclusive
    ≡ declare_all (plain_names l.fn.states.items) (placed l.fn.line) (placed l.fn.names) l.fn.exclusive

abbrev pub decreases-names : goal.decreases-names
decreases-names l = left_len (option_map (λ p. placed p) l.left)
