use Rattle.std.proofs.Common.{◌≡◌, option_map}
use Rattle.lrpar_lexer_lrlex.specs.Names.{numbers_of, states_of}
use Rattle.lrpar_lexer_lrlex.specs.Parts.{pieces_left, placed}
use Rattle.lrpar_lexer_lrlex.specs.States.{plain_names}
use Rattle.lrpar_lexer_lrlex.proofs.PieceLemmas.{left_len}
use Rattle.lrpar_lexer_lrlex.proofs.names.states_of.Given as goal

-- what is left adds to the numbers so far what is missing
abbrev pub invariant-names : goal.invariant-names
invariant-names l =
    numbers_of (plain_names l.states) l.numbers.items (pieces_left 44 (option_map (λ p. placed p) l.left))
    ≡ states_of (plain_names l.fn.states) (option_map (λ p. placed p) l.fn.names)

abbrev pub decreases-names : goal.decreases-names
decreases-names l = left_len (option_map (λ p. placed p) l.left)
