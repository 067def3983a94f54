use Rattle.std.proofs.Common.{◌≡◌, option_map}
use Rattle.lrpar_lexer_lrlex.specs.Flags.{flags_of, set_all}
use Rattle.lrpar_lexer_lrlex.specs.Parts.{pieces_left, placed}
use Rattle.lrpar_lexer_lrlex.proofs.PieceLemmas.{left_len}
use Rattle.lrpar_lexer_lrlex.proofs.flags.flags_of.Given as goal

-- what is left adds to the flags so far what is missing
abbrev pub invariant-flags : goal.invariant-flags
invariant-flags l = set_all l.flags (pieces_left 44 (option_map (λ p. placed p) l.left)) ≡ flags_of (placed l.fn.inside)

abbrev pub decreases-flags : goal.decreases-flags
decreases-flags l = left_len (option_map (λ p. placed p) l.left)
