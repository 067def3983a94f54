use Rattle.std.proofs.Common.{◌≡◌, ◌<◌, ◌≤◌, ℕ}
use Rattle.std.specs.Option.{option_and_then, option_or}
use Rattle.lrpar_grammar.specs.Grammar.{symbols_of}
use Rattle.lrpar_table_precedence.specs.Precedence.{slot_at}
use Rattle.lrpar_table_levels.specs.Levels.{last_token}
use Rattle.lrpar_table_levels.proofs.precedences.add_last_tokens.Given as goal

-- the productions so far have their precedences, and the others have what they had
abbrev pub invariant-loop-number : goal.invariant-loop-number
invariant-loop-number g l =
    ((p : ℕ) → p < l.number
    → slot_at l.prods p ≡ option_or (slot_at l.initial.prods p) (option_and_then (slot_at l.tokens) (last_token (symbols_of l.grm p))))
    × ((p : ℕ) → l.number ≤ p → slot_at l.prods p ≡ slot_at l.initial.prods p)
