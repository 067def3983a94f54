-- What messages print for a token.
use Rattle.std.specs.Prelude.{◌==◌, if◌then◌else◌, ℕ, List, codes}
use Rattle.std.specs.Option.{option_map_or}
use Rattle.lrpar_grammar_reader.specs.Grammar.{Grammar, end_token, token_epp}

-- the printed text of a token; `end of input` for the end token; `no token` for a number that the grammar doesn't have
abbrev pub printed_of : Grammar → ℕ → List ℕ
printed_of g t = option_map_or (λ text. text) (token_epp g t) (if t == end_token g then codes "end of input" else codes "no token")
