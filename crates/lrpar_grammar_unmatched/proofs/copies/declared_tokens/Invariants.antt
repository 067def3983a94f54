use Rattle.std.proofs.Common.{◌≡◌, map, take}
use Rattle.lrpar_grammar_reader.specs.Parts.{token_name_of}
use Rattle.lrpar_grammar_unmatched.proofs.copies.declared_tokens.Given as goal

-- the tokens so far
abbrev pub invariant-loop-number : goal.invariant-loop-number
invariant-loop-number g l = map token_name_of l.tokens.items ≡ take l.number l.grm.tokens
