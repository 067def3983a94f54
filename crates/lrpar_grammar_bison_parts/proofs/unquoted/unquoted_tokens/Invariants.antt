use Rattle.std.proofs.Common.{◌≡◌, map, take}
use Rattle.lrpar_grammar_reader.specs.Parts.{token_name_of}
use Rattle.lrpar_grammar_bison_parts.specs.Unquoted.{unquoted_token}
use Rattle.lrpar_grammar_bison_parts.proofs.unquoted.unquoted_tokens.Given as goal

-- the tokens so far
abbrev pub invariant-loop-token : goal.invariant-loop-token
invariant-loop-token l = map token_name_of l.parts.items ≡ map unquoted_token (map token_name_of (take l.token-index l.tokens))
