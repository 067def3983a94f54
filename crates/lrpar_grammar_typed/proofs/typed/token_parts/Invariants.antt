use Rattle.std.proofs.Common.{take}
use Rattle.lrpar_grammar_typed.specs.PartsOf.{AreTokensOf}
use Rattle.lrpar_grammar_typed.proofs.typed.token_parts.Given as goal

-- the tokens so far
abbrev pub invariant-loop-token : goal.invariant-loop-token
invariant-loop-token l = AreTokensOf (take l.token-index l.tokens) l.parts.items
