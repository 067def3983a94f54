use Rattle.std.proofs.Common.{◌<◌, ◌+◌, ℕ, get_or}
use Rattle.lrpar_grammar_reader.specs.Parts.{IsDeclaredProd, prod_of}
use Rattle.lrpar_grammar_reader.proofs.parts.GrammarParts.has_declared_symbols.Given as goal

-- the productions so far are listed
abbrev pub invariant-loop-prod : goal.invariant-loop-prod
invariant-loop-prod g l =
    (k : ℕ) (d : _) → k < l.prod-index
    → IsDeclaredProd (l.rules + 1) l.tokens (prod_of g.StorageT.StorageIndex.index (get_or l.self.prods.items k d))
