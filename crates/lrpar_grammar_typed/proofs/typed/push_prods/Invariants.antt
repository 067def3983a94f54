use Rattle.std.proofs.Common.{◌≡◌, ◌++◌, map, take}
use Rattle.lrpar_grammar_reader.specs.Parts.{prod_of}
use Rattle.lrpar_grammar_typed.specs.PartsOf.{production_of}
use Rattle.lrpar_grammar_typed.proofs.typed.push_prods.Given as goal

-- the productions so far
abbrev pub invariant-loop-prod : goal.invariant-loop-prod
invariant-loop-prod l =
    map (prod_of (λ n. n)) l.parts.items ≡ map (prod_of (λ n. n)) l.initial.parts.items ++ map (production_of l.rule.0) (take l.prod-index l.prods)
