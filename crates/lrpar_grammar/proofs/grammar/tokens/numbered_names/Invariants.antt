use Rattle.std.proofs.Common.{◌≡◌, map, take, string_bytes}
use Rattle.std.specs.List.{range_with_len}
use Rattle.lrpar_grammar.proofs.grammar.tokens.numbered_names.Given as goal

-- the tokens so far have their names and numbers
abbrev pub invariant-loop-number : goal.invariant-loop-number
invariant-loop-number g l = record {
  names : map (λ pair. pair.0.now) l.pairs.items ≡ map (λ token. string_bytes token.name) (take l.number l.tokens);
  numbers : map (λ pair. g.StorageT.StorageIndex.index pair.1.0) l.pairs.items ≡ range_with_len 0 l.number;
}
