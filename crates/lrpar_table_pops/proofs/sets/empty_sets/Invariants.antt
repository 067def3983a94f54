use Rattle.std.proofs.Common.{◌≡◌, ◌<◌, ℕ, length}
use Rattle.lrpar_grammar.specs.Grammar.{tokens_len}
use Rattle.lrpar_table_pops.specs.Sets.{HaveNoTokens, tokens_by}
use Rattle.lrpar_table_pops.proofs.sets.empty_sets.Given as goal

-- no set has a token, and each has room for all
abbrev pub invariant-rules : goal.invariant-rules
invariant-rules g l = record {
  none : HaveNoTokens l.sets.items;
  long : length l.sets.items ≡ l.counter;
  room : (r : ℕ) → r < l.counter → length (tokens_by l.sets.items r) ≡ tokens_len l.grm;
}
