use Rattle.std.proofs.Common.{ℕ, drop}
use Rattle.std.specs.List.{Contains}
use Rattle.std.specs.Prelude.{IsTrue}
use Rattle.lrpar_grammar.specs.Tokens.{has}
use Rattle.lrpar_table_pops.specs.Growth.{KeepRoom}
use Rattle.lrpar_table_pops.specs.Sets.{tokens_by}
use Rattle.lrpar_table_pops.proofs.rule_sets.clear_sets_of.Given as goal

-- the rules that have tokens are among those that are left
abbrev pub invariant-loop-place : goal.invariant-loop-place
invariant-loop-place l = record {
  room : KeepRoom l.initial.sets.items l.sets.items;
  left : (r t : ℕ) → IsTrue (has (tokens_by l.sets.items r) t) → Contains (drop l.place l.rules) r;
}
