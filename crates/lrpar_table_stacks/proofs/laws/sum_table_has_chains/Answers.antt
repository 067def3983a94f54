use Rattle.std.proofs.Common.{◌≡◌, ◌≤◌, ◌∷◌, [], inr, refl, None, ◌^◌, ℕ, rules}
use Rattle.lrpar_grammar.specs.Sum.{sum_grammar}
use Rattle.lrpar_table_rows.specs.Sum.{sum_table}
use Rattle.lrpar_table_rows.specs.Table.{IsTable, action_of, goto_of}
use Rattle.lrpar_table_rows.proofs.EntryLemmas.{no_goto_past}
use Rattle.lrpar_table_stacks.proofs.ChainTests.{reductions_by_test, short_by_test}
use Rattle.lrpar_table_stacks.proofs.laws.sum_table_has_chains.Goals as goal

-- no state has a goto past the last rule
no_rule : (s r : ℕ) → 3 ≤ r → goto_of sum_table s r ≡ None
no_rule s r past = let is : IsTable (2 ^ 8) sum_table = search rules in no_goto_past (2 ^ 8) sum_table is s r past

pub returns : goal.returns
unfolding action_of goto_of
returns c = record {
  long = (4 ∷ 2 ∷ [], inr (2, 2, refl, refl), (reductions_by_test sum_grammar sum_table 2 2 (4 ∷ 2 ∷ [])).0 refl);
  short = short_by_test sum_grammar sum_table 2 no_rule refl;
}
