use Rattle.std.proofs.Common.{◌≡◌, ℕ, arith, below_more, subst}
use Rattle.std.proofs.lemmas.Bool.{iff_false}
use Rattle.lrpar_table_rows.specs.Graph.{HasItem}
use Rattle.lrpar_table_rows.specs.Safe.{IsItem}
use Rattle.lrpar_table_rows.proofs.GraphLemmas.{state_in_range}
use Rattle.lrpar_table_rows.proofs.TestLemmas.{accepted, refused}
use Rattle.lrpar_table_conditions.proofs.checkable.Checkable.items_are_in_range.Goals as goal

pub returns-then-not-items_of_are_in_range : goal.returns-then-not-items_of_are_in_range
returns-then-not-items_of_are_in_range g c =
    refused (λ all. iff_false c.items_of_are_in_range.ensures c.if-not-items_of_are_in_range.true (all (g.StorageT.StorageIndex.index c.unwrap.result)))

pub loop-s-preserved : goal.loop-s-preserved
loop-s-preserved g c = λ n p k t below.
    let index = g.StorageT.StorageIndex.index in
    let number : index c.unwrap.result ≡ c.loop-s.s = rw c.unwrap.ensures at c.from_index.ensures.back in
    let AreNamed : ℕ → Type 0 = λ m. (p k t : ℕ) → HasItem c.args.self.now.sgraph.now m p k t → IsItem c.args.self.now.grm.now p k t in
    below_more AreNamed c.loop-s.s (λ m h p k t. c.loop-s.invariant m p k t h)
    (subst AreNamed number (c.items_of_are_in_range.ensures.0 c.if-not-items_of_are_in_range.false)) n below p k t

pub returns : goal.returns
returns g c =
    accepted (λ s p k t h.
    let within = state_in_range c.args.self.now.sgraph.now s p k t h in
    c.loop-s.invariant s p k t (omega (arith, within, c.states_len-s-end.ensures.states, c.loop-s-test.false)) h)
