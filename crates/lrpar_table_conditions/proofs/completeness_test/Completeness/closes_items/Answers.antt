use Rattle.std.proofs.Common.{◌≡◌, ◌∙◌, ◌↔◌, ℕ, IsTrue, List, length, subst, sym}
use Rattle.lrpar_table_first.specs.FirstRows.{HoldNothing, rows_of}
use Rattle.lrpar_grammar.specs.declared.token_set.TokenSet.{TokenSet}
use Rattle.lrpar_table_first.proofs.GrowthLemmas.{lent_back}
use Rattle.lrpar_table_rows.specs.Graph.{items_of}
use Rattle.lrpar_table_conditions.specs.Complete.{EachItem}
use Rattle.lrpar_table_conditions.specs.Itemwise.{AreStartsOf, ClosesAmong, HaveStarts}
use Rattle.lrpar_table_conditions.proofs.ItemwiseLemmas.{closes_by_starts, starts_len}
use Rattle.lrpar_table_conditions.proofs.completeness_test.Completeness.closes_items.Goals as goal

pub clear_starts-requires-clause-starts : goal.clear_starts-requires-clause-starts
clear_starts-requires-clause-starts g c =
    let index = g.StorageT.StorageIndex.index in
    let grm = c.args.self.now.grm.now in
    let old = c.args.sets.now.starts in
    let new = c.put_starts.new.starts in
    let full : old.len ≡ length old.items = old.ok.0 in
    let after : length new ≡ length old.items = starts_len grm new c.put_starts.ensures.room ∙ sym (starts_len grm old.items c.requires.ready.room.starts) in
    let kept = c.closes_each-closed.ensures.kept ∙ lent_back old.items new old.len (sym full) (after ∙ sym full) in
    subst (λ (sets : List TokenSet). AreStartsOf (items_of c.args.self.now.sgraph.now (index c.args.s.0)) (rows_of sets))
    (sym (c.deref_mut-2.ensures.value ∙ kept)) c.put_starts.ensures.starts

pub returns-clause-ready : goal.returns-clause-ready
returns-clause-ready g c =
    let grm = c.args.self.now.grm.now in
    let old = c.closes_each-closed.new.sets.starts in
    let new = c.clear_starts.new.starts in
    let room = c.closes_each-closed.ensures.room in
    let full : old.len ≡ length old.items = old.ok.0 in
    let after : length new ≡ length old.items = starts_len grm new c.clear_starts.ensures.room ∙ sym (starts_len grm old.items room.starts) in
    let back = lent_back old.items new old.len (sym full) (after ∙ sym full) in
    record {
      room = record {
        after = room.after;
        front = room.front;
        begun = room.begun;
        starts = subst (λ (sets : List TokenSet). HaveStarts grm (rows_of sets)) (sym back) c.clear_starts.ensures.room;
      };
      none = subst (λ (sets : List TokenSet). HoldNothing (rows_of sets)) (sym back) c.clear_starts.ensures.none;
    }

pub returns-clause-test : goal.returns-clause-test
returns-clause-test g c =
    let index = g.StorageT.StorageIndex.index in
    let grm = c.args.self.now.grm.now in
    let graph = c.args.self.now.sgraph.now in
    let s = index c.args.s.0 in
    let old = c.args.sets.now.starts in
    let new = c.put_starts.new.starts in
    let full : old.len ≡ length old.items = old.ok.0 in
    let after : length new ≡ length old.items = starts_len grm new c.put_starts.ensures.room ∙ sym (starts_len grm old.items c.requires.ready.room.starts) in
    let back = lent_back old.items new old.len (sym full) (after ∙ sym full) in
    let test = subst (λ (sets : List TokenSet). IsTrue c.closes_each-closed.result ↔ EachItem graph s (ClosesAmong grm (rows_of sets))) back
    c.closes_each-closed.ensures.test in
    let same = λ (p k t : ℕ). closes_by_starts grm graph s p k t (rows_of new) c.put_starts.ensures.starts in
    (λ h p k t has. (same p k t).0 (test.0 h p k t has), λ all. test.1 (λ p k t has. (same p k t).1 (all p k t has)))
