use Rattle.std.proofs.Common.{◌≡◌, ◌<◌, ◌∷◌, [], inr, arith, length, refl}
use Rattle.lrpar_table_check.proofs.CountLemmas.{counted_longest, counts_kept, row_counted}
use Rattle.lrpar_table_check.proofs.LongestLemmas.{if_some_of, longest_found, not_short}
use Rattle.lrpar_table_check.proofs.chains.Chains.count.Goals as goal

pub returns-then-counted-gt0-clause-longest : goal.returns-then-counted-gt0-clause-longest
returns-then-counted-gt0-clause-longest g c =
    let index = g.StorageT.StorageIndex.index in
    let d = c.args.self.now in
    let s = index c.args.s.0 in
    let r = index c.args.rule.0 in
    let rows = c.args.counts.now.rows.items in
    let below : r < length rows = omega (arith, c.requires.goto.rule, c.requires.counts.room.rules) in
    let some : 0 < length c.index.result.now.items = omega (arith, c.if-counted-gt0.true, c.len-counted.ensures, c.index.result.now.ok.0) in
    counted_longest d.grm.now d.stable.now d.cap c.args.from s r (index c.args.next.0) c.index.result.now.items
    (row_counted d.grm.now d.stable.now c.args.from s r c.from-place.result rows c.index.result.now c.requires.counts.counted c.from-place.ensures below c.index.ensures)
    some c.requires.goto.goes c.requires.from

pub returns-in-None-clause-longest : goal.returns-in-None-clause-longest
returns-in-None-clause-longest g c =
    let index = g.StorageT.StorageIndex.index in
    let d = c.args.self.now in
    let s = index c.args.s.0 in
    let next = index c.args.next.0 in
    not_short d.grm.now d.stable.now d.cap s (s ∷ next ∷ []) c.args.from c.in_ok-found.found (inr (index c.args.rule.0, next, c.requires.goto.goes, refl))
    c.in_ok-found.ensures.longest c.in-None.is

pub returns-in_ok-keep_row-in-Some-clause-counts : goal.returns-in_ok-keep_row-in-Some-clause-counts
returns-in_ok-keep_row-in-Some-clause-counts g c =
    let index = g.StorageT.StorageIndex.index in
    let d = c.args.self.now in
    let s = index c.args.s.0 in
    let next = index c.args.next.0 in
    let counts = c.args.counts.now in
    let longest = c.in-Some.longest in
    let found = longest_found d.grm.now d.stable.now d.cap (s ∷ next ∷ []) c.args.from c.in_ok-found.found longest c.in_ok-found.ensures.longest c.in-Some.is in
    let right = if_some_of c.in_ok-found.found longest _ c.in_ok-found.ensures.row c.in-Some.is in
    let as_long : length c.find_longest_from.new.row ≡ length counts.row.items = omega (arith, c.find_longest_from.auto.row, c.deref_mut.ensures.len, counts.row.ok.0) in
    counts_kept d.grm.now d.stable.now c.args.from longest s (index c.args.rule.0) next c.from-place.result counts.rows.len counts.row.len counts.rows.items
    c.deref_mut-in-Some.result.now c.keep_row.new.rows counts.row.items c.find_longest_from.new.row c.deref-in-Some.result.now c.requires.counts found.above
    c.requires.goto c.from-place.ensures c.deref_mut-in-Some.ensures.value c.keep_row.auto.rows counts.rows.ok.0 counts.row.ok.0 as_long right
    c.deref-in-Some.ensures.value c.in_ok-keep_row-in-Some.ensures.kept c.keep_row.ensures.others
