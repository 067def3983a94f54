use Rattle.std.proofs.Common.{◌≡◌, ◌∙◌, arith, ap, Bool, List, slice_index_or, false, subst, sym, ℕ}
use Rattle.lrpar_table_rows.specs.Graph.{graph_len}
use Rattle.lrpar_table_rows.specs.Table.{Table}
use Rattle.lrpar_table_pops.specs.Closed.{IsGotoState}
use Rattle.lrpar_table_pops.specs.StoredAll.{HaveWaysAt, IsMarked}
use Rattle.lrpar_table_pops.specs.StoredPops.{ArePopsOf}
use Rattle.lrpar_table_pops.proofs.KeptLemmas.{ArePlacesOf, longer, marked_goto, state_pushed}
use Rattle.lrpar_table_pops.proofs.StoredLemmas.{pops_pushed}
use Rattle.lrpar_table_pops.proofs.pops.Pops.empty.Goals as goal

pub states-preserved : goal.states-preserved
states-preserved g c =
    let index = g.StorageT.StorageIndex.index in
    let d = c.args.checked.now in
    let l = c.states in
    let states = l.states.items in
    let exits = c.in_ok-exits.exits in
    let pushed = c.in_ok-push.ensures.items in
    let marks = c.in_ok-is_goto.is_goto.items in
    let same : index c.unwrap.result ≡ l.number = rw c.unwrap.ensures at c.from_index.ensures.back in
    let all = subst (λ (t : Table). (next : ℕ) → IsGotoState t next → IsMarked marks next) c.stable.ensures.table c.in_ok-is_goto.ensures in
    let marked : c.is_marked.result ≡ slice_index_or marks l.number false = c.is_marked.ensures ∙ ap (λ (m : List Bool). slice_index_or m l.number false) c.deref.ensures.value in
    record {
      pops = subst (ArePopsOf d.grammar d.table) (sym pushed) (pops_pushed d.grammar d.table states exits l.invariant.pops c.in_ok-exits.ensures.none);
      len = longer states c.push.new.self.items exits l.number pushed l.invariant.len;
      places = subst (ArePlacesOf d.grammar d.graph d.table) (sym pushed)
          (state_pushed d.grammar d.graph d.table l.number c.is_marked.result states exits l.invariant.len
          (subst (λ (n : ℕ). HaveWaysAt d.grammar d.graph d.table n c.is_marked.result exits) same c.in_ok-exits.ensures.places)
          (marked_goto d.table marks l.number c.is_marked.result marked all) l.invariant.places);
    }

pub returns-clause-places : goal.returns-clause-places
returns-clause-places g c = λ s at low kept.
    let end = c.states-test.false in
    let states = c.states_len-number-end.ensures.states in
    let same = ap graph_len c.sgraph.ensures in
    let len = c.states.invariant.len in
    c.states.invariant.places s at (omega (arith, low, end, states, same, len)) kept
