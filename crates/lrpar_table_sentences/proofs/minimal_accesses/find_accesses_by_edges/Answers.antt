use Rattle.std.proofs.Common.{◌<◌, ◌^◌, ◌-◌, ◌∙◌, sym, ap, subst, arith, length}
use Rattle.std.proofs.lemmas.List.{length-map}
use Rattle.std.specs.Option.{option_map}
use Rattle.lrpar_table_sentences.specs.AccessLens.{AreRightAccesses, HasOpenStep, NoStepIsLess, NoStepIsOpen, NoWalkIsBelow, edges_of, open_accesses}
use Rattle.lrpar_table_sentences.specs.AccessStrings.{access_of, accesses_of}
use Rattle.lrpar_table_sentences.proofs.AccessLemmas.{edges_within, no_walk_below, start_right}
use Rattle.lrpar_table_sentences.proofs.GrowthLemmas.{whole_back}
use Rattle.lrpar_table_sentences.proofs.minimal_accesses.find_accesses_by_edges.Goals as goal

pub levels-init : goal.levels-init
levels-init g c =
    let index = g.StorageT.StorageIndex.index in
    let items = c.in_ok-accesses.accesses.items in
    start_right c.args.stable.now (2 ^ 64 - 1) c.args.shortest.now (accesses_of index items) (length-map items (option_map (access_of index)) ∙ c.in_ok-accesses.ensures.states)
    c.in_ok-accesses.ensures.start c.in_ok-accesses.ensures.others

pub keep_least-requires : goal.keep_least-requires
keep_least-requires g c =
    let index = g.StorageT.StorageIndex.index in
    let items = c.levels.accesses.items in
    let lent = ap (λ xs. length xs) c.deref_mut.ensures.value in
    let long = length-map items (option_map (access_of index)) in
    let count = c.levels.invariant.states in
    edges_within index c.args.stable.now c.args.shortest.now c.args.edges.now (length c.deref_mut.result.now) c.states_len-lemma.ensures.closed c.requires.edges
    (omega (arith, lent, long, count))

pub levels-smaller : goal.levels-smaller
levels-smaller g c =
    let index = g.StorageT.StorageIndex.index in
    let items = c.levels.accesses.items in
    let edges = edges_of index c.args.edges.now in
    let new = c.keep_least.new.accesses in
    let back = whole_back items c.deref_mut.result.now new _ c.levels.accesses.ok.0 c.deref_mut.ensures.value c.keep_least.auto.accesses in
    let some = subst (λ xs. HasOpenStep (2 ^ 64 - 1) (accesses_of index xs) edges c.in-Some.len) (c.deref.ensures.value ∙ sym c.deref_mut.ensures.value) c.in-Some.ensures.0 in
    let less = subst (λ xs. open_accesses (accesses_of index new) < open_accesses (accesses_of index xs)) c.deref_mut.ensures.value (c.keep_least.ensures.fewer some) in
    subst (λ xs. open_accesses (accesses_of index xs) < open_accesses (accesses_of index items)) (sym back) less

pub levels-preserved : goal.levels-preserved
levels-preserved g c =
    let index = g.StorageT.StorageIndex.index in
    let table = c.args.stable.now in
    let choices = c.args.shortest.now in
    let items = c.levels.accesses.items in
    let edges = edges_of index c.args.edges.now in
    let new = c.keep_least.new.accesses in
    let back = whole_back items c.deref_mut.result.now new _ c.levels.accesses.ok.0 c.deref_mut.ensures.value c.keep_least.auto.accesses in
    let less = subst (λ xs. NoStepIsLess (2 ^ 64 - 1) (accesses_of index xs) edges c.in-Some.len) c.deref.ensures.value c.in-Some.ensures.1 in
    let below = no_walk_below table (2 ^ 64 - 1) choices edges c.requires.edges (accesses_of index items) c.levels.invariant c.in-Some.len less in
    let right_lent = subst (λ xs. AreRightAccesses table (2 ^ 64 - 1) choices (accesses_of index xs)) (sym c.deref_mut.ensures.value) c.levels.invariant in
    let below_lent = subst (λ xs. NoWalkIsBelow table (2 ^ 64 - 1) choices (accesses_of index xs) c.in-Some.len) (sym c.deref_mut.ensures.value) below in
    subst (λ xs. AreRightAccesses table (2 ^ 64 - 1) choices (accesses_of index xs)) (sym back)
    (c.keep_least.ensures.right table choices c.requires.edges right_lent below_lent)

pub returns-clause-done : goal.returns-clause-done
returns-clause-done g c =
    let index = g.StorageT.StorageIndex.index in
    subst (λ xs. NoStepIsOpen (2 ^ 64 - 1) (accesses_of index xs) (edges_of index c.args.edges.now)) c.deref.ensures.value c.in_default.ensures
