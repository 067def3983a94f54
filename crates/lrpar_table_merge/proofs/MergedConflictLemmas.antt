-- Merged item sets without listed conflicts: no state calls for two reductions at one token, for accept and something else, or for a
-- shift and a reduction between which the precedences don't decide.
use Rattle.std.proofs.Common.{◌≡◌, ◌≢◌, ◌<◌, refl, subst, inl, inr, arith, ℕ, [], None, Option, Some}
use Rattle.std.specs.List.{Contains}
use Rattle.std.proofs.lemmas.Bool.{cases_eq}
use Rattle.lrpar_grammar.specs.Grammar.{Grammar, GrammarSymbol, IsWellFormed, Terminal, end_token, start_prod}
use Rattle.lrpar_table_precedence.specs.Precedence.{PrecedenceLists, resolution_of}
use Rattle.lrpar_table_rows.specs.Graph.{Graph, graph_len, item_at}
use Rattle.lrpar_table_rows.specs.Safe.{IsItem}
use Rattle.lrpar_table_rows.specs.Table.{ConflictLists, ReduceReduce, ShiftReduce}
use Rattle.lrpar_table_items.specs.Canonical.{HasAfterDot, HasAccept, HasFirstReduce, HasReduce, sets_of}
use Rattle.lrpar_table_build.specs.BuilderLaws.{AcceptAlone, AreConflictsBy, lists_in}
use Rattle.lrpar_table_build.proofs.DecidedLemmas.{first_reduction}
use Rattle.lrpar_table_build.proofs.ReachedLemmas.{no_end_token}
use Rattle.lrpar_table_merge.specs.Merged.{AreMerged}
use Rattle.lrpar_table_merge.proofs.ListLemmas.{empty_list}
use Rattle.lrpar_table_merge.proofs.MergedHeldLemmas.{held_at_end, held_items}

-- lists of conflicts in which no conflict can be are not there
pub none_listed : (conflicts : Option ConflictLists)
    → ((lists : ConflictLists) → conflicts ≡ Some lists → lists.reduce_reduce ≡ [] → lists.shift_reduce ≡ [] → ⊥)
    → ((x : ReduceReduce) → Contains (lists_in conflicts).reduce_reduce x → ⊥) → ((x : ShiftReduce) → Contains (lists_in conflicts).shift_reduce x → ⊥)
    → conflicts ≡ None
none_listed None some no_reduce no_shift = refl
none_listed (Some lists) some no_reduce no_shift =
    absurd (some lists refl (empty_list lists.reduce_reduce no_reduce) (empty_list lists.shift_reduce no_shift))

module _ (g : Grammar) (graph : Graph) (goes : ℕ → GrammarSymbol → ℕ → Type 0) (well : IsWellFormed g)
    (merged : AreMerged g (graph_len graph) (sets_of graph) goes) where
  -- an item of a state is one of the grammar
  pub item_known : (s p k t : ℕ) → s < graph_len graph → sets_of graph s (item_at p k t) → IsItem g p k t
  item_known s p k t within has = held_items g goes well s (item_at p k t) ((merged.held s within (item_at p k t)).0 has)

  -- a state calls for accept at the end token alone
  pub accept_at_end : (s t : ℕ) → s < graph_len graph → HasAccept g (sets_of graph) s t → t ≡ end_token g
  accept_at_end s t within candidate =
      let item = item_at (start_prod g) 1 t in held_at_end g goes well s item ((merged.held s within item).0 candidate) refl

  -- so it has no item with that token after the dot
  pub no_shift_of_end : (s t : ℕ) → s < graph_len graph → HasAfterDot g (sets_of graph) s (Terminal t) → HasAccept g (sets_of graph) s t → ⊥
  no_shift_of_end s t within before candidate =
      no_end_token g well before.0.prod before.0.dot t (accept_at_end s t within candidate) before.2

  -- nor does it call for a reduction there, if no state has an accept/reduce conflict
  pub no_reduction_at_end : AcceptAlone g (graph_len graph) (sets_of graph) → (s t p : ℕ) → s < graph_len graph
      → HasReduce g (sets_of graph) s t p → HasAccept g (sets_of graph) s t → ⊥
  no_reduction_at_end alone s t p within candidate accepts =
      let is = accept_at_end s t within accepts in
      alone s within (
        subst (λ (n : ℕ). HasAccept g (sets_of graph) s n) is accepts,
        (p, subst (λ (n : ℕ). HasReduce g (sets_of graph) s n p) is candidate),
      )

  module _ (lists : PrecedenceLists) (conflicts : Option ConflictLists) (are : AreConflictsBy g lists graph conflicts)
      (none : conflicts ≡ None) where
    -- with no lists there are no reduce/reduce conflicts
    no_reduce_conflict : (s t first second : ℕ) → s < graph_len graph → HasFirstReduce g (sets_of graph) s t first
        → HasReduce g (sets_of graph) s t second → first < second → ⊥
    no_reduce_conflict s t first second within candidate also less =
        let x : ReduceReduce = record { token = t; first = first; second = second; state = s } in
        let listed = (are.reduce_reduce x).1 (within, (item_known s first _ t within candidate.0.1).token, (candidate, also, less)) in
        let there : Contains [] x = subst (λ (c : Option ConflictLists). Contains (lists_in c).reduce_reduce x) none listed in
        omega (arith, there.1)

    -- so of the reductions that a state calls for at a token, each is the first
    pub only_reduction : (s t p : ℕ) → s < graph_len graph → HasReduce g (sets_of graph) s t p → HasFirstReduce g (sets_of graph) s t p
    only_reduction s t p within candidate =
        let first = first_reduction g graph s t p candidate in
        let least = first.1.1 p candidate in
        elim (cases_eq first.0 p) [
          | inl is ↦ subst (λ (q : ℕ). HasFirstReduce g (sets_of graph) s t q) is first.1
          | inr before ↦
              let other : first.0 ≢ p = before in
              absurd (no_reduce_conflict s t first.0 p within first.1 candidate (omega (arith, least, other)))
        ]

    -- and where a shift and a reduction meet, the precedences decide
    pub no_shift_conflict : (s t p : ℕ) → s < graph_len graph → HasAfterDot g (sets_of graph) s (Terminal t)
        → HasReduce g (sets_of graph) s t p → resolution_of lists p t ≢ None
    no_shift_conflict s t p within before candidate undecided =
        let x : ShiftReduce = record { token = t; prod = p; state = s } in
        let first = only_reduction s t p within candidate in
        let listed = (are.shift_reduce x).1 (within, (item_known s p _ t within candidate.1).token, ((before, first), undecided)) in
        let there : Contains [] x = subst (λ (c : Option ConflictLists). Contains (lists_in c).shift_reduce x) none listed in
        omega (arith, there.1)
