-- A canonical collection has no conflicts exactly if none of its sets calls for two different actions at one token; and its conflicts
-- fit the grammar.
use Rattle.std.proofs.Common.{◌≡◌, ◌≢◌, ◌<◌, ◌+◌, refl, sym, ap, subst, inl, inr, arith, ℕ, List, [], ◌∷◌, All, slice_index_or, None, Option, Some}
use Rattle.std.specs.List.{Contains}
use Rattle.std.proofs.lemmas.Bool.{cases_eq}
use Rattle.std.proofs.lemmas.List.Elements.{All-contains_itself}
use Rattle.lrpar_grammar.specs.Grammar.{Grammar, IsWellFormed, Terminal, end_token, prod_len, start_prod, tokens_len}
use Rattle.lrpar_table_rows.specs.ConflictsFit.{ReductionsFit, ShiftFits}
use Rattle.lrpar_table_rows.specs.Graph.{Graph, ItemOf, graph_len, item_at}
use Rattle.lrpar_table_rows.specs.Safe.{IsItem}
use Rattle.lrpar_table_rows.specs.Table.{Accepts, ConflictLists, Fails, ReduceBy, ReduceReduce, ShiftReduce, ShiftTo}
use Rattle.lrpar_table_build.specs.BuilderLaws.{AcceptAlone, AreConflictsOf, CanonicalConflictsFit, NoConflictsAreOneAction, HaveOneAction, lists_in}
use Rattle.lrpar_table_items.specs.Canonical.{IsCanonical, IsReduceConflict, IsShiftConflict, IsTransition, HasAfterDot, HasAccept, HasFirstReduce, HasReduce, sets_of}
use Rattle.lrpar_table_items.specs.ItemSets.{IsReachedBy, Own}
use Rattle.lrpar_table_build.proofs.DecidedLemmas.{first_reduction}
use Rattle.lrpar_table_build.proofs.ReachedLemmas.{no_end_token, reached_at_end, reached_items, symbol_listed}
use Rattle.lrpar_table_build.proofs.SetLemmas.{next_more}

-- a list without elements is empty
empty_list : {X : Type 0} (xs : List X) → ((x : X) → Contains xs x → ⊥) → xs ≡ []
empty_list [] none = refl
empty_list (x ∷ xs) none = absurd (none x (0, omega arith, refl))

module _ (g : Grammar) (graph : Graph) (well : IsWellFormed g) (canonical : IsCanonical g graph) where
  -- an item of a state is one of the grammar
  pub item_known : (s p k t : ℕ) → s < graph_len graph → sets_of graph s (item_at p k t) → IsItem g p k t
  item_known s p k t within has =
      let item = item_at p k t in
      let reached = canonical.reached s within in reached_items g well reached.0 item ((reached.1 item).0 has)

  -- a state calls for accept at the end token alone
  accept_at_end : (s t : ℕ) → s < graph_len graph → HasAccept g (sets_of graph) s t → t ≡ end_token g
  accept_at_end s t within candidate =
      let item = item_at (start_prod g) 1 t in
      let reached = canonical.reached s within in reached_at_end g well reached.0 item ((reached.1 item).0 candidate) refl

  -- if an item has a token after its dot, the state has a transition by it
  next_state : (s t : ℕ) → s < graph_len graph → HasAfterDot g (sets_of graph) s (Terminal t)
      → (next : ℕ) × IsTransition g (graph_len graph) (sets_of graph) s (Terminal t) (Some next)
  next_state s t within before =
      let reached = canonical.reached s within in
      let x = before.0 in
      let y = item_at x.prod (x.dot + 1) x.token in
      let by : ItemOf → Type 0 = IsReachedBy g reached.0 in
      let next = canonical.all (Terminal t ∷ reached.0) y (Own y (x, (reached.1 x).0 before.1, before.2, refl)) in (
        next.0,
        (
          before,
          next.1,
          λ z. (
            λ h. next_more g by (sets_of graph s) (Terminal t) (λ i. (reached.1 i).1) z ((next.2 z).0 h),
            λ h. (next.2 z).1 (next_more g (sets_of graph s) by (Terminal t) (λ i. (reached.1 i).0) z h),
          ),
        ),
      )

  -- a state has one transition by a token
  one_next : (s t n m : ℕ) → IsTransition g (graph_len graph) (sets_of graph) s (Terminal t) (Some n)
      → IsTransition g (graph_len graph) (sets_of graph) s (Terminal t) (Some m) → n ≡ m
  one_next s t n m to other =
      canonical.once n m to.1 other.1 (λ x. (λ h. (other.2 x).1 ((to.2 x).0 h), λ h. (to.2 x).1 ((other.2 x).0 h)))

  module _ (conflicts : Option ConflictLists) (are : AreConflictsOf g graph conflicts)
      (alone : AcceptAlone g (graph_len graph) (sets_of graph)) where
    -- with no lists there are no conflicts
    module _ (none : conflicts ≡ None) where
      no_reduce_conflict : (s t first second : ℕ) → s < graph_len graph → HasFirstReduce g (sets_of graph) s t first
          → HasReduce g (sets_of graph) s t second → first < second → ⊥
      no_reduce_conflict s t first second within candidate also less =
          let x : ReduceReduce = record { token = t; first = first; second = second; state = s } in
          let listed = (are.reduce_reduce x).1 (within, (item_known s first _ t within candidate.0.1).token, (candidate, also, less)) in
          let there : Contains [] x = subst (λ (c : Option ConflictLists). Contains (lists_in c).reduce_reduce x) none listed in
          omega (arith, there.1)

      no_shift_conflict : (s t p : ℕ) → s < graph_len graph → HasAfterDot g (sets_of graph) s (Terminal t)
          → HasReduce g (sets_of graph) s t p → ⊥
      no_shift_conflict s t p within before candidate =
          let first = first_reduction g graph s t p candidate in
          let x : ShiftReduce = record { token = t; prod = first.0; state = s } in
          let listed = (are.shift_reduce x).1 (within, (item_known s p _ t within candidate.1).token, (before, first.1)) in
          let there : Contains [] x = subst (λ (c : Option ConflictLists). Contains (lists_in c).shift_reduce x) none listed in
          omega (arith, there.1)

      one_reduction : (s t p q : ℕ) → s < graph_len graph → HasReduce g (sets_of graph) s t p
          → HasReduce g (sets_of graph) s t q → p ≡ q
      one_reduction s t p q within candidate also =
          let first = first_reduction g graph s t p candidate in
          let low = first.1.1 p candidate in
          let lower = first.1.1 q also in
          elim (cases_eq p q) [
            | inl same ↦ same
            | inr other ↦
                let apart : p ≢ q = other in
                elim (cases_eq first.0 p) [
                  | inl is ↦ absurd (no_reduce_conflict s t first.0 q within first.1 also (omega (arith, lower, is, apart)))
                  | inr before ↦
                      let less : first.0 ≢ p = before in
                      absurd (no_reduce_conflict s t first.0 p within first.1 candidate (omega (arith, low, less)))
                ]
          ]

      no_shift_of_end : (s t : ℕ) → s < graph_len graph → HasAfterDot g (sets_of graph) s (Terminal t)
          → HasAccept g (sets_of graph) s t → ⊥
      no_shift_of_end s t within before candidate =
          no_end_token g well before.0.prod before.0.dot t (accept_at_end s t within candidate) before.2

      no_reduction_at_end : (s t p : ℕ) → s < graph_len graph → HasReduce g (sets_of graph) s t p
          → HasAccept g (sets_of graph) s t → ⊥
      no_reduction_at_end s t p within candidate accepts =
          let is = accept_at_end s t within accepts in
          alone s within (
            subst (λ (n : ℕ). HasAccept g (sets_of graph) s n) is accepts,
            (p, subst (λ (n : ℕ). HasReduce g (sets_of graph) s n p) is candidate),
          )

      one_action : HaveOneAction g (graph_len graph) (sets_of graph)
      one_action s t (ShiftTo n) (ShiftTo m) within candidate also = ap (λ (k : ℕ). ShiftTo k) (one_next s t n m candidate also)
      one_action s t (ShiftTo n) (ReduceBy p) within candidate also = absurd (no_shift_conflict s t p within candidate.0 also)
      one_action s t (ShiftTo n) Accepts within candidate also = absurd (no_shift_of_end s t within candidate.0 also)
      one_action s t (ShiftTo n) Fails within candidate also = absurd also
      one_action s t (ReduceBy p) (ShiftTo n) within candidate also = absurd (no_shift_conflict s t p within also.0 candidate)
      one_action s t (ReduceBy p) (ReduceBy q) within candidate also = ap (λ (k : ℕ). ReduceBy k) (one_reduction s t p q within candidate also)
      one_action s t (ReduceBy p) Accepts within candidate also = absurd (no_reduction_at_end s t p within candidate also)
      one_action s t (ReduceBy p) Fails within candidate also = absurd also
      one_action s t Accepts (ShiftTo n) within candidate also = absurd (no_shift_of_end s t within also.0 candidate)
      one_action s t Accepts (ReduceBy p) within candidate also = absurd (no_reduction_at_end s t p within also candidate)
      one_action s t Accepts Accepts within candidate also = refl
      one_action s t Accepts Fails within candidate also = absurd also
      one_action s t Fails b within candidate also = absurd candidate

    -- if each state calls for one action, nothing can be listed
    module _ (one : HaveOneAction g (graph_len graph) (sets_of graph)) where
      no_reduce_listed : (lists : ConflictLists) → conflicts ≡ Some lists → (x : ReduceReduce)
          → Contains lists.reduce_reduce x → ⊥
      no_reduce_listed lists is x there =
          let listed = subst (λ (c : Option ConflictLists). Contains (lists_in c).reduce_reduce x) (sym is) there in
          let conflict = (are.reduce_reduce x).0 listed in
          let equal : ReduceBy x.first ≡ ReduceBy x.second =
          one x.state x.token (ReduceBy x.first) (ReduceBy x.second) conflict.0 conflict.2.0.0 conflict.2.1 in
          let same : x.first ≡ x.second = cc in
          let less = conflict.2.2 in
          omega (arith, same, less)

      no_shift_listed : (lists : ConflictLists) → conflicts ≡ Some lists → (x : ShiftReduce) → Contains lists.shift_reduce x → ⊥
      no_shift_listed lists is x there =
          let listed = subst (λ (c : Option ConflictLists). Contains (lists_in c).shift_reduce x) (sym is) there in
          let conflict = (are.shift_reduce x).0 listed in
          let next = next_state x.state x.token conflict.0 conflict.2.0 in
          let equal : ShiftTo next.0 ≡ ReduceBy x.prod =
          one x.state x.token (ShiftTo next.0) (ReduceBy x.prod) conflict.0 next.1 conflict.2.1.0 in
          absurd (cc)

      none_listed : (c : Option ConflictLists) → conflicts ≡ c → c ≡ None
      none_listed None is = refl
      none_listed (Some lists) is =
          absurd (are.some lists is
          (empty_list lists.reduce_reduce (no_reduce_listed lists is)) (empty_list lists.shift_reduce (no_shift_listed lists is)))

pub no_conflicts_are_one_action : NoConflictsAreOneAction
no_conflicts_are_one_action g graph conflicts well canonical are alone = (
  one_action g graph well canonical conflicts are alone,
  λ one. none_listed g graph well canonical conflicts are alone one conflicts refl,
)

-- what holds of all that a list contains holds of each element
pub all_contained : {X : Type 0} (P : X → Type 0) (xs : List X) → ((x : X) → Contains xs x → P x) → All P xs
all_contained P xs each i d below = each (slice_index_or xs i d) (All-contains_itself xs i d below)

module _ (g : Grammar) (graph : Graph) (well : IsWellFormed g) (canonical : IsCanonical g graph) where
  -- a conflict of a state fits
  pub reductions_fit : (x : ReduceReduce) → x.state < graph_len graph → x.token < tokens_len g → IsReduceConflict g (sets_of graph) x → ReductionsFit g x
  reductions_fit x within token conflict = record {
    token = token;
    first = (item_known g graph well canonical x.state x.first (prod_len g x.first) x.token within conflict.0.0.1).prod;
    second = (item_known g graph well canonical x.state x.second (prod_len g x.second) x.token within conflict.1.1).prod;
  }

  pub shift_fits : (x : ShiftReduce) → x.state < graph_len graph → IsShiftConflict g (sets_of graph) x → ShiftFits g x
  shift_fits x within conflict =
      let before = conflict.0 in
      record {
        token = symbol_listed g well before.0.prod before.0.dot (Terminal x.token) before.2;
        prod = (item_known g graph well canonical x.state x.prod (prod_len g x.prod) x.token within conflict.1.0.1).prod;
      }

pub canonical_conflicts_fit : CanonicalConflictsFit
canonical_conflicts_fit g graph conflicts well canonical are =
    let lists = lists_in conflicts in
    record {
      reduce_reduce = all_contained (ReductionsFit g) lists.reduce_reduce (λ x there.
          let found = (are.reduce_reduce x).0 there in reductions_fit g graph well canonical x found.0 found.1 found.2);
      shift_reduce = all_contained (ShiftFits g) lists.shift_reduce (λ x there.
          let found = (are.shift_reduce x).0 there in shift_fits g graph well canonical x found.0 found.2);
    }
