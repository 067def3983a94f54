-- What one token adds to a state's row and to its conflicts, computed from the complete cores of the state.
use Rattle.std.proofs.Common.{◌≡◌, ◌<◌, ◌+◌, ◌==◌, ◌∙◌, ℕ, Bool, List, [], All, Option, Result, Ok, Err, IfErr, IfOk, OnOk, refl, sym, ap, subst, arith, inl, inr, filter, map, nat_eq}
use Rattle.std.specs.Borrow.{Bor}
use Rattle.std.specs.List.{flat_map, range_with_len}
use Rattle.std.specs.List.Sorted.{IsNonDecreasingBy, IsPermutation}
use Rattle.std.specs.Map.{lookup}
use Rattle.std.specs.Result.{IsErrAnd}
use Rattle.std.specs.declared.vec.Vec.{Vec}
use Rattle.std.proofs.lemmas.Bool.{cases_lt}
use Rattle.std.proofs.lemmas.List.Elements.{All-filter}
use Rattle.std.proofs.lemmas.List.Sorted.{All-permutation}
use Rattle.lrpar_grammar_places.specs.declared.span.StIdx.{StIdx}
use Rattle.lrpar_grammar_places.specs.declared.span.TIdx.{TIdx}
use Rattle.lrpar_grammar.specs.Grammar.{Grammar, prod_len, start_prod, tokens_len}
use Rattle.lrpar_table_precedence.specs.Precedence.{PrecedenceLists}
use Rattle.lrpar_table_rows.specs.PlainRows.{action_entry}
use Rattle.lrpar_table_rows.specs.declared.table.Action.{Action}
use Rattle.lrpar_table_items.specs.Cores.{CoreSet, core_set}
use Rattle.lrpar_table_items.specs.Resolution.{AcceptsBeside, HasAcceptReduce, IsAcceptReduce, IsRefusal, entry_at, is_complete_at, reduce_conflicts_at, reductions, resolved_at, shift_conflicts_at, shift_entry}
use Rattle.lrpar_table_items.specs.CompleteItems.{accepts_at, prods_at}
use Rattle.lrpar_table_items.specs.StoredRows.{AddsConflicts, AppendsAt, IsRowOf, IsStateToResolve, cores_at}
use Rattle.lrpar_table_items.specs.declared.cores.CoreItems.{CoreItems}
use Rattle.lrpar_table_items.specs.declared.fault.BuildFault.{BuildFault}
use Rattle.lrpar_table_items.specs.declared.fault.BuildFault.TheVariants.{AcceptReduceConflict, Memory, StorageTooSmall, TooManyStates}
use Rattle.lrpar_table_items.specs.declared.resolution.FoundConflicts.{FoundConflicts}
use Rattle.lrpar_table_items.proofs.EntryLemmas.{adds_more, adds_none, joined_more}
use Rattle.lrpar_table_items.proofs.ResolutionLemmas.{complete_is, prods_are, sorted_image}

-- what holds of all below a number, and of that number
pub below_next : (P : ℕ → Type 0) (n : ℕ) → ((k : ℕ) → k < n → P k) → P n → (k : ℕ) → k < n + 1 → P k
below_next P n so_far here k below =
    elim (cases_lt k n) [
      | inl early ↦ so_far k early
      | inr late ↦ let at : n ≡ k = omega (arith, late, below) in subst P at here
    ]

-- a refusal at a token is a refusal of the state
refused_at : (g : Grammar) (cores : List CoreSet) (shifts : List (ℕ × ℕ)) (s t : ℕ) (reason : Type 0) (fault : BuildFault)
    → t < tokens_len g → (reason → IsAcceptReduce g cores shifts t) → IsRefusal s reason fault → IsRefusal s (HasAcceptReduce g cores shifts) fault
refused_at g cores shifts s t reason (AcceptReduceConflict n) within is refused = (refused.0, (t, within, is refused.1))
refused_at g cores shifts s t reason Memory within is refused = tt
refused_at g cores shifts s t reason TooManyStates within is refused = refused
refused_at g cores shifts s t reason StorageTooSmall within is refused = refused

-- what holds of an error holds after it is returned by `?`
pub error_same : {T E : Type 0} (result : Result T E) (P : E → Type 0) (e : E) → IsErrAnd result (λ f. f ≡ e) → P e → IfErr result P
error_same (Ok x) P e is holds = tt
error_same (Err f) P e is holds = subst P (sym is) holds

-- what is done for all is done for each
pub done_by : {X T E : Type 0} (result : Result T E) (P : X → Type 0) (x : X) → OnOk result ((y : X) → P y) → OnOk result (P x)
done_by (Ok v) P x done = done x
done_by (Err e) P x done = tt

-- four things that are done
pub done_four : {T E : Type 0} (result : Result T E) (P Q R S U : Type 0) → (P → Q → R → S → U) → OnOk result P → OnOk result Q → OnOk result R
    → IfOk result (λ _. S) → OnOk result U
done_four (Ok x) P Q R S U all p q r s = all p q r s
done_four (Err e) P Q R S U all p q r s = tt

-- what is appended at a number, for some productions, if the number is that of a token, and the productions those that are reported there
pub appended_at : {S A B : Type 0} (index : S → ℕ) (lists : PrecedenceLists) (s n t : ℕ) (shift : Option ℕ) (prods reported : List ℕ) (accepts tested : Bool)
    (before : Vec (TIdx S × Action S) A) (after : Vec (TIdx S × Action S) B) (old new : FoundConflicts S) → n ≡ t → prods ≡ reported → accepts ≡ tested
    → AppendsAt index lists s n shift prods accepts before after old new → AppendsAt index lists s t shift reported tested before after old new
appended_at index lists s n t shift prods reported accepts tested before after old new number same_prods same_accepts more =
    subst (λ a. AppendsAt index lists s t shift reported a before after old new) same_accepts
    (subst (λ ps. AppendsAt index lists s t shift ps accepts before after old new) same_prods
    (subst (λ m. AppendsAt index lists s m shift prods accepts before after old new) number more))

-- the row and the conflicts of the tokens below n
pub record IsRowBelow {S A : Type 0} (index : S → ℕ) (lists : PrecedenceLists) (g : Grammar) (s : ℕ) (cores : List CoreSet) (shifts : List (ℕ × ℕ))
    (old new : FoundConflicts S) (row : Vec (TIdx S × Action S) A) (n : ℕ) : Type 0 where
  pub entries : map (action_entry index) row.items ≡ flat_map (λ t. entry_at t (resolved_at lists g cores shifts t)) (range_with_len 0 n)
  pub conflicts : AddsConflicts index lists (flat_map (λ t. reduce_conflicts_at s t (reductions g cores t)) (range_with_len 0 n))
      (flat_map (λ t. shift_conflicts_at s t (lookup (nat_eq t) shifts) (reductions g cores t)) (range_with_len 0 n)) old new
  pub none : (t : ℕ) → t < n → ¬ (IsAcceptReduce g cores shifts t)

module _ {S : Type 0} (index : S → ℕ) (lists : PrecedenceLists) (g : Grammar) (s : ℕ) (cores : List CoreSet) (shifts : List (ℕ × ℕ)) where
  -- before the first token
  pub row_begun : {A : Type 0} (found : FoundConflicts S) (row : Vec (TIdx S × Action S) A) → row.items ≡ []
      → IsRowBelow index lists g s cores shifts found found row 0
  row_begun found row empty = record {
    entries = ap (map (action_entry index)) empty;
    conflicts = adds_none index lists found;
    none = λ t low. absurd (omega (arith, low));
  }

  -- one more token
  pub row_more : {A B : Type 0} (old made new : FoundConflicts S) (before : Vec (TIdx S × Action S) A) (after : Vec (TIdx S × Action S) B) (n : ℕ)
      → IsRowBelow index lists g s cores shifts old made before n
      → AppendsAt index lists s n (lookup (nat_eq n) shifts) (reductions g cores n) (is_complete_at g cores n (start_prod g)) before after made new
      → IsRowBelow index lists g s cores shifts old new after (n + 1)
  row_more old made new before after n so_far more = record {
    entries =
        joined_more (action_entry index) (λ t. entry_at t (resolved_at lists g cores shifts t)) n before.items after.items [] so_far.entries more.entry;
    conflicts =
        adds_more index lists (λ t. reduce_conflicts_at s t (reductions g cores t))
        (λ t. shift_conflicts_at s t (lookup (nat_eq t) shifts) (reductions g cores t)) n old made new so_far.conflicts more.conflicts;
    none = below_next (λ t. IsAcceptReduce g cores shifts t → ⊥) n so_far.none more.none;
  }

  -- all tokens
  pub row_all : {A : Type 0} (old new : FoundConflicts S) (row : Vec (TIdx S × Action S) A) (n : ℕ) → n ≡ tokens_len g
      → IsRowBelow index lists g s cores shifts old new row n → IsRowOf index lists g s cores shifts old new row
  row_all old new row n full so_far =
      let whole = subst (IsRowBelow index lists g s cores shifts old new row) full so_far in
      record { entries = whole.entries; conflicts = whole.conflicts; none = whole.none }

-- what the complete cores of a state call for at a token is what the state calls for
module _ {S : Type 0} (index : S → ℕ) (g : Grammar) (stored : List (CoreItems S)) (stored_shifts : List (TIdx S × StIdx S))
    (given : IsStateToResolve index g stored stored_shifts) (ends : List (Bor (CoreItems S))) (start : ℕ)
    (moved : IsPermutation (filter (λ core. core.dot == prod_len g core.prod) (map (core_set index) stored)) (cores_at index ends))
    (ascend : IsNonDecreasingBy (λ core. index core.now.prod.0) ends) (is : start ≡ start_prod g) (s t : ℕ) (shift : Option ℕ)
    (same_shift : shift ≡ lookup (nat_eq t) (map (shift_entry index) stored_shifts)) where
  abbrev cores : List CoreSet
  cores = map (core_set index) stored

  abbrev complete : List CoreSet
  complete = cores_at index ends

  abbrev shifts : List (ℕ × ℕ)
  shifts = map (shift_entry index) stored_shifts

  reductions_are : prods_at start complete t ≡ reductions g cores t
  reductions_are =
      let sorted = sorted_image (λ core. core_set index core.now) (λ core. core.prod) ends ascend in
      let low : All (λ (core : CoreSet). core.prod < start_prod g + 1) cores =
      λ k d within. let one = given.prods k d within in omega (arith, one) in
      let kept = All-permutation (λ (core : CoreSet). core.prod < start_prod g + 1) _ complete moved
      (All-filter (λ core. core.dot == prod_len g core.prod) (λ (core : CoreSet). core.prod < start_prod g + 1) cores low) in
      ap (λ n. prods_at n complete t) is ∙ prods_are g cores complete moved sorted given.once kept t

  accepts_are : accepts_at start complete t ≡ is_complete_at g cores t (start_prod g)
  accepts_are = ap (λ n. accepts_at n complete t) is ∙ complete_is g cores complete moved t (start_prod g)

  pub met_at : {A B : Type 0} (lists : PrecedenceLists) (before : Vec (TIdx S × Action S) A) (after : Vec (TIdx S × Action S) B) (old new : FoundConflicts S)
      → AppendsAt index lists s t shift (prods_at start complete t) (accepts_at start complete t) before after old new
      → AppendsAt index lists s t (lookup (nat_eq t) shifts) (reductions g cores t) (is_complete_at g cores t (start_prod g)) before after old new
  met_at lists before after old new more =
      appended_at index lists s t t (lookup (nat_eq t) shifts) (prods_at start complete t) (reductions g cores t) (accepts_at start complete t)
      (is_complete_at g cores t (start_prod g)) before after old new refl reductions_are accepts_are
      (subst (λ x. AppendsAt index lists s t x (prods_at start complete t) (accepts_at start complete t) before after old new) same_shift more)

  -- so a refusal at a token is a refusal of the state
  pub refusal_met : (fault : BuildFault) → t < tokens_len g → IsRefusal s (AcceptsBeside shift (prods_at start complete t) (accepts_at start complete t)) fault
      → IsRefusal s (HasAcceptReduce g cores shifts) fault
  refusal_met fault within refused =
      let beside : AcceptsBeside shift (prods_at start complete t) (accepts_at start complete t) ≡ IsAcceptReduce g cores shifts t =
      ap (λ x. AcceptsBeside x (prods_at start complete t) (accepts_at start complete t)) same_shift
      ∙ ap (λ x. AcceptsBeside (lookup (nat_eq t) shifts) x (accepts_at start complete t)) reductions_are
      ∙ ap (AcceptsBeside (lookup (nat_eq t) shifts) (reductions g cores t)) accepts_are in
      refused_at g cores shifts s t (AcceptsBeside shift (prods_at start complete t) (accepts_at start complete t)) fault within
      (λ h. subst (λ P. P) beside h) refused
