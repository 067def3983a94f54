-- The first token at which a chain of a state is too long, by the stored entries: the chain makes a reduction, which its top
-- stores.
use Rattle.std.proofs.Common.{◌≡◌, ◌≢◌, ◌<◌, ◌≤◌, ◌+◌, ◌↔◌, ◌∙◌, inl, inr, refl, sym, ap, subst, arith, add-one, ℕ, suc, List, [], ◌∷◌, length, Option, Some, None, slice_index_or, All, map}
use Rattle.std.specs.List.{Contains, zip}
use Rattle.std.specs.List.Sorted.{IsStrictlyIncreasing}
use Rattle.std.specs.Map.{keys_of}
use Rattle.std.specs.Option.{option_to_list, unwrap_or}
use Rattle.std.proofs.lemmas.Bool.{cases_eq, cases_lt}
use Rattle.std.proofs.lemmas.List.{get_or-map, length-map}
use Rattle.std.proofs.lemmas.List.Kept.{AllPairs-from_increasing}
use Rattle.lrpar_grammar.specs.Grammar.{Grammar}
use Rattle.lrpar_grammar_places.specs.declared.span.RIdx.{RIdx}
use Rattle.lrpar_grammar_places.specs.declared.span.StIdx.{StIdx}
use Rattle.lrpar_grammar_places.specs.declared.span.TIdx.{TIdx}
use Rattle.lrpar_table_stacks.specs.Chain.{HasReductions, IsLongChain, IsShortUntil}
use Rattle.lrpar_table_stacks.specs.Stack.{top_of}
use Rattle.lrpar_table_rows.proofs.StoredLemmas.{entries_len, entry_read}
use Rattle.lrpar_table_rows.proofs.TestLemmas.{each_more}
use Rattle.lrpar_table_stacks.proofs.StepLemmas.{action_by_top}
use Rattle.lrpar_table_rows.specs.PlainRows.{action_entry, plain_action, plain_goto}
use Rattle.lrpar_table_rows.specs.StoredRows.{AreGotosAt}
use Rattle.lrpar_table_rows.specs.Table.{AreGotosWithin, IsActionEntry, IsGotoEntry, StoresGotos, Table, TableAction, ReduceBy, Fails, action_of, actions_at, goto_of, gotos_at, states_len}
use Rattle.lrpar_table_check.specs.Counts.{IsGoto}
use Rattle.lrpar_table_rows.specs.declared.rows.Action.{Action}

-- a chain that makes a reduction begins with one of its top
pub top_reduces : (g : Grammar) (table : Table) (cap s : ℕ) (st : List ℕ) → top_of st ≡ Some s → (t : ℕ) → HasReductions g table t st (cap + 1)
    → (p : ℕ) × (action_of table s t ≡ ReduceBy p)
top_reduces g table cap s st top t long =
    let made : HasReductions g table t st (suc cap) = rw add-one at long in
    let top_is = action_by_top table t st s top in
    elim made as (λ _. (p : ℕ) × (action_of table s t ≡ ReduceBy p)) [
      | inl more ↦ (more.0, sym top_is ∙ more.2.action)
      | inr last ↦ (last.0.0, sym top_is ∙ last.0.1)
    ]

-- the top of a chain's start
pub start_top : {S : Type 0} (index : S → ℕ) (s top : StIdx S) (above : Option (StIdx S)) → top ≡ unwrap_or above s
    → top_of (index s.0 ∷ option_to_list (plain_goto index above)) ≡ Some (index top.0)
start_top index s top None is = ap (λ x. Some (index x.0)) (sym is)
start_top index s top (Some next) is = ap (λ x. Some (index x.0)) (sym is)

-- the key of an entry
key_at : {X : Type 0} (es : List (ℕ × X)) (i : ℕ) (e : ℕ × X) → i < length es → e ≡ slice_index_or es i e → slice_index_or (keys_of es) i 0 ≡ e.0
key_at {X} es i e below read = get_or-map (λ (x : ℕ × X). x.0) es i e 0 below ∙ ap (λ (x : ℕ × X). x.0) (sym read)

-- what holds at a token only if a state reduces there
module _ (table : Table) (s : ℕ) (es : List (ℕ × TableAction))
    (exact : (t : ℕ) (action : TableAction) → Contains es (t, action) ↔ ((action_of table s t ≡ action) × (action ≢ Fails))) (P : ℕ → Type 0)
    (reduces : (t : ℕ) → P t → (p : ℕ) × (action_of table s t ≡ ReduceBy p)) where
  -- it holds only at the token of an entry
  stored : (t : ℕ) → P t → (p : ℕ) × Contains es (t, ReduceBy p)
  stored t holds = let r = reduces t holds in (r.0, (exact t (ReduceBy r.0)).1 (r.1, λ h. absurd cc))

  -- if it holds at the token of no entry, it never does
  never_stored : (i : ℕ) → length es ≤ i → ((k : ℕ) (d : ℕ × TableAction) → k < i → ¬ (P (slice_index_or es k d).0)) → (t : ℕ) → ¬ (P t)
  never_stored i end fails t holds =
      let there = stored t holds in
      let at : P (slice_index_or es there.1.0 (t, ReduceBy there.0)).0 = subst (λ (e : ℕ × TableAction). P e.0) (sym there.1.2) holds in
      fails there.1.0 (t, ReduceBy there.0) (omega (arith, there.1.1, end)) at

  -- if it holds at the token of no entry before one, it doesn't hold below the token of that one
  not_before : IsStrictlyIncreasing (keys_of es) → (i : ℕ) (e : ℕ × TableAction) → i < length es → e ≡ slice_index_or es i e
      → ((k : ℕ) (d : ℕ × TableAction) → k < i → ¬ (P (slice_index_or es k d).0)) → (t : ℕ) → t < e.0 → ¬ (P t)
  not_before up i e below read fails t before holds =
      let there = stored t holds in
      let j = there.1.0 in
      let found : ℕ × TableAction = (t, ReduceBy there.0) in
      let at : P (slice_index_or es j found).0 = subst (λ (x : ℕ × TableAction). P x.0) (sym there.1.2) holds in
      let here : slice_index_or (keys_of es) i 0 ≡ e.0 = key_at es i e below read in
      let key : slice_index_or (keys_of es) j 0 ≡ t = key_at es j found there.1.1 (sym there.1.2) in
      let len : length (keys_of es) ≡ length es = length-map es (λ (x : ℕ × TableAction). x.0) in
      elim (cases_lt j i) as (λ _. ⊥) [
        | inl less ↦ fails j found less at
        | inr more ↦
            elim (cases_eq i j) as (λ _. ⊥) [
              | inl same ↦
                  let both : slice_index_or (keys_of es) i 0 ≡ slice_index_or (keys_of es) j 0 = ap (λ (k : ℕ). slice_index_or (keys_of es) k 0) same in
                  omega (arith, here, key, both, before)
              | inr other ↦
                  let less = AllPairs-from_increasing (keys_of es) up i j 0 (omega (arith, more, other)) (omega (arith, len, there.1.1)) in
                  omega (arith, here, key, less, before)
            ]
      ]

-- what is known at an entry of the row of a chain's top, if the chain is too long at the token of none before it
pub record IsAtEntry (Long : ℕ → Type 0) (tokens token : ℕ) (action : TableAction) (es more : List (ℕ × TableAction)) (place : ℕ) : Type 0 where
  pub within : token < tokens
  pub before : (t : ℕ) → t < token → ¬ (Long t)
  pub reduces : Long token → (p : ℕ) × (action ≡ ReduceBy p)
  pub more_fail : ¬ (Long token) → (k : ℕ) (d : ℕ × TableAction) → k < place + 1 → ¬ (Long (slice_index_or more k d).0)

module _ {S : Type 0} (index : S → ℕ) (g : Grammar) (table : Table) (cap : ℕ) (s top : StIdx S) (above : Option (StIdx S)) (is : top ≡ unwrap_or above s)
    (ts : List (TIdx S)) (actions : List (Action S)) (entries : map (action_entry index) (zip ts actions) ≡ actions_at table (index top.0))
    (paired : length actions ≡ length ts)
    (exact : (t : ℕ) (action : TableAction) → Contains (actions_at table (index top.0)) (t, action) ↔ ((action_of table (index top.0) t ≡ action) × (action ≢ Fails)))
    (place : ℕ)
    (fails : (k : ℕ) (d : ℕ × TableAction) → k < place
    → ¬ (HasReductions g table (slice_index_or (actions_at table (index (unwrap_or above s).0)) k d).0 (index s.0 ∷ option_to_list (plain_goto index above)) (cap + 1))) where
  abbrev chain : List ℕ
  chain = index s.0 ∷ option_to_list (plain_goto index above)

  abbrev Long : ℕ → Type 0
  Long t = HasReductions g table t chain (cap + 1)

  abbrev row : List (ℕ × TableAction)
  row = actions_at table (index top.0)

  long_reduces : (t : ℕ) → Long t → (p : ℕ) × (action_of table (index top.0) t ≡ ReduceBy p)
  long_reduces = top_reduces g table cap (index top.0) chain (start_top index s top above is)

  row_is : index top.0 ≡ index (unwrap_or above s).0
  row_is = ap (λ (x : StIdx S). index x.0) is

  row_fails : (k : ℕ) (d : ℕ × TableAction) → k < place → ¬ (Long (slice_index_or row k d).0)
  row_fails = subst (λ (r : ℕ). (k : ℕ) (d : ℕ × TableAction) → k < place → ¬ (Long (slice_index_or (actions_at table r) k d).0)) (sym row_is) fails

  row_len : length row ≡ length ts
  row_len = entries_len (λ t. index t.0) (plain_action index) ts actions row paired entries

  -- past the last entry it is too long at no token
  pub row_ended : length ts ≤ place → (t : ℕ) → ¬ (Long t)
  row_ended past = never_stored table (index top.0) row exact Long long_reduces place (omega (arith, row_len, past)) row_fails

  pub row_entry : IsStrictlyIncreasing (keys_of row) → All (IsActionEntry table.tokens (states_len table)) row → (t : TIdx S) (action : Action S) → place < length ts
      → t ≡ slice_index_or ts place t → action ≡ slice_index_or actions place action
      → IsAtEntry Long table.tokens (index t.0) (plain_action index action) row (actions_at table (index (unwrap_or above s).0)) place
  row_entry ascending good t action low t_at action_at =
      let e : ℕ × TableAction = (index t.0, plain_action index action) in
      let read = entry_read (λ x. index x.0) (plain_action index) ts actions row paired entries place t action low t_at action_at in
      let below : place < length row = omega (arith, row_len, low) in
      let entry = subst (IsActionEntry table.tokens table.states) (sym read) (good place e below) in
      let there : Contains row e = (place, below, sym read) in
      record {
        within = entry.token;
        before = not_before table (index top.0) row exact Long long_reduces ascending place e below read row_fails;
        reduces = λ long. let made = long_reduces e.0 long in (made.0, sym ((exact e.0 e.1).0 there).0 ∙ made.1);
        more_fail = λ short.
            subst (λ (r : ℕ). (k : ℕ) (d : ℕ × TableAction) → k < place + 1 → ¬ (Long (slice_index_or (actions_at table r) k d).0)) row_is
            (each_more (λ (x : ℕ × TableAction). ¬ (Long x.0)) row place e below read short row_fails);
      }

-- what is known at an entry of a row of gotos
pub record IsStoredGoto (table : Table) (s r next place : ℕ) : Type 0 where
  pub below : place < length (gotos_at table s)
  pub read : ◌≡◌ {A = ℕ × ℕ} (r, next) (slice_index_or (gotos_at table s) place (r, next))
  pub goto : IsGoto table s r next
  pub within : next < states_len table

module _ {S : Type 0} (index : S → ℕ) (table : Table) (s : StIdx S) (rs : List (RIdx S)) (states : List (StIdx S)) (entries : AreGotosAt index table s rs states)
    (paired : length states ≡ length rs) where
  -- there are as many gotos as rules
  pub gotos_len : length (gotos_at table (index s.0)) ≡ length rs
  gotos_len = entries_len (λ r. index r.0) (λ x. index x.0) rs states (gotos_at table (index s.0)) paired entries

  pub stored_goto : StoresGotos table (index s.0) → AreGotosWithin table (index s.0) → (place : ℕ) (rule : RIdx S) (next : StIdx S) → place < length rs
      → rule ≡ slice_index_or rs place rule → next ≡ slice_index_or states place next → IsStoredGoto table (index s.0) (index rule.0) (index next.0) place
  stored_goto exact within place rule next low rule_at next_at =
      let e : ℕ × ℕ = (index rule.0, index next.0) in
      let read = entry_read (λ r. index r.0) (λ x. index x.0) rs states (gotos_at table (index s.0)) paired entries place rule next low rule_at next_at in
      let below : place < length (gotos_at table (index s.0)) = omega (arith, gotos_len, low) in
      let entry = subst (IsGotoEntry table.rules (states_len table)) (sym read) (within place e below) in
      record {
        below = below;
        read = read;
        goto = record { rule = entry.rule; goes = (exact e.0 e.1).0 (place, below, sym read) };
        within = entry.within;
      }

-- At the tokens below `end` neither the chain that begins with s alone is too long, nor one that begins with one of its
-- first gotos; and at `end` one is, if that is a token.
pub record IsFirstOf (g : Grammar) (table : Table) (cap s : ℕ) (es : List (ℕ × ℕ)) (tokens gotos end : ℕ) : Type 0 where
  pub within : end ≤ tokens
  pub long : end < tokens → IsLongChain g table cap s end
  pub alone : (t : ℕ) → t < end → ¬ (HasReductions g table t (s ∷ []) (cap + 1))
  pub with_goto : (k : ℕ) (d : ℕ × ℕ) → k < gotos → (t : ℕ) → t < end → ¬ (HasReductions g table t (s ∷ (slice_index_or es k d).1 ∷ []) (cap + 1))

module _ (g : Grammar) (table : Table) (cap s : ℕ) (es : List (ℕ × ℕ)) (tokens : ℕ)
    (exact : (r next : ℕ) → Contains es (r, next) ↔ (goto_of table s r ≡ Some next)) where
  -- at first none of the gotos is covered
  pub first_alone : (end : ℕ) → IsShortUntil g table cap (s ∷ []) tokens end → IsFirstOf g table cap s es tokens 0 end
  first_alone end found = record {
    within = found.within;
    long = λ below. (s ∷ [], inl refl, found.long below);
    alone = found.short;
    with_goto = λ k d none. absurd (omega (arith, none));
  }

  -- one goto more
  pub first_more : (i end : ℕ) (e : ℕ × ℕ) (found : ℕ) → i < length es → e ≡ slice_index_or es i e → IsFirstOf g table cap s es tokens i end
      → IsShortUntil g table cap (s ∷ e.1 ∷ []) end found → IsFirstOf g table cap s es tokens (i + 1) found
  first_more i end e found below read so_far more = record {
    within = omega (arith, so_far.within, more.within);
    long = λ token.
        elim (cases_lt found end) as (λ _. IsLongChain g table cap s found) [
          | inl less ↦ (s ∷ e.1 ∷ [], inr (e.0, e.1, (exact e.0 e.1).0 (i, below, sym read), refl), more.long less)
          | inr same ↦
              let is : end ≡ found = omega (arith, same, more.within) in
              subst (λ (t : ℕ). IsLongChain g table cap s t) is (so_far.long (omega (arith, is, token)))
        ];
    alone = λ t before. so_far.alone t (omega (arith, before, more.within));
    with_goto =
        each_more (λ (x : ℕ × ℕ). (t : ℕ) → t < found → ¬ (HasReductions g table t (s ∷ x.1 ∷ []) (cap + 1))) es i e below read more.short
        (λ k d less t before. so_far.with_goto k d less t (omega (arith, before, more.within)));
  }

  -- in the end of all chains of s
  pub first_of_all : (i end : ℕ) → length es ≤ i → IsFirstOf g table cap s es tokens i end → (t : ℕ) → t < end → ¬ (IsLongChain g table cap s t)
  first_of_all i end all found t before long =
      let Made : List ℕ → Type 0 = λ st. HasReductions g table t st (cap + 1) in
      elim long.1 as (λ _. ⊥) [
        | inl alone ↦ found.alone t before (subst Made alone long.2)
        | inr over ↦
            let there = (exact over.0 over.1).1 over.2 in
            let next : (slice_index_or es there.0 (over.0, over.1)).1 ≡ over.1 = ap (λ (x : ℕ × ℕ). x.1) there.2 in
            let made : Made (s ∷ over.1 ∷ []) = subst Made over.3 long.2 in
            found.with_goto there.0 (over.0, over.1) (omega (arith, there.1, all)) t before
            (subst (λ (n : ℕ). Made (s ∷ n ∷ [])) (sym next) made)
      ]
