-- Counting the chains of a state: a chain by its first reduction, and a row by the entries of its top.
use Rattle.std.proofs.Common.{◌≡◌, ◌≢◌, ◌<◌, ◌≤◌, ◌+◌, ◌-◌, ◌∙◌, ◌↔◌, ◌⊎◌, inl, inr, refl, sym, ap, subst, arith, ℕ, suc, List, [], ◌∷◌, ◌++◌, drop, length, Option, Some, None, Vec, max, set, slice_index, slice_index_or, take, All, map}
use Rattle.std.specs.List.{Contains, zip}
use Rattle.std.specs.Option.{MatchOption, option_to_list, unwrap_or}
use Rattle.std.proofs.Math.Nat.{le-max_left, le-max_right}
use Rattle.std.proofs.Math.Seq.{take-append_seam}
use Rattle.std.proofs.lemmas.Bool.{cases_eq}
use Rattle.std.proofs.lemmas.List.{get_or_default, get_or-set_other, get_or-set_same}
use Rattle.lrpar_grammar.specs.Grammar.{Grammar, prods_len, prod_len, rule_of}
use Rattle.lrpar_grammar_places.specs.declared.span.PIdx.{PIdx}
use Rattle.lrpar_grammar_places.specs.declared.span.StIdx.{StIdx}
use Rattle.lrpar_grammar_places.specs.declared.span.TIdx.{TIdx}
use Rattle.lrpar_table_stacks.specs.Chain.{DropsAll, HasReductions}
use Rattle.lrpar_table_stacks.specs.Reduction.{Reduces, left_by, top_action, top_goto}
use Rattle.lrpar_table_stacks.specs.Stack.{top_of}
use Rattle.lrpar_table_stacks.proofs.StepLemmas.{action_by_top, goes_on_dropped, goes_on_reduced}
use Rattle.lrpar_table_stacks.specs.ReductionStep.{FitsGrammar}
use Rattle.lrpar_table_rows.proofs.StoredLemmas.{entries_len, entry_read}
use Rattle.lrpar_table_rows.specs.PlainRows.{action_entry, plain_action, plain_goto}
use Rattle.lrpar_table_rows.specs.Table.{IsActionEntry, Table, TableAction, ShiftTo, ReduceBy, Accepts, Fails, action_of, actions_at, goto_of, states_len}
use Rattle.lrpar_table_rows.specs.declared.rows.Action.{Action}
use Rattle.lrpar_table_rows.specs.declared.rows.Action.TheVariants.{Shift, Reduce, Accept, Error}
use Rattle.lrpar_table_check.specs.Counts.{AreCounts, AreLengths, AreRowsCounted, IsGoto, IsRowCounted}
use Rattle.lrpar_table_check.specs.Lengths.{IsCounted, IsLength, IsLongest}
use Rattle.lrpar_table_check.proofs.ChainEntryLemmas.{start_top, top_reduces}
use Rattle.lrpar_table_check.proofs.LeastCapLemmas.{fewer_not}
use Rattle.lrpar_table_check.proofs.LongestLemmas.{max_one}

-- what a chain makes it makes within each cap from there on
pub length_at : (g : Grammar) (table : Table) (cap other t : ℕ) (st : List ℕ) (made : ℕ) → made ≤ other → IsLength g table cap t st made
    → IsLength g table other t st made
length_at g table cap other t st made within h = record { within = within; makes = h.makes; no_more = h.no_more }

-- rows that are counted within a cap are so within a greater one
pub rows_at : {A : Type 0} (g : Grammar) (table : Table) (small large s : ℕ) (rows : List (Vec ℕ A)) → small ≤ large → AreRowsCounted g table small s rows
    → AreRowsCounted g table large s rows
rows_at {A} g table small large s rows below h r d within =
    elim (h r d within) as (λ _. IsRowCounted g table large s r (slice_index_or rows r d).items) [
      | inl none ↦ inl none
      | inr counted ↦ inr (
        counted.0,
        counted.1,
        λ t. let here = counted.2 t in
            length_at g table small large t (s ∷ counted.0 ∷ []) (slice_index (slice_index_or rows r d).items t) (omega (arith, here.within, below)) here,
      )
    ]

-- a chain whose first reduction is known
module _ (g : Grammar) (table : Table) (t : ℕ) (st : List ℕ) (cap : ℕ) where
  -- it makes one more than this number
  pub counted_more : (o : Option ℕ) (made : ℕ) → made ≤ cap → HasReductions g table t st (made + 1) → ¬ (HasReductions g table t st (made + 2))
      → MatchOption o (cap ≤ made) (λ more. (more ≡ made + 1) × (more ≤ cap)) → IsCounted g table cap t st o
  counted_more None made within makes no_more over =
      let e : made ≡ cap = omega (arith, within, over) in subst (λ (n : ℕ). HasReductions g table t st (n + 1)) e makes
  counted_more (Some more) made within makes no_more is = record {
    within = is.1;
    makes = subst (λ (n : ℕ). HasReductions g table t st n) (sym is.0) makes;
    no_more = λ h.
        let e : more + 1 ≡ made + 2 = omega (arith, is.0) in no_more (subst (λ (n : ℕ). HasReductions g table t st n) e h);
  }

  -- the first reduction drops all states
  pub counted_drop : (o : Option ℕ) → DropsAll g table t st → MatchOption o (cap ≤ 0) (λ more. (more ≡ 0 + 1) × (more ≤ cap)) → IsCounted g table cap t st o
  counted_drop o drops is =
      counted_more o 0 (omega arith) (inr (drops, refl)) (λ h. let none : 1 ≡ 0 = goes_on_dropped g table t st 1 drops h in absurd (omega (arith, none))) is

  -- it leads to states from which the rest was counted
  pub counted_step : (o : Option ℕ) (p : ℕ) (after : List ℕ) (made : ℕ) → Reduces g table t st p after → IsLength g table cap t after made
      → MatchOption o (cap ≤ made) (λ more. (more ≡ made + 1) × (more ≤ cap)) → IsCounted g table cap t st o
  counted_step o p after made reduces length is =
      let one : suc made ≡ made + 1 = omega arith in
      let two : made + 2 ≡ suc (made + 1) = omega arith in
      let makes : HasReductions g table t st (suc made) = (goes_on_reduced g table t st p after made reduces).1 length.makes in
      counted_more o made length.within (subst (λ (n : ℕ). HasReductions g table t st n) one makes)
      (λ h. length.no_more ((goes_on_reduced g table t st p after (made + 1) reduces).0 (subst (λ (n : ℕ). HasReductions g table t st n) two h))) is

-- a production with one symbol less than there are states leaves the lowest one, and its goto comes onto that
pub reduces_to_goto : (g : Grammar) (table : Table) (t s p next : ℕ) (above : List ℕ) → top_action table t (s ∷ above) ≡ ReduceBy p → p < prods_len g
    → prod_len g p + 1 ≡ length (s ∷ above) → goto_of table s (rule_of g p) ≡ Some next → Reduces g table t (s ∷ above) p (s ∷ next ∷ [])
reduces_to_goto g table t s p next above action known one goes =
    let many : length (s ∷ above) - prod_len g p ≡ 1 = omega (arith, one) in
    let left : left_by g p (s ∷ above) ≡ s ∷ [] = ap (λ (n : ℕ). take n (s ∷ above)) many in
    record {
      action = action;
      known = known;
      deep = omega (arith, one);
      state = next;
      goto = subst (λ (l : List ℕ). top_goto table (rule_of g p) l ≡ Some next) (sym left) goes;
      pushed = ap (λ (l : List ℕ). l ++ next ∷ []) (sym left);
    }

-- so what a row says of the rule of such a production, it says of the chain after its reduction
pub counted_by_row : (g : Grammar) (table : Table) (cap t s p : ℕ) (above row : List ℕ) (o : Option ℕ) → IsRowCounted g table cap s (rule_of g p) row → t < length row
    → top_action table t (s ∷ above) ≡ ReduceBy p → p < prods_len g → prod_len g p + 1 ≡ length (s ∷ above)
    → MatchOption o (cap ≤ slice_index row t) (λ more. (more ≡ slice_index row t + 1) × (more ≤ cap)) → IsCounted g table cap t (s ∷ above) o
counted_by_row g table cap t s p above row o counted within action known one is =
    elim counted as (λ _. IsCounted g table cap t (s ∷ above) o) [
      | inl none ↦ let empty : length row ≡ 0 = ap (λ (l : List ℕ). length l) none in absurd (omega (arith, empty, within))
      | inr row_is ↦
          counted_step g table t (s ∷ above) cap o p (s ∷ row_is.0 ∷ []) (slice_index row t)
          (reduces_to_goto g table t s p row_is.0 above action known one row_is.1) (row_is.2 t) is
    ]

-- an action is a reduction, or it isn't
action_cases : (a : TableAction) → ((p : ℕ) × (a ≡ ReduceBy p)) ⊎ ((p : ℕ) → ¬ (a ≡ ReduceBy p))
action_cases (ShiftTo next) = inr (λ p e. absurd cc)
action_cases (ReduceBy q) = inl (q, refl)
action_cases Accepts = inr (λ p e. absurd cc)
action_cases Fails = inr (λ p e. absurd cc)

-- a reduction is stored for the token at this place or after it
abbrev pub IsPending : List (ℕ × TableAction) → ℕ → ℕ → Type 0
IsPending es place t = (k p : ℕ) × (place ≤ k) × (k < length es) × (slice_index_or es k (t, ReduceBy p) ≡ (t, ReduceBy p))

-- the row of a chain, and the greatest number in it, when the entries of the chain's top before a place are done: the row is
-- right at each token for which no reduction is stored at that place or after it
pub record IsRowUntil (g : Grammar) (table : Table) (cap : ℕ) (st : List ℕ) (es : List (ℕ × TableAction)) (from place longest : ℕ) (row : List ℕ) : Type 0 where
  pub within : longest ≤ cap
  pub above : from ≤ longest
  pub reached : from < longest → (t : ℕ) × (t < table.tokens) × HasReductions g table t st longest
  pub each : (t : ℕ) → IsLength g table longest t st (slice_index row t) ⊎ IsPending es place t

module _ (g : Grammar) (table : Table) (cap : ℕ) (st : List ℕ) (es : List (ℕ × TableAction)) (from : ℕ) where
  -- in the beginning the row has zeros
  pub row_zeros : (s : ℕ) (row : List ℕ) → top_of st ≡ Some s
      → ((t : ℕ) (action : TableAction) → Contains es (t, action) ↔ ((action_of table s t ≡ action) × (action ≢ Fails)))
      → ((t : ℕ) → slice_index row t ≡ 0) → from ≤ cap → IsRowUntil g table cap st es from 0 from row
  row_zeros s row top exact zeros within = record {
    within = within;
    above = omega arith;
    reached = λ none. absurd (omega (arith, none));
    each = λ t.
        elim (action_cases (action_of table s t)) as (λ _. IsLength g table from t st (slice_index row t) ⊎ IsPending es 0 t) [
          | inl stored ↦
              let there = (exact t (ReduceBy stored.0)).1 (stored.1, λ h. absurd cc) in
              inr (there.0, stored.0, omega arith, there.1, there.2)
          | inr other ↦
              let none : IsLength g table from t st 0 = record {
                within = omega arith;
                makes = tt;
                no_more = λ h. let first = top_reduces g table 0 s st top t h in other first.0 first.1;
              } in
              inl (subst (λ (n : ℕ). IsLength g table from t st n) (sym (zeros t)) none)
        ];
  }

  -- what is pending after an entry that isn't of this token
  pending_more : (place t : ℕ) (e : ℕ × TableAction) → place < length es → e ≡ slice_index_or es place e → ((p : ℕ) → e ≡ (t, ReduceBy p) → ⊥) → IsPending es place t
      → IsPending es (place + 1) t
  pending_more place t e low read differs (k, p, from_on, below, is) =
      elim (cases_eq k place) as (λ _. IsPending es (place + 1) t) [
        | inl same ↦
            let found : ℕ × TableAction = (t, ReduceBy p) in
            let here : slice_index_or es place found ≡ found = subst (λ (n : ℕ). slice_index_or es n found ≡ found) same is in
            absurd (differs p (read ∙ get_or_default es place e found low ∙ here))
        | inr other ↦ (k, p, omega (arith, from_on, other), below, is)
      ]

  -- an entry that is no reduction changes nothing
  pub row_same : (place longest : ℕ) (row : List ℕ) (e : ℕ × TableAction) → place < length es → e ≡ slice_index_or es place e → ((p : ℕ) → ¬ (e.1 ≡ ReduceBy p))
      → IsRowUntil g table cap st es from place longest row → IsRowUntil g table cap st es from (place + 1) longest row
  row_same place longest row e low read other h = record {
    within = h.within;
    above = h.above;
    reached = h.reached;
    each = λ t.
        elim (h.each t) as (λ _. IsLength g table longest t st (slice_index row t) ⊎ IsPending es (place + 1) t) [
          | inl right ↦ inl right
          | inr waits ↦ inr (pending_more place t e low read (λ p is. other p (ap (λ (x : ℕ × TableAction). x.1) is)) waits)
        ];
  }

  -- after a reduction the row has its number
  pub row_more : (place longest made more : ℕ) (row : List ℕ) (e : ℕ × TableAction) → place < length es → e ≡ slice_index_or es place e → e.0 < table.tokens
      → e.0 < length row → IsLength g table cap e.0 st made → longest ≤ more → made ≤ more → (more ≡ longest) ⊎ (more ≡ made)
      → IsRowUntil g table cap st es from place longest row → IsRowUntil g table cap st es from (place + 1) more (set row e.0 made)
  row_more place longest made more row e low read known inside counted over covers which h = record {
    within = elim which as (λ _. more ≤ cap) [ inl same ↦ omega (arith, same, h.within) | inr new ↦ omega (arith, new, counted.within) ];
    above = omega (arith, over, h.above);
    reached = λ higher.
        elim which as (λ _. (t : ℕ) × (t < table.tokens) × HasReductions g table t st more) [
          | inl same ↦
              let old = h.reached (omega (arith, same, higher)) in (old.0, old.1, subst (λ (n : ℕ). HasReductions g table old.0 st n) (sym same) old.2)
          | inr new ↦ (e.0, known, subst (λ (n : ℕ). HasReductions g table e.0 st n) (sym new) counted.makes)
        ];
    each = λ t.
        elim (cases_eq t e.0) as (λ _. IsLength g table more t st (slice_index (set row e.0 made) t) ⊎ IsPending es (place + 1) t) [
          | inl same ↦
              let now : slice_index (set row e.0 made) e.0 ≡ made = get_or-set_same row e.0 made 0 inside in
              let right : IsLength g table more e.0 st (slice_index (set row e.0 made) e.0) =
              subst (λ (n : ℕ). IsLength g table more e.0 st n) (sym now) (length_at g table cap more e.0 st made covers counted) in
              inl (subst (λ (u : ℕ). IsLength g table more u st (slice_index (set row e.0 made) u)) (sym same) right)
          | inr other ↦
              let was : slice_index (set row e.0 made) t ≡ slice_index row t = get_or-set_other row e.0 t made 0 other in
              elim (h.each t) as (λ _. IsLength g table more t st (slice_index (set row e.0 made) t) ⊎ IsPending es (place + 1) t) [
                | inl right ↦
                    inl (subst (λ (n : ℕ). IsLength g table more t st n) (sym was)
                    (length_at g table longest more t st (slice_index row t) (omega (arith, right.within, over)) right))
                | inr waits ↦ inr (pending_more place t e low read (λ p is. other (sym (ap (λ (x : ℕ × TableAction). x.0) is))) waits)
              ]
        ];
  }

  -- in the end it is right at each token
  pub row_all : (place longest : ℕ) (row : List ℕ) → length es ≤ place → IsRowUntil g table cap st es from place longest row → AreLengths g table longest st row
  row_all place longest row end h t =
      elim (h.each t) as (λ _. IsLength g table longest t st (slice_index row t)) [
        | inl right ↦ right
        | inr waits ↦ absurd (omega (arith, end, waits.2, waits.3))
      ]

-- a chain makes no more than a right row says
pub row_passes : (g : Grammar) (table : Table) (longest : ℕ) (st row : List ℕ) → AreLengths g table longest st row → (t : ℕ)
    → ¬ (HasReductions g table t st (longest + 1))
row_passes g table longest st row right t =
    let here = right t in fewer_not g table t (slice_index row t + 1) (longest + 1) st (omega (arith, here.within)) here.no_more

-- so the greatest number is the one that was found
pub row_longest : (g : Grammar) (table : Table) (cap : ℕ) (st : List ℕ) (es : List (ℕ × TableAction)) (from place longest : ℕ) (row : List ℕ) → length es ≤ place
    → IsRowUntil g table cap st es from place longest row → IsLongest g table cap st from longest
row_longest g table cap st es from place longest row end h = record {
  within = h.within;
  above = h.above;
  passes = row_passes g table longest st row (row_all g table cap st es from place longest row end h);
  reached = h.reached;
}

-- one row more
pub rows_kept : {A : Type 0} (g : Grammar) (table : Table) (longest s r next place : ℕ) (rows after : List (Vec ℕ A)) (row : List ℕ)
    → AreRowsCounted g table longest s rows → length after ≡ length rows → place ≡ r → goto_of table s r ≡ Some next
    → AreLengths g table longest (s ∷ next ∷ []) row → ((d : Vec ℕ A) → (slice_index_or after place d).items ≡ row)
    → ((q : ℕ) (d : Vec ℕ A) → q ≢ place → slice_index_or after q d ≡ slice_index_or rows q d) → AreRowsCounted g table longest s after
rows_kept {A} g table longest s r next place rows after row counted many at goes right here others q d within =
    elim (cases_eq q place) as (λ _. IsRowCounted g table longest s q (slice_index_or after q d).items) [
      | inl same ↦
          let found : IsRowCounted g table longest s r row = inr (next, goes, right) in
          let kept : IsRowCounted g table longest s r (slice_index_or after place d).items =
          subst (λ (l : List ℕ). IsRowCounted g table longest s r l) (sym (here d)) found in
          let kept_at : IsRowCounted g table longest s place (slice_index_or after place d).items =
          subst (λ (n : ℕ). IsRowCounted g table longest s n (slice_index_or after place d).items) (sym at) kept in
          subst (λ (n : ℕ). IsRowCounted g table longest s n (slice_index_or after n d).items) (sym same) kept_at
      | inr other ↦
          let before : q < length rows = omega (arith, within, many) in
          subst (λ (v : Vec ℕ A). IsRowCounted g table longest s q v.items) (sym (others q d other)) (counted q d before)
    ]

-- what is known at an entry of a row of actions that is a reduction
pub record IsStoredReduction (g : Grammar) (table : Table) (s t p place : ℕ) : Type 0 where
  pub below : place < length (actions_at table s)
  pub token : t < table.tokens
  pub action : action_of table s t ≡ ReduceBy p
  pub known : p < prods_len g

module _ {S : Type 0} (index : S → ℕ) (g : Grammar) (table : Table) (s : ℕ) (ts : List (TIdx S)) (actions : List (Action S))
    (entries : map (action_entry index) (zip ts actions) ≡ actions_at table s) (paired : length actions ≡ length ts) (place : ℕ) (t : TIdx S) (action : Action S)
    (low : place < length ts) (t_at : t ≡ slice_index_or ts place t) (action_at : action ≡ slice_index_or actions place action) where
  pub row_read : (index t.0, plain_action index action) ≡ slice_index_or (actions_at table s) place (index t.0, plain_action index action)
  row_read = entry_read (λ x. index x.0) (plain_action index) ts actions (actions_at table s) paired entries place t action low t_at action_at

  pub row_low : place < length (actions_at table s)
  row_low = omega (arith, low, entries_len (λ x. index x.0) (plain_action index) ts actions (actions_at table s) paired entries)

  pub stored_reduction : (prod : PIdx S)
      → ((t : ℕ) (action : TableAction) → Contains (actions_at table s) (t, action) ↔ ((action_of table s t ≡ action) × (action ≢ Fails)))
      → All (IsActionEntry table.tokens (states_len table)) (actions_at table s) → FitsGrammar g table → action ≡ Reduce prod
      → IsStoredReduction g table s (index t.0) (index prod.0) place
  stored_reduction prod exact good fits is =
      let e : ℕ × TableAction = (index t.0, plain_action index action) in
      let entry = subst (IsActionEntry table.tokens table.states) (sym row_read) (good place e row_low) in
      let here : action_of table s (index t.0) ≡ ReduceBy (index prod.0) =
      ((exact e.0 e.1).0 (place, row_low, sym row_read)).0 ∙ ap (plain_action index) is in
      record { below = row_low; token = entry.token; action = here; known = fits.reduces s (index t.0) (index prod.0) here }

-- the first reduction of a chain, if its top stores it
module _ {S : Type 0} (index : S → ℕ) (g : Grammar) (table : Table) (cap : ℕ) (s top : StIdx S) (above : Option (StIdx S)) (is : top ≡ unwrap_or above s) (from : ℕ) where
  abbrev chain : List ℕ
  chain = index s.0 ∷ option_to_list (plain_goto index above)

  abbrev Until : ℕ → ℕ → List ℕ → Type 0
  Until place longest row = IsRowUntil g table cap chain (actions_at table (index (unwrap_or above s).0)) from place longest row

  abbrev TopUntil : ℕ → ℕ → List ℕ → Type 0
  TopUntil place longest row = IsRowUntil g table cap chain (actions_at table (index top.0)) from place longest row

  from_top : (place longest : ℕ) (row : List ℕ) → TopUntil place longest row → Until place longest row
  from_top place longest row h = subst (λ (x : StIdx S). IsRowUntil g table cap chain (actions_at table (index x.0)) from place longest row) is h

  to_top : (place longest : ℕ) (row : List ℕ) → Until place longest row → TopUntil place longest row
  to_top place longest row h = subst (λ (x : StIdx S). IsRowUntil g table cap chain (actions_at table (index x.0)) from place longest row) (sym is) h

  pub chain_action : (t p : ℕ) → action_of table (index top.0) t ≡ ReduceBy p → top_action table t chain ≡ ReduceBy p
  chain_action t p action = action_by_top table t chain (index top.0) (start_top index s top above is) ∙ action

  module _ (exact : (t : ℕ) (action : TableAction) → Contains (actions_at table (index top.0)) (t, action) ↔ ((action_of table (index top.0) t ≡ action) × (action ≢ Fails))) where
    pub chain_begins : (row : List ℕ) → ((t : ℕ) → slice_index row t ≡ 0) → from ≤ cap → Until 0 from row
    chain_begins row zeros within =
        from_top 0 from row
        (row_zeros g table cap chain (actions_at table (index top.0)) from (index top.0) row (start_top index s top above is) exact zeros within)

  module _ (ts : List (TIdx S)) (actions : List (Action S)) (entries : map (action_entry index) (zip ts actions) ≡ actions_at table (index top.0))
      (paired : length actions ≡ length ts) (place : ℕ) where
    module _ (t : TIdx S) (action : Action S) (low : place < length ts) (t_at : t ≡ slice_index_or ts place t) (action_at : action ≡ slice_index_or actions place action) where
      abbrev entry : ℕ × TableAction
      entry = (index t.0, plain_action index action)

      read : entry ≡ slice_index_or (actions_at table (index top.0)) place entry
      read = row_read index g table (index top.0) ts actions entries paired place t action low t_at action_at

      inside : place < length (actions_at table (index top.0))
      inside = row_low index g table (index top.0) ts actions entries paired place t action low t_at action_at

      pub chain_same : (longest : ℕ) (row : List ℕ) → ((p : ℕ) → ¬ (plain_action index action ≡ ReduceBy p)) → Until place longest row
          → Until (place + 1) longest row
      chain_same longest row other h =
          from_top (place + 1) longest row
          (row_same g table cap chain (actions_at table (index top.0)) from place longest row entry inside read other (to_top place longest row h))

      pub chain_more : (longest made more : ℕ) (row : List ℕ) → index t.0 < table.tokens → index t.0 < length row → IsLength g table cap (index t.0) chain made
          → more ≡ max longest made → Until place longest row → Until (place + 1) more (set row (index t.0) made)
      chain_more longest made more row known within counted greatest h =
          let over : longest ≤ more = omega (arith, greatest, le-max_left longest made) in
          let covers : made ≤ more = omega (arith, greatest, le-max_right longest made) in
          let which : (more ≡ longest) ⊎ (more ≡ made) =
          elim (max_one longest made) as (λ _. (more ≡ longest) ⊎ (more ≡ made)) [ inl e ↦ inl (greatest ∙ e) | inr e ↦ inr (greatest ∙ e) ] in
          from_top (place + 1) more (set row (index t.0) made)
          (row_more g table cap chain (actions_at table (index top.0)) from place longest made more row entry inside read known within counted over covers which
          (to_top place longest row h))

    module _ (longest : ℕ) (row : List ℕ) (end : length ts ≤ place) (h : Until place longest row) where
      past : length (actions_at table (index top.0)) ≤ place
      past = omega (arith, end, entries_len (λ x. index x.0) (plain_action index) ts actions (actions_at table (index top.0)) paired entries)

      pub chain_lengths : AreLengths g table longest chain row
      chain_lengths = row_all g table cap chain (actions_at table (index top.0)) from place longest row past (to_top place longest row h)

      pub chain_longest : IsLongest g table cap chain from longest
      chain_longest = row_longest g table cap chain (actions_at table (index top.0)) from place longest row past (to_top place longest row h)

-- an action of code that is no reduction
pub no_reduction : {S : Type 0} (index : S → ℕ) (action : Action S) → ((prod : PIdx S) → ¬ (action ≡ Reduce prod)) → (p : ℕ) → ¬ (plain_action index action ≡ ReduceBy p)
no_reduction index (Shift next) other p e = absurd cc
no_reduction index (Reduce prod) other p e = other prod refl
no_reduction index Accept other p e = absurd cc
no_reduction index Error other p e = absurd cc

-- a row that was read is empty or counted
pub row_counted : {A : Type 0} (g : Grammar) (table : Table) (longest s r place : ℕ) (rows : List (Vec ℕ A)) (row : Vec ℕ A) → AreRowsCounted g table longest s rows
    → place ≡ r → r < length rows → row ≡ slice_index_or rows place row → IsRowCounted g table longest s r row.items
row_counted {A} g table longest s r place rows row counted at below read =
    let here : row ≡ slice_index_or rows r row = subst (λ (n : ℕ). row ≡ slice_index_or rows n row) at read in
    subst (λ (v : Vec ℕ A). IsRowCounted g table longest s r v.items) (sym here) (counted r row below)

-- if it is counted, the chain makes no more than the greatest number so far
pub counted_longest : (g : Grammar) (table : Table) (cap from s r next : ℕ) (row : List ℕ) → IsRowCounted g table from s r row → 0 < length row
    → goto_of table s r ≡ Some next → from ≤ cap → IsLongest g table cap (s ∷ next ∷ []) from from
counted_longest g table cap from s r next row counted some goes within =
    elim counted as (λ _. IsLongest g table cap (s ∷ next ∷ []) from from) [
      | inl none ↦ let empty : length row ≡ 0 = ap (λ (l : List ℕ). length l) none in absurd (omega (arith, empty, some))
      | inr found ↦
          let same : found.0 ≡ next = let e : Some found.0 ≡ Some next = sym found.1 ∙ goes in cc in
          let right : AreLengths g table from (s ∷ next ∷ []) row = subst (λ (n : ℕ). AreLengths g table from (s ∷ n ∷ []) row) same found.2 in
          record {
            within = within;
            above = omega arith;
            passes = row_passes g table from (s ∷ next ∷ []) row right;
            reached = λ none. absurd (omega (arith, none));
          }
    ]

-- what is written over all of a list is the list then
written : {A : Type 0} (n : ℕ) (xs ys : List A) → n ≡ length xs → take n (xs ++ ys) ≡ xs
written n xs ys is = ap (λ (m : ℕ). take m (xs ++ ys)) is ∙ take-append_seam xs ys

-- the counted row in its place, as the code writes it there
pub counts_kept : {A : Type 0} (g : Grammar) (table : Table) (from longest s r next place n m : ℕ) (rows before after : List (Vec ℕ A)) (old made copied : List ℕ)
    → AreCounts g table from s rows old → from ≤ longest → IsGoto table s r next → place ≡ r → before ≡ rows → length after ≡ length before → n ≡ length rows
    → m ≡ length old → length made ≡ length old → AreLengths g table longest (s ∷ next ∷ []) made → copied ≡ take m (made ++ drop (length made) old)
    → ((d : Vec ℕ A) → (slice_index_or after place d).items ≡ copied)
    → ((q : ℕ) (d : Vec ℕ A) → q ≢ place → slice_index_or after q d ≡ slice_index_or before q d)
    → AreCounts g table longest s (take n (after ++ drop (length after) rows)) (take m (made ++ drop (length made) old))
counts_kept {A} g table from longest s r next place n m rows before after old made copied counts over goto at before_is many is_n is_m as_long right copied_is here others =
    let same : length before ≡ length rows = ap (λ (l : List (Vec ℕ A)). length l) before_is in
    let all : take n (after ++ drop (length after) rows) ≡ after = written n after (drop (length after) rows) (omega (arith, is_n, many, same)) in
    let made_all : take m (made ++ drop (length made) old) ≡ made = written m made (drop (length made) old) (omega (arith, is_m, as_long)) in
    let whole : AreCounts g table longest s after made = record {
      room = record {
        rules = many ∙ same ∙ counts.room.rules;
        tokens = as_long ∙ counts.room.tokens;
      };
      counted = rows_kept g table longest s r next place rows after made (rows_at g table from longest s rows over counts.counted) (many ∙ same) at goto.goes right
          (λ d. here d ∙ copied_is ∙ made_all) (λ q d other. others q d other ∙ ap (λ (l : List (Vec ℕ A)). slice_index_or l q d) before_is);
    } in
    subst (λ (l : List (Vec ℕ A)). AreCounts g table longest s l (take m (made ++ drop (length made) old))) (sym all)
    (subst (λ (l : List ℕ). AreCounts g table longest s after l) (sym made_all) whole)
