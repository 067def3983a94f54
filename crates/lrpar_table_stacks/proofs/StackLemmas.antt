-- Stacks and paths have the same states: a path has the symbol, too, by which each state goes to the next.
use Rattle.std.proofs.Common.{◌≡◌, ◌≢◌, ◌<◌, ◌≤◌, ◌+◌, ◌∙◌, ◌↔◌, inl, inr, sym, ap, subst, arith, Bool, IsTrue, ℕ, zero, suc, true, false, List, [], ◌∷◌, map, length, drop, get_or, Option, Some, None, refl}
use Rattle.std.proofs.lemmas.Bool.{cases_lt, false≢true}
use Rattle.std.proofs.lemmas.List.{drop_more, drop_all, get_or-map, length-map}
use Rattle.std.proofs.lemmas.List.Elements.{All-contains}
use denote.Param.Members.{Mut}
use Rattle.std.specs.Bool.{MatchBool}
use Rattle.std.specs.Fn.{Called}
use Rattle.std.specs.Iterator.{YieldsThen}
use Rattle.std.specs.List.{AllWithin, Contains, FoldsTo, HoldsAt, zip}
use Rattle.std.specs.Option.{MatchOption}
use Rattle.std.proofs.lemmas.Iterator.{YieldsList, cases_from_any}
use Rattle.lrpar_table_rows.proofs.ItemLemmas.{Contains-image, Contains-preimage}
use Rattle.lrpar_grammar_places.specs.declared.span.RIdx.{RIdx}
use Rattle.lrpar_grammar_places.specs.declared.span.StIdx.{StIdx}
use Rattle.lrpar_grammar_places.specs.declared.span.TIdx.{TIdx}
use Rattle.lrpar_grammar.specs.Grammar.{GrammarSymbol, Nonterminal, Terminal}
use Rattle.lrpar_table_stacks.specs.Path.{Leads, IsPath}
use Rattle.lrpar_table_rows.specs.Safe.{GoesBy}
use Rattle.lrpar_table_stacks.specs.Stack.{AreJoined, HasGotoTo, HasShiftTo, IsJoined, IsStack, states_of}
use Rattle.lrpar_table_rows.proofs.TestLemmas.{accepted, refused}
use Rattle.lrpar_table_rows.specs.PlainRows.{plain_action}
use Rattle.lrpar_table_rows.specs.StoredRows.{AreActionsAt, AreGotosAt}
use Rattle.lrpar_table_rows.specs.Table.{Table, ShiftTo, Fails, AreActionsWithin, AreGotosWithin, IsActionEntry, IsClosed, IsGotoEntry, StoresActions, StoresGotos, action_of, actions_at, goto_of, gotos_at, states_len}
use Rattle.lrpar_table_rows.specs.declared.rows.Action.{Action}

module _ (table : Table) (no_token : (s t : ℕ) → table.tokens ≤ t → action_of table s t ≡ Fails)
    (no_rule : (s r : ℕ) → table.rules ≤ r → goto_of table s r ≡ None) where
  -- a state is joined to the one to which it goes by a symbol
  joined_by : (s : ℕ) (x : GrammarSymbol) (next : ℕ) → GoesBy table s x next → IsJoined table s next
  joined_by s (Terminal t) next goes =
      elim (cases_lt t table.tokens) as (λ _. IsJoined table s next) [
        | inl below ↦ inl (t, below, goes)
        | inr past ↦ let other : Fails ≡ ShiftTo next = sym (no_token s t past) ∙ goes in absurd (cc)
      ]
  joined_by s (Nonterminal r) next goes =
      elim (cases_lt r table.rules) as (λ _. IsJoined table s next) [
        | inl below ↦ inr (r, below, goes)
        | inr past ↦ let other : None ≡ Some next = sym (no_rule s r past) ∙ goes in absurd (cc)
      ]

  joined_along : (s : ℕ) (symbols : List GrammarSymbol) (st : List ℕ) → Leads table s symbols st → AreJoined table s st
  joined_along s symbols [] leads = tt
  joined_along s [] (next ∷ st) leads = absurd leads
  joined_along s (x ∷ xs) (next ∷ st) leads = (joined_by s x next leads.0, joined_along next xs st leads.1)

  -- a path is a stack
  pub path_is_stack : (symbols : List GrammarSymbol) (st : List ℕ) → IsPath table symbols st → IsStack table st
  path_is_stack symbols [] path = absurd path
  path_is_stack symbols (s ∷ st) path = (path.0, joined_along s symbols st path.1)

-- if states are joined, one goes to the other by a symbol
goes_where_joined : (table : Table) (s next : ℕ) → IsJoined table s next → (x : GrammarSymbol) × GoesBy table s x next
goes_where_joined table s next joined =
    elim joined as (λ _. (x : GrammarSymbol) × GoesBy table s x next) [
      | inl h ↦ (Terminal h.0, h.2)
      | inr h ↦ (Nonterminal h.0, h.2)
    ]

leads_where_joined : (table : Table) (s : ℕ) (st : List ℕ) → AreJoined table s st → (symbols : List GrammarSymbol) × Leads table s symbols st
leads_where_joined table s [] joined = ([], tt)
leads_where_joined table s (next ∷ st) joined =
    let first = goes_where_joined table s next joined.0 in
    let more = leads_where_joined table next st joined.1 in
    (first.0 ∷ more.0, (first.1, more.1))

-- a stack is a path along some symbols
pub stack_has_path : (table : Table) (st : List ℕ) → IsStack table st → (symbols : List GrammarSymbol) × IsPath table symbols st
stack_has_path table [] stack = absurd stack
stack_has_path table (s ∷ st) stack =
    let more = leads_where_joined table s st stack.1 in (more.0, (stack.0, more.1))

-- a state joined to one of a closed table is of that table
pub joined_within : (table : Table) → IsClosed table → (s next : ℕ) → IsJoined table s next → next < states_len table
joined_within table closed s next joined =
    elim joined as (λ _. next < states_len table) [
      | inl h ↦ closed.shifts_within s h.0 next h.2
      | inr h ↦ closed.gotos_within s h.0 next h.2
    ]

-- the numbers of the rest of a list from place i on begin with that of the item at i
left_more : {A : Type 0} (number : A → ℕ) (above : List A) (i : ℕ) (next : A) → i < length above → next ≡ get_or above i next
    → map number (drop i above) ≡ number next ∷ map number (drop (i + 1) above)
left_more number above i next below is =
    ap (λ l. map number l) (drop_more above i next below) ∙ ap (λ x. number x ∷ map number (drop (i + 1) above)) (sym is)

-- so the first of them is joined to the state below, and the others to it
pub joined_more : {A : Type 0} (table : Table) (number : A → ℕ) (s : ℕ) (above : List A) (i : ℕ) (next : A) → i < length above
    → next ≡ get_or above i next → AreJoined table s (map number (drop i above))
    ↔ IsJoined table s (number next) × AreJoined table (number next) (map number (drop (i + 1) above))
joined_more table number s above i next below is =
    let e = left_more number above i next below is in
    let P : List ℕ → Type 0 = λ st. AreJoined table s st in (λ h. subst P e h, λ h. subst P (sym e) h)

-- nothing is left at the end
pub joined_end : {A : Type 0} (table : Table) (number : A → ℕ) (s : ℕ) (above : List A) (i : ℕ) → length above ≤ i
    → AreJoined table s (map number (drop i above))
joined_end table number s above i past = rw drop_all tt

-- keys and values side by side: each value there is one of the values
value_beside : {K V : Type 0} (ks : List K) (vs : List V) (e : K × V) → Contains (zip ks vs) e → Contains vs e.1
value_beside [] vs e h = absurd (omega (arith, h.1))
value_beside (k ∷ ks) [] e h = absurd (omega (arith, h.1))
value_beside (k ∷ ks) (v ∷ vs) e (zero, below, is) = (0, omega arith, ap (λ e. e.1) is)
value_beside (k ∷ ks) (v ∷ vs) e (suc i, below, is) =
    let more = value_beside ks vs e (i, omega arith, is) in (suc more.0, omega (arith, more.1), more.2)

-- and each of the values is beside a key
key_beside : {K V : Type 0} (ks : List K) (vs : List V) (v : V) → length vs ≡ length ks → Contains vs v → (k : K) × Contains (zip ks vs) (k, v)
key_beside ks [] v many h = absurd (omega (arith, h.1))
key_beside [] (w ∷ vs) v many h = absurd (omega arith)
key_beside (k ∷ ks) (w ∷ vs) v many (zero, below, is) = (k, (0, omega arith, ap (λ w. (k, w)) is))
key_beside (k ∷ ks) (w ∷ vs) v many (suc i, below, is) =
    let more = key_beside ks vs v (omega arith) (i, omega arith, is) in (more.0, (suc more.1.0, omega (arith, more.1.1), more.1.2))

-- so the values are those of the entries
pub values_of_entries : {K V X : Type 0} (number : K → ℕ) (value : V → X) (ks : List K) (vs : List V) (es : List (ℕ × X)) (x : X)
    → length vs ≡ length ks → map (λ e. (number e.0, value e.1)) (zip ks vs) ≡ es → Contains (map value vs) x ↔ ((k : ℕ) × Contains es (k, x))
values_of_entries {K} {V} {X} number value ks vs es x many is = (
  λ h.
      let v = Contains-preimage value vs x h in
      let e = key_beside ks vs v.0 many v.1 in
      let there = Contains-image f (zip ks vs) (e.0, v.0) e.1 in
      (number e.0, subst (λ (l : List (ℕ × X)). Contains l (number e.0, x)) is (subst (λ (y : X). Contains (map f (zip ks vs)) (number e.0, y)) v.2 there)),
  λ h.
      let there = subst (λ (l : List (ℕ × X)). Contains l (h.0, x)) (sym is) h.1 in
      let e = Contains-preimage f (zip ks vs) (h.0, x) there in
      let same : value e.0.1 ≡ x = ap (λ (y : ℕ × X). y.1) e.2 in
      subst (Contains (map value vs)) same (Contains-image value vs e.0.1 (value_beside ks vs e.0 e.1)),
)
  where
    f : K × V → ℕ × X
    f e = (number e.0, value e.1)

-- so, if entries with such a value are what is stored by keys below a bound, the values tell whether something is stored
pub stored_value : {K V X : Type 0} (number : K → ℕ) (value : V → X) (ks : List K) (vs : List V) (es : List (ℕ × X)) (x : X) (bound : ℕ) (Stored : ℕ → Type 0)
    → length vs ≡ length ks → map (λ e. (number e.0, value e.1)) (zip ks vs) ≡ es → ((k : ℕ) → Contains es (k, x) → k < bound)
    → ((k : ℕ) → Contains es (k, x) ↔ Stored k) → Contains (map value vs) x ↔ ((k : ℕ) × (k < bound) × Stored k)
stored_value number value ks vs es x bound Stored many is below exact =
    let same = values_of_entries number value ks vs es x many is in (
      λ h. let e = same.0 h in (e.0, below e.0 e.1, (exact e.0).0 e.1),
      λ h. same.1 (h.0, (exact h.0).1 h.2),
    )

module _ {B Y : Type 0} (image : B → Y) (y : Y) where
  -- an element with this image
  image_there : (xs : List B) (k : ℕ) → k < length xs → HoldsAt (λ x. image x ≡ y) xs k → Contains (map image xs) y
  image_there [] k below is = absurd (omega arith)
  image_there (x ∷ xs) k below is =
      (k, omega (arith, below, length-map (x ∷ xs) image), get_or-map image (x ∷ xs) k x y below ∙ is x)

  -- no element with this image
  image_nowhere : (xs : List B) → AllWithin (λ x. image x ≢ y) xs 0 (length xs) → ¬ (Contains (map image xs) y)
  image_nowhere xs other h = let x = Contains-preimage image xs y h in other x.1.0 x.0 (omega arith) x.1.1 (ap image x.1.2 ∙ x.2)

  image_cases : (r : Bool) (xs : List B) → MatchBool r ((k : ℕ) × (k < length xs) × HoldsAt (λ x. image x ≡ y) xs k) (AllWithin (λ x. image x ≢ y) xs 0 (length xs))
      → IsTrue r ↔ Contains (map image xs) y
  image_cases true xs h = accepted (image_there xs h.0 h.1 h.2)
  image_cases false xs h = refused (image_nowhere xs h)

  -- If a closure tests whether an element has this image, `any` tells whether some element has it.
  pub any_with_image : {S A F : Type 0} {steps : S → Option A → S → Type 0} {v : A → B} {g : Mut F (A × Unit {0}) Bool} {s : S} {all : List B} (u : S) (f : F) (r : Bool)
      → (xs : List A) × (o : Option A) × (j : F) × YieldsThen steps s xs o u × FoldsTo (λ p x q. Called g p (x, tt) false q) f xs j × MatchOption o (r ≡ false) (λ x. (r ≡ true) × ((h : F) × Called g j (x, tt) true h))
      → YieldsList steps v s all → ((x : A) (b : Bool) (q : F) → Called g f (x, tt) b q → (q ≡ f) × (IsTrue b ↔ image (v x) ≡ y))
      → IsTrue r ↔ Contains (map image all) y
  any_with_image {v = v} {all = all} u f r ran yields tests =
      image_cases r all
      (cases_from_any u f r (λ x. image x ≡ y) (λ x. image x ≢ y) ran yields (λ x q c. (tests x true q c).1.0 refl)
      (λ x q c. let h = tests x false q c in (h.0, λ is. false≢true (h.1.1 is))))

-- So where code looks for a state among the actions and the gotos of another one, it finds whether a shift or a goto leads there.
module _ {S : Type 0} (index : S → ℕ) (table : Table) (s : StIdx S) (to next : ℕ) (is : to ≡ next) (r : Bool) where
  pub shift_found : (ts : List (TIdx S)) (actions : List (Action S)) → AreActionsAt index table s ts actions → length actions ≡ length ts
      → StoresActions table (index s.0) → AreActionsWithin table (index s.0) → IsTrue r ↔ Contains (map (plain_action index) actions) (ShiftTo to)
      → IsTrue r ↔ HasShiftTo table (index s.0) next
  shift_found ts actions entries many exact within found =
      let stored : ShiftTo to ≢ Fails = λ (e : _). cc in
      let there =
      stored_value (λ t. index t.0) (plain_action index) ts actions (actions_at table (index s.0)) (ShiftTo to) table.tokens
      (λ t. action_of table (index s.0) t ≡ ShiftTo to) many entries
      (λ t h. (All-contains (IsActionEntry table.tokens (states_len table)) (actions_at table (index s.0)) (t, ShiftTo to) within h).token)
      (λ t. (λ h. ((exact t (ShiftTo to)).0 h).0, λ h. (exact t (ShiftTo to)).1 (h, stored))) in
      subst (λ (n : ℕ). IsTrue r ↔ HasShiftTo table (index s.0) n) is (λ h. there.0 (found.0 h), λ h. found.1 (there.1 h))

  pub goto_found : (rs : List (RIdx S)) (states : List (StIdx S)) → AreGotosAt index table s rs states → length states ≡ length rs
      → StoresGotos table (index s.0) → AreGotosWithin table (index s.0) → IsTrue r ↔ Contains (states_of index states) to
      → IsTrue r ↔ HasGotoTo table (index s.0) next
  goto_found rs states entries many exact within found =
      let there =
      stored_value (λ r. index r.0) (λ x. index x.0) rs states (gotos_at table (index s.0)) to table.rules (λ r. goto_of table (index s.0) r ≡ Some to) many
      entries (λ r h. (All-contains (IsGotoEntry table.rules (states_len table)) (gotos_at table (index s.0)) (r, to) within h).rule) (λ r. exact r to) in
      subst (λ (n : ℕ). IsTrue r ↔ HasGotoTo table (index s.0) n) is (λ h. there.0 (found.0 h), λ h. found.1 (there.1 h))
