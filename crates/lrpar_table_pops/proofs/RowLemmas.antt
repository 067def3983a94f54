-- The rows of a table with some of the actions of another one.
use Rattle.std.proofs.Common.{◌≡◌, ◌⊎◌, ◌+◌, Option, Result, ◌<◌, ◌≤◌, ◌++◌, ◌∷◌, ◌∙◌, ap, arith, inl, inr, refl, subst, suc, sym, zero, ℕ, List, [], Vec, length, map, slice_index_or, take}
use Rattle.std.specs.Prelude.{Contains, Err, IfOk, IfSome, Ok, nat_eq}
use Rattle.std.specs.List.{zip}
use Rattle.std.specs.Map.{lookup}
use Rattle.std.specs.Result.{result_ok}
use Rattle.std.proofs.lemmas.Bool.{cases_lt}
use Rattle.std.proofs.lemmas.List.{length-map, map-append, take_all}
use Rattle.std.proofs.lemmas.List.Elements.{All-contains}
use Rattle.std.proofs.lemmas.Slice.Zip.{get_or-zip, length-zip}
use Rattle.lrpar_grammar_places.specs.declared.span.RIdx.{RIdx}
use Rattle.lrpar_grammar_places.specs.declared.span.StIdx.{StIdx}
use Rattle.lrpar_grammar_places.specs.declared.span.TIdx.{TIdx}
use Rattle.lrpar_grammar_places.proofs.ListLemmas.{follows_more}
use Rattle.lrpar_table_rows.specs.PlainRows.{action_entry, goto_entry, sparse_table_of}
use Rattle.lrpar_table_rows.specs.Table.{Fails, HasNoGotoPastStates, Table, TableAction, action_of, goto_of, gotos_at, states_len}
use Rattle.lrpar_table_rows.specs.declared.rows.Action.{Action}
use Rattle.lrpar_table_rows.specs.declared.rows.SparseRows.{SparseRows}
use Rattle.lrpar_table_rows.proofs.EntryLemmas.{action_cases}
use Rattle.lrpar_table_rows.proofs.ItemLemmas.{Contains-preimage}
use Rattle.lrpar_table_pops.specs.Parts.{HasGotosOf, HasSomeActionsOf, IsPartOf}
use Rattle.lrpar_table_pops.proofs.SearchLemmas.{contains_none}

-- P holds of each element of each list, by the list's place
abbrev HoldsAt : {E : Type 0} → (ℕ → E → Type 0) → List (List E) → Type 0
HoldsAt {E} P lists = (s : ℕ) (e : E) → Contains (slice_index_or lists s []) e → P s e

-- and of those of one more list
holds_more : {E : Type 0} (P : ℕ → E → Type 0) (lists : List (List E)) (new : List E) → HoldsAt P lists → ((e : E) → Contains new e → P (length lists) e)
    → HoldsAt P (lists ++ new ∷ [])
holds_more P [] new old more zero e there = more e there
holds_more P [] new old more (suc s) e there = absurd (contains_none e there)
holds_more P (list ∷ lists) new old more zero e there = old zero e there
holds_more P (list ∷ lists) new old more (suc s) e there = holds_more (λ n. P (suc n)) lists new (λ n. old (suc n)) more s e there

-- each list is that of its place
abbrev AreThose : {E : Type 0} → (ℕ → List E) → List (List E) → Type 0
AreThose {E} those lists = (s : ℕ) → s < length lists → slice_index_or lists s [] ≡ those s

-- and so is one more
those_more : {E : Type 0} (those : ℕ → List E) (lists : List (List E)) (new : List E) → AreThose those lists → new ≡ those (length lists)
    → AreThose those (lists ++ new ∷ [])
those_more those [] new old more zero low = more
those_more those [] new old more (suc s) low = absurd (omega (arith, low))
those_more those (list ∷ lists) new old more zero low = old zero (omega arith)
those_more those (list ∷ lists) new old more (suc s) low =
    those_more (λ n. those (suc n)) lists new (λ n under. old (suc n) (omega (arith, under))) more s (omega (arith, low))

-- past the last list there is none
past_end : {E : Type 0} (lists : List (List E)) (s : ℕ) → length lists ≤ s → slice_index_or lists s [] ≡ []
past_end [] s high = refl
past_end (list ∷ lists) zero high = absurd (omega (arith, high))
past_end (list ∷ lists) (suc s) high = past_end lists s (omega (arith, high))

-- what is read at a place of two lists is their pair at that place
zip_read : {K V : Type 0} (ks : List K) (vs : List V) (i : ℕ) (k : K) (v : V) → length vs ≡ length ks → i < length ks → k ≡ slice_index_or ks i k
    → v ≡ slice_index_or vs i v → ◌≡◌ {A = K × V} (k, v) (slice_index_or (zip ks vs) i (k, v))
zip_read {K} {V} ks vs i k v paired low key value =
    let here = get_or-zip ks vs i (k, v) low (omega (arith, low, paired)) in
    let same : ◌≡◌ {A = K × V} (k, v) (slice_index_or ks i k, slice_index_or vs i v) = cc in
    same ∙ sym here

module _ {S : Type 0} (index : S → ℕ) (whole : Table) where
  -- one more goto is copied
  pub goto_more : (rules : List (RIdx S)) (nexts : List (StIdx S)) (i : ℕ) (rule : RIdx S) (next : StIdx S) (made pushed : List (RIdx S × StIdx S))
      → length nexts ≡ length rules → i < length rules → rule ≡ slice_index_or rules i rule → next ≡ slice_index_or nexts i next
      → map (goto_entry index) made ≡ map (goto_entry index) (take i (zip rules nexts)) → pushed ≡ made ++ (rule, next) ∷ []
      → map (goto_entry index) pushed ≡ map (goto_entry index) (take (i + 1) (zip rules nexts))
  goto_more rules nexts i rule next made pushed paired low rule_is next_is so_far more =
      let zipped = length-zip rules nexts in
      follows_more (goto_entry index) (goto_entry index) (zip rules nexts) i (rule, next) made pushed (rule, next) (omega (arith, low, zipped, paired))
      (zip_read rules nexts i rule next paired low rule_is next_is) so_far more refl

  -- all are
  pub gotos_all : (s : ℕ) (rules : List (RIdx S)) (nexts : List (StIdx S)) (i : ℕ) (made : List (RIdx S × StIdx S)) → length rules ≤ i
      → map (goto_entry index) (zip rules nexts) ≡ gotos_at whole s → map (goto_entry index) made ≡ map (goto_entry index) (take i (zip rules nexts))
      → length nexts ≡ length rules → HasGotosOf index whole s made
  gotos_all s rules nexts i made end stored so_far paired =
      let zipped = length-zip rules nexts in
      so_far ∙ ap (map (goto_entry index)) (take_all i (zip rules nexts) (omega (arith, end, zipped, paired))) ∙ stored

  module _ {Z : Type 0} where
    -- the actions of these rows
    abbrev acts_of : List (Vec (TIdx S × Action S) Z) → List (List (ℕ × TableAction))
    acts_of rows = map (λ row. map (action_entry index) row.items) rows

    -- the gotos of these rows
    abbrev goes_of : List (Vec (RIdx S × StIdx S) Z) → List (List (ℕ × ℕ))
    goes_of rows = map (λ row. map (goto_entry index) row.items) rows

    -- each action of the rows is the whole table's
    abbrev pub AreActs : List (Vec (TIdx S × Action S) Z) → Type 0
    AreActs rows = HoldsAt (λ s entry. action_of whole s entry.0 ≡ entry.1) (acts_of rows)

    -- the gotos of the rows are the whole table's
    abbrev pub AreGoes : List (Vec (RIdx S × StIdx S) Z) → Type 0
    AreGoes rows = AreThose (gotos_at whole) (goes_of rows)

    pub acts_more : (rows : List (Vec (TIdx S × Action S) Z)) (row : Vec (TIdx S × Action S) Z) (n : ℕ) → length rows ≡ n → HasSomeActionsOf index whole n row.items
        → AreActs rows → AreActs (rows ++ row ∷ [])
    acts_more rows row n len some old =
        let P : ℕ → ℕ × TableAction → Type 0 = λ s entry. action_of whole s entry.0 ≡ entry.1 in
        let long : length (acts_of rows) ≡ n = length-map rows (λ (r : Vec (TIdx S × Action S) Z). map (action_entry index) r.items) ∙ len in
        subst (HoldsAt P) (sym (map-append (λ (r : Vec (TIdx S × Action S) Z). map (action_entry index) r.items) rows (row ∷ [])))
        (holds_more P (acts_of rows) (map (action_entry index) row.items) old (λ entry there.
        let from = Contains-preimage (action_entry index) row.items entry there in
        let at = All-contains (λ (e : TIdx S × Action S). P n (action_entry index e)) row.items from.0 some from.1 in
        subst (λ (k : ℕ). P k entry) (sym long) (subst (P n) from.2 at)))

    pub goes_more : (rows : List (Vec (RIdx S × StIdx S) Z)) (row : Vec (RIdx S × StIdx S) Z) (n : ℕ) → length rows ≡ n → HasGotosOf index whole n row.items
        → AreGoes rows → AreGoes (rows ++ row ∷ [])
    goes_more rows row n len those old =
        let long : length (goes_of rows) ≡ n = length-map rows (λ (r : Vec (RIdx S × StIdx S) Z). map (goto_entry index) r.items) ∙ len in
        subst (AreThose (gotos_at whole)) (sym (map-append (λ (r : Vec (RIdx S × StIdx S) Z). map (goto_entry index) r.items) rows (row ∷ [])))
        (those_more (gotos_at whole) (goes_of rows) (map (goto_entry index) row.items) old (those ∙ ap (gotos_at whole) (sym long)))

-- the table of such rows is a part of the whole one
pub rows_part : {S : Type 0} (index : S → ℕ) (whole : Table) (rows : SparseRows S) → index rows.start.0 ≡ whole.start → rows.states ≡ states_len whole
    → rows.tokens ≡ whole.tokens → rows.rules ≡ whole.rules → AreActs index whole rows.actions.items → AreGoes index whole rows.gotos.items
    → length rows.gotos.items ≡ states_len whole → HasNoGotoPastStates whole → IsPartOf whole (sparse_table_of index rows)
unfolding goto_of
rows_part {S} index whole rows start states tokens rules acts goes len past =
    let part = sparse_table_of index rows in
    let long : length part.gotos ≡ states_len whole = length-map rows.gotos.items _ ∙ len in
    record {
      start = start;
      states = states;
      tokens = tokens;
      rules = rules;
      actions = λ s t.
          elim (action_cases part s t) as (λ _. (action_of part s t ≡ Fails) ⊎ (action_of part s t ≡ action_of whole s t)) [
            | inl fails ↦ inl fails
            | inr at ↦ inr (at.2 ∙ sym (acts s (t, at.0) at.1))
          ];
      gotos = λ s r.
          elim (cases_lt s (states_len whole)) as (λ _. goto_of part s r ≡ goto_of whole s r) [
            | inl low ↦ ap (lookup (nat_eq r)) (goes s (omega (arith, low, long)))
            | inr high ↦ ap (lookup (nat_eq r)) (past_end part.gotos s (omega (arith, high, long))) ∙ sym (past s r high)
          ];
    }

-- a fact of what a call gave holds of it as an option
pub some_of_ok : {T E : Type 0} (P Q : T → Type 0) (r : Result T E) (o : Option T) → o ≡ result_ok r → IfOk r P → ((x : T) → P x → Q x) → IfSome o Q
some_of_ok P Q (Ok x) o is fact more = subst (λ (p : Option _). IfSome p Q) (sym is) (more x fact)
some_of_ok P Q (Err e) o is fact more = subst (λ (p : Option _). IfSome p Q) (sym is) tt
