-- The steps of a table, from the entries that it stores.
use Rattle.std.proofs.Common.{◌≡◌, ◌<◌, ◌≤◌, ◌+◌, ◌∙◌, refl, sym, ap, subst, inl, inr, arith, lit<, zero-add, ℕ, List, [], ◌∷◌, ◌++◌, Option, Some, None, get_or, length, map, slice_index_or, take}
use Rattle.std.specs.List.{Contains, flat_map, range_with_len, zip}
use Rattle.std.proofs.lemmas.Grind.{flat_map-append}
use Rattle.std.proofs.lemmas.List.Elements.{Contains-append_cases, Contains-append_left, Contains-append_right}
use Rattle.std.proofs.lemmas.List.{append-nil, append_assoc, take_all, take_more}
use Rattle.lrpar_grammar_places.proofs.ListLemmas.{range_more}
use Rattle.lrpar_grammar.specs.Grammar.{GrammarSymbol, Nonterminal, Terminal}
use Rattle.lrpar_table_rows.specs.Safe.{GoesBy}
use Rattle.lrpar_table_rows.specs.Table.{Table, TableAction, ShiftTo, ReduceBy, Accepts, Fails, action_of, actions_at, gotos_at, states_len}
use Rattle.lrpar_table_rows.proofs.StoredLemmas.{entries_len, entry_at}
use Rattle.lrpar_table_build.proofs.MemberLemmas.{joined_has, joined_member, member_cases, member_none, range_has, range_member}
use Rattle.lrpar_table_sentences.specs.Choices.{ChoiceOf}
use Rattle.lrpar_table_sentences.specs.Lens.{len_at}
use Rattle.lrpar_table_sentences.specs.AccessLens.{AreEdges, EdgeOf, IsStoredAt, edge_if, edges_at, edges_below, goto_edges, shift_edge, shift_edges}

-- what is made of one element more comes after what is made of the first i
module _ {X Y : Type 0} (f : X → List Y) (xs : List X) (i : ℕ) (x : X) where
  made_more : (first before after : List Y) → i < length xs → x ≡ get_or xs i x → before ≡ first ++ flat_map f (take i xs) → after ≡ before ++ f x
      → after ≡ first ++ flat_map f (take (i + 1) xs)
  made_more first before after low is was now =
      let here : take (i + 1) xs ≡ take i xs ++ x ∷ [] = take_more xs i x low ∙ ap (λ y. take i xs ++ y ∷ []) (sym is) in
      let made : flat_map f (take (i + 1) xs) ≡ flat_map f (take i xs) ++ f x =
      ap (flat_map f) here ∙ flat_map-append f (take i xs) (x ∷ []) ∙ ap (λ ys. flat_map f (take i xs) ++ ys) (append-nil (f x)) in
      now ∙ ap (λ ys. ys ++ f x) was ∙ append_assoc first (flat_map f (take i xs)) (f x) ∙ ap (λ ys. first ++ ys) (sym made)

-- and what is made of all is all
made_all : {X Y : Type 0} (f : X → List Y) (xs : List X) (i : ℕ) (first all : List Y) → length xs ≤ i → all ≡ first ++ flat_map f (take i xs)
    → all ≡ first ++ flat_map f xs
made_all f xs i first all past is = is ∙ ap (λ ys. first ++ flat_map f ys) (take_all i xs past)

-- what is made of each entry of stored keys and values, one entry after the other
module _ {K V X Y : Type 0} (number : K → ℕ) (value : V → X) (ks : List K) (vs : List V) (es : List (ℕ × X)) (paired : length vs ≡ length ks)
    (is : map (λ e. (number e.0, value e.1)) (zip ks vs) ≡ es) (f : ℕ × X → List Y) (first : List Y) where
  pub entry_more : (i : ℕ) (k : K) (v : V) (before after : List Y) → i < length ks → k ≡ slice_index_or ks i k → v ≡ slice_index_or vs i v
      → before ≡ first ++ flat_map f (take i es) → after ≡ before ++ f (number k, value v) → after ≡ first ++ flat_map f (take (i + 1) es)
  entry_more i k v before after below key at so_far put =
      let there = entry_at number value ks vs es paired is i k v below key at in
      made_more f es i (number k, value v) first before after there.0 there.1 so_far put

  pub entry_all : (i : ℕ) (all : List Y) → length ks ≤ i → all ≡ first ++ flat_map f (take i es) → all ≡ first ++ flat_map f es
  entry_all i all past so_far =
      let len = entries_len number value ks vs es paired is in
      made_all f es i first all (omega (arith, len, past)) so_far

-- a step that is made, if it is
edge_if_parts : (o : Option ℕ) (s : ℕ) (x : GrammarSymbol) (next : ℕ) (e : EdgeOf) → Contains (edge_if o s x next) e
    → (len : ℕ) × (o ≡ Some len) × (record { step = record { from = s; symbol = x }; next = next; len = len } ≡ e)
edge_if_parts None s x next e there = absurd (member_none e there)
edge_if_parts (Some len) s x next e there =
    elim (member_cases _ [] e there) [
      | inl same ↦ (len, refl, same)
      | inr none ↦ absurd (member_none e none)
    ]

edge_if_has : (o : Option ℕ) (s : ℕ) (x : GrammarSymbol) (next len : ℕ) → o ≡ Some len
    → Contains (edge_if o s x next) (record { step = record { from = s; symbol = x }; next = next; len = len })
edge_if_has o s x next len is =
    subst (λ (p : Option ℕ). Contains (edge_if p s x next) (record { step = record { from = s; symbol = x }; next = next; len = len })) (sym is) (0, lit< tt, refl)

module _ (table : Table) (choices : List (Option ChoiceOf)) (stored : (s : ℕ) → s < states_len table → IsStoredAt table s) where
  -- what is made is a step of the table
  step_made : (s : ℕ) (x : GrammarSymbol) (next : ℕ) (e : EdgeOf) → s < states_len table → GoesBy table s x next
      → Contains (edge_if (len_at choices x) s x next) e
      → (e.step.from < states_len table) × GoesBy table e.step.from e.step.symbol e.next × (len_at choices e.step.symbol ≡ Some e.len)
  step_made s x next e low goes there =
      let fact = edge_if_parts (len_at choices x) s x next e there in
      subst (λ (f : EdgeOf). (f.step.from < states_len table) × GoesBy table f.step.from f.step.symbol f.next × (len_at choices f.step.symbol ≡ Some f.len))
      fact.2 (low, goes, fact.1)

  shift_made : (s t : ℕ) (action : TableAction) (e : EdgeOf) → s < states_len table → action_of table s t ≡ action → Contains (shift_edge choices s t action) e
      → (e.step.from < states_len table) × GoesBy table e.step.from e.step.symbol e.next × (len_at choices e.step.symbol ≡ Some e.len)
  shift_made s t (ShiftTo next) e low is there = step_made s (Terminal t) next e low is there
  shift_made s t (ReduceBy p) e low is there = absurd (member_none e there)
  shift_made s t Accepts e low is there = absurd (member_none e there)
  shift_made s t Fails e low is there = absurd (member_none e there)

  all_made : (e : EdgeOf) → Contains (edges_below table choices (states_len table)) e
      → (e.step.from < states_len table) × GoesBy table e.step.from e.step.symbol e.next × (len_at choices e.step.symbol ≡ Some e.len)
  all_made e there =
      let one = joined_member (edges_at table choices) (range_with_len 0 (states_len table)) e there in
      let s = one.0 in
      let within = range_member 0 (states_len table) s one.1 in
      let low : s < states_len table = omega (arith, within.1) in
      elim (Contains-append_cases (shift_edges choices s (actions_at table s)) (goto_edges choices s (gotos_at table s)) e one.2) [
        | inl shifts ↦
            let entry = joined_member (λ (x : ℕ × TableAction). shift_edge choices s x.0 x.1) (actions_at table s) e shifts in
            shift_made s entry.0.0 entry.0.1 e low (((stored s low).actions entry.0.0 entry.0.1).0 entry.1).0 entry.2
        | inr gotos ↦
            let entry =
            joined_member (λ (x : ℕ × ℕ). edge_if (len_at choices (Nonterminal x.0)) s (Nonterminal x.0) x.1) (gotos_at table s) e gotos in
            step_made s (Nonterminal entry.0.0) entry.0.1 e low (((stored s low).gotos entry.0.0 entry.0.1).0 entry.1) entry.2
      ]

  one_there : (s next len : ℕ) (x : GrammarSymbol) → s < states_len table → GoesBy table s x next → len_at choices x ≡ Some len
      → Contains (edges_at table choices s) (record { step = record { from = s; symbol = x }; next = next; len = len })
  one_there s next len (Terminal t) low goes has =
      Contains-append_left (shift_edges choices s (actions_at table s)) (goto_edges choices s (gotos_at table s)) _
      (joined_has (λ (x : ℕ × TableAction). shift_edge choices s x.0 x.1) (actions_at table s) (t, ShiftTo next) _
      (((stored s low).actions t (ShiftTo next)).1 (goes, λ never. absurd (cc))) (edge_if_has (len_at choices (Terminal t)) s (Terminal t) next len has))
  one_there s next len (Nonterminal r) low goes has =
      Contains-append_right (shift_edges choices s (actions_at table s)) (goto_edges choices s (gotos_at table s)) _
      (joined_has (λ (x : ℕ × ℕ). edge_if (len_at choices (Nonterminal x.0)) s (Nonterminal x.0) x.1) (gotos_at table s) (r, next) _
      (((stored s low).gotos r next).1 goes) (edge_if_has (len_at choices (Nonterminal r)) s (Nonterminal r) next len has))

  pub are_edges : AreEdges table choices (edges_below table choices (states_len table))
  are_edges = record {
    sound = all_made;
    all = λ s next len x low goes has.
        joined_has (edges_at table choices) (range_with_len 0 (states_len table)) s _ (range_has 0 (states_len table) s (omega arith) (omega (arith, low)))
        (one_there s next len x low goes has);
  }

-- the steps of one state more
pub below_more : (table : Table) (choices : List (Option ChoiceOf)) (n : ℕ) → edges_below table choices (n + 1) ≡ edges_below table choices n ++ edges_at table choices n
below_more table choices n =
    ap (flat_map (edges_at table choices)) (sym (range_more 0 n) ∙ ap (λ k. range_with_len 0 n ++ k ∷ []) (zero-add n))
    ∙ flat_map-append (edges_at table choices) (range_with_len 0 n) (n ∷ [])
    ∙ ap (λ ys. edges_below table choices n ++ ys) (append-nil (edges_at table choices n))
