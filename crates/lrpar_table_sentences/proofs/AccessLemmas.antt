-- Access strings are fixed in the order of their lengths, as minimal sentences of rules are.
use Rattle.std.proofs.Common.{◌≡◌, ◌<◌, ◌≤◌, ◌+◌, ◌⊎◌, ◌∙◌, refl, sym, ap, subst, inl, inr, arith, ℕ, suc, List, [], ◌∷◌, Option, Some, None, MatchOption, get_or, length, min, set, cond, nat_eq, true, false}
use Rattle.std.specs.List.{All, Contains}
use Rattle.std.specs.Option.{is_none, option_eq, option_map, option_map_or}
use Rattle.std.proofs.lemmas.Bool.{cases_eq}
use Rattle.std.proofs.lemmas.List.{get_or-map, get_or-set_other, get_or-set_same, get_or_default, length-map, length-set, map-set}
use Rattle.std.proofs.lemmas.List.Sums.{sum_by-set}
use Rattle.lrpar_grammar.specs.Grammar.{GrammarSymbol, Nonterminal, Terminal}
use Rattle.lrpar_table_rows.specs.Safe.{GoesBy}
use Rattle.lrpar_table_rows.specs.Table.{IsClosed, Table, states_len}
use Rattle.lrpar_table_sentences.specs.Choices.{ChoiceOf}
use Rattle.lrpar_table_sentences.specs.Lens.{added, len_at, sum_of_lens}
use Rattle.lrpar_table_sentences.specs.AccessLens.{AreEdges, AreRightAccesses, EdgeOf, Goes, HasOpenStep, IsWalk, LeadBack, NoStepIsLess, NoStepIsOpen, NoWalkIsBelow, Starts, edge_of, edges_of, open_by, open_accesses, access_open}
use Rattle.lrpar_table_sentences.specs.AccessStrings.{GoBack, StepOf, AccessOf, symbols_in, access_at, access_of, accesses_of}
use Rattle.lrpar_table_sentences.specs.declared.transitions.Edge.{Edge}
use Rattle.lrpar_table_sentences.specs.declared.transitions.Access.{Access}
use Rattle.lrpar_table_sentences.proofs.LenLemmas.{added_parts, mapped_parts, option_cases, total_fits}
use Rattle.lrpar_table_sentences.proofs.FixLemmas.{IsLeastBelow, eq_some, not_some, stays_more}

-- what follows for an open step
open_parts : (most : ℕ) (accesses : List (Option AccessOf)) (e : EdgeOf) (len : ℕ) → open_by most accesses e ≡ Some len
    → (access_at accesses e.next ≡ None) × ((from : AccessOf) × (access_at accesses e.step.from ≡ Some from) × (min (e.len + from.len) most ≡ len))
open_parts most accesses e len is =
    elim (option_cases (access_at accesses e.next)) [
      | inr kept ↦ let never = ap (λ (o : Option AccessOf). access_open most o (access_at accesses e.step.from) e.len) kept.1 in absurd (cc)
      | inl none ↦
          let sum : added most (Some e.len) (option_map (λ (access : AccessOf). access.len) (access_at accesses e.step.from)) ≡ Some len =
          ap (λ (o : Option AccessOf). access_open most o (access_at accesses e.step.from) e.len) (sym none) ∙ is in
          let parts = added_parts most (Some e.len) (option_map (λ (access : AccessOf). access.len) (access_at accesses e.step.from)) len sum in
          let from = mapped_parts (λ (access : AccessOf). access.len) (access_at accesses e.step.from) parts.1 parts.3 in
          let first : e.len ≡ parts.0 = let own = parts.2 in cc in
          let rest = from.2 in
          let all = parts.4 in
          (none, (from.0, from.1, omega (arith, first, rest, all)))
    ]

-- a step from a state that is kept to one that isn't is open
open_from : (most : ℕ) (accesses : List (Option AccessOf)) (e : EdgeOf) (from : AccessOf) → access_at accesses e.next ≡ None → access_at accesses e.step.from ≡ Some from
    → open_by most accesses e ≡ Some (min (e.len + from.len) most)
open_from most accesses e from none kept =
    ap (λ (o : Option AccessOf). access_open most o (access_at accesses e.step.from) e.len) none
    ∙ ap (λ (o : Option AccessOf). added most (Some e.len) (option_map (λ (access : AccessOf). access.len) o)) kept

-- the length of what is kept
abbrev access_len : Option AccessOf → ℕ
access_len o = option_map_or (λ (access : AccessOf). access.len) o 0

-- steps that go back still do if more is kept
go_back_more : (old new : List (Option AccessOf)) → ((s : ℕ) (access : AccessOf) → access_at old s ≡ Some access → access_at new s ≡ Some access) → (s : ℕ) (steps : List StepOf)
    → GoBack old s steps → GoBack new s steps
go_back_more old new keep s [] back = (back.0, keep s _ back.1)
go_back_more old new keep s (step ∷ steps) back = (back.0, keep s _ back.1, go_back_more old new keep step.from steps back.2)

module _ (table : Table) (most : ℕ) (choices : List (Option ChoiceOf)) (edges : List EdgeOf) (are : AreEdges table choices edges)
    (accesses : List (Option AccessOf)) (right : AreRightAccesses table most choices accesses) where
  -- no walk to a state with nothing kept has fewer tokens than the least open step
  pub no_walk_below : (len : ℕ) → NoStepIsLess most accesses edges len → NoWalkIsBelow table most choices accesses len
  no_walk_below len less s other path none Starts total = let start = right.start in absurd (cc)
  no_walk_below len less s other path none (Goes from next x before walk within goes) total =
      let parts = added_parts most (len_at choices x) (sum_of_lens most choices before) other total in
      let sum = parts.4 in
      let low = total_fits most choices before parts.1 parts.3 in
      elim (option_cases (access_at accesses from)) as (λ _. len ≤ other) [
        | inl not_yet ↦
            let rest = no_walk_below len less from parts.1 before not_yet walk parts.3 in
            omega (arith, sum, low, rest)
        | inr kept ↦
            let e : EdgeOf = record { step = record { from = from; symbol = x }; next = next; len = parts.0 } in
            let there = are.all from next parts.0 x within goes parts.2 in
            let least = less e (min (parts.0 + kept.0.len) most) there (open_from most accesses e kept.0 none kept.1) in
            let access = right.least from parts.1 kept.0 before kept.1 walk parts.3 in
            omega (arith, sum, least, access)
      ]

  -- if no step is open, no walk leads to a state with nothing kept
  pub no_walk : NoStepIsOpen most accesses edges → (s len : ℕ) (path : List GrammarSymbol) → access_at accesses s ≡ None → IsWalk table s path
      → sum_of_lens most choices path ≡ Some len → ⊥
  no_walk closed s len path none walk total =
      let more : suc len ≤ len =
      no_walk_below (suc len) (λ e other there is. let never = closed e there in absurd (cc)) s len path none walk total in
      omega (arith, more)

  -- one more access string is kept
  module _ (len : ℕ) (e : EdgeOf) (there : Contains edges e) (low : e.next < length accesses) (is : open_by most accesses e ≡ Some len)
      (below : NoWalkIsBelow table most choices accesses len) where
    abbrev kept : List (Option AccessOf)
    kept = set accesses e.next (Some (record { len = len; last = Some e.step }))

    here : access_at kept e.next ≡ Some (record { len = len; last = Some e.step })
    here = get_or-set_same accesses e.next _ None low

    elsewhere : (s : ℕ) → (s ≡ e.next → ⊥) → access_at kept s ≡ access_at accesses s
    elsewhere s other = get_or-set_other accesses e.next s _ None other

    keeps : (s : ℕ) (access : AccessOf) → access_at accesses s ≡ Some access → access_at kept s ≡ Some access
    keeps s access at =
        elim (cases_eq s e.next) [
          | inl same ↦ let none = (open_parts most accesses e len is).0 in let own = ap (access_at accesses) same in absurd (cc)
          | inr other ↦ elsewhere s other ∙ at
        ]

    pub accesses_more : AreRightAccesses table most choices kept
    accesses_more =
        let fact = open_parts most accesses e len is in
        let from = fact.1.0 in
        let sum = fact.1.2 in
        let sound = are.sound e there in
        let before = right.back e.step.from from fact.1.1 in
        record {
          states = length-set accesses e.next _ ∙ right.states;
          start = keeps table.start _ right.start;
          least = λ s other access path at walk total.
              elim (cases_eq s e.next) as (λ _. access.len ≤ other) [
                | inl same ↦
                    let own : len ≡ access.len = ap access_len (sym here ∙ ap (access_at kept) (sym same) ∙ at) in
                    let least = below s other path (ap (access_at accesses) same ∙ fact.0) walk total in
                    omega (arith, own, least)
                | inr not ↦ right.least s other access path (sym (elsewhere s not) ∙ at) walk total
              ];
          back = λ s access at.
              elim (cases_eq s e.next) as (λ _. (steps : List StepOf) × GoBack kept s steps × LeadBack table s steps × (sum_of_lens most choices (symbols_in steps) ≡ Some access.len)) [
                | inl same ↦
                    let own : len ≡ access.len = ap access_len (sym here ∙ ap (access_at kept) (sym same) ∙ at) in
                    let total : sum_of_lens most choices (e.step.symbol ∷ symbols_in before.0) ≡ Some access.len =
                    ap (λ (o : Option ℕ). added most o (sum_of_lens most choices (symbols_in before.0))) sound.2
                    ∙ ap (λ (o : Option ℕ). added most (Some e.len) o) before.3 ∙ ap (λ (n : ℕ). Some n) (sum ∙ own) in (
                      e.step ∷ before.0,
                      (len, ap (access_at kept) same ∙ here, go_back_more accesses kept keeps e.step.from before.0 before.1),
                      (sound.0, subst (GoesBy table e.step.from e.step.symbol) (sym same) sound.1, before.2),
                      total,
                    )
                | inr not ↦
                    let old = right.back s access (sym (elsewhere s not) ∙ at) in
                    (old.0, go_back_more accesses kept keeps s old.0 old.1, old.2, old.3)
              ];
        }

    pub below_kept : NoWalkIsBelow table most choices kept len
    below_kept s other path none walk total =
        elim (cases_eq s e.next) as (λ _. len ≤ other) [
          | inl same ↦ let own = ap (access_at kept) same in let some = here in absurd (cc)
          | inr not ↦ below s other path (sym (elsewhere s not) ∙ none) walk total
        ]

-- the length of the step in a place, if it is open
abbrev pub no_edge : EdgeOf
no_edge = record { step = record { from = 0; symbol = Terminal 0 }; next = 0; len = 0 }

abbrev pub open_at : ℕ → List (Option AccessOf) → List EdgeOf → ℕ → Option ℕ
open_at most accesses edges k = open_by most accesses (get_or edges k no_edge)

-- that of one of the code
pub open_here : {S : Type 0} (index : S → ℕ) (most : ℕ) (accesses : List (Option AccessOf)) (edges : List (Edge S)) (k : ℕ) (edge : Edge S) → k < length edges
    → edge ≡ get_or edges k edge → open_at most accesses (edges_of index edges) k ≡ open_by most accesses (edge_of index edge)
open_here index most accesses edges k edge low is =
    ap (open_by most accesses) (get_or-map (edge_of index) edges k edge no_edge low ∙ ap (edge_of index) (sym is))

-- a step of a list is in a place, and in each place there is one
place_open : (most : ℕ) (accesses : List (Option AccessOf)) (edges : List EdgeOf) (e : EdgeOf) (there : Contains edges e) → open_at most accesses edges there.0 ≡ open_by most accesses e
place_open most accesses edges e there = ap (open_by most accesses) (get_or_default edges there.0 no_edge e there.1 ∙ there.2)

place_has : (edges : List EdgeOf) (k : ℕ) → k < length edges → Contains edges (get_or edges k no_edge)
place_has edges k low = (k, low, get_or_default edges k (get_or edges k no_edge) no_edge low)

-- the least of all open steps
pub steps_least : (most : ℕ) (accesses : List (Option AccessOf)) (edges : List EdgeOf) (n : ℕ) (least : Option ℕ) → n ≡ length edges
    → IsLeastBelow (open_at most accesses edges) n least
    → MatchOption least (NoStepIsOpen most accesses edges) (λ len. HasOpenStep most accesses edges len × NoStepIsLess most accesses edges len)
steps_least most accesses edges n None all before = λ e there.
    let low = there.1 in sym (place_open most accesses edges e there) ∙ before there.0 (omega (arith, all, low))
steps_least most accesses edges n (Some len) all before =
    let one = before.0 in
    let inside = one.1 in (
      (get_or edges one.0 no_edge, place_has edges one.0 (omega (arith, all, inside)), one.2),
      λ e other there at. let low = there.1 in before.1 there.0 other (omega (arith, all, low)) (place_open most accesses edges e there ∙ at),
    )

-- fewer states are open if one more access string is kept
open_less : (accesses : List (Option AccessOf)) (s : ℕ) (access : AccessOf) → s < length accesses → access_at accesses s ≡ None → open_accesses (set accesses s (Some access)) < open_accesses accesses
open_less accesses s access low none =
    let f : Option AccessOf → ℕ = λ o. cond (is_none o) 1 0 in
    let sums = sum_by-set f accesses s (Some access) None low in
    let one : f (access_at accesses s) ≡ 1 = ap f none in
    omega (arith, sums, one)

-- what holds once the first n steps were looked at: what is kept is still right; and either nothing was kept, and none of the
-- steps has the length, or fewer states are open
abbrev pub FixingAccesses : {S : Type 0} → (S → ℕ) → ℕ → ℕ → List (Edge S) → List (Option (Access S)) → List (Option (Access S)) → ℕ → Type 0
FixingAccesses index most len edges old now n =
    ((table : Table) (choices : List (Option ChoiceOf)) → AreEdges table choices (edges_of index edges) → AreRightAccesses table most choices (accesses_of index old)
    → NoWalkIsBelow table most choices (accesses_of index old) len
    → AreRightAccesses table most choices (accesses_of index now) × NoWalkIsBelow table most choices (accesses_of index now) len)
    × (((now ≡ old) × ((k : ℕ) → k < n → open_at most (accesses_of index old) (edges_of index edges) k ≡ Some len → ⊥))
    ⊎ (open_accesses (accesses_of index now) < open_accesses (accesses_of index old)))

module _ {S : Type 0} (index : S → ℕ) (most len : ℕ) (edges : List (Edge S)) (old now new : List (Option (Access S))) (n : ℕ)
    (before : FixingAccesses index most len edges old now n) (edge : Edge S) (o : Option ℕ) (low : n < length edges) (at : edge ≡ get_or edges n edge)
    (fact : o ≡ open_by most (accesses_of index now) (edge_of index edge)) where
  abbrev the_edge : EdgeOf
  the_edge = edge_of index edge

  there : Contains (edges_of index edges) the_edge
  there =
      let long = length-map edges (edge_of index) in
      (n, omega (arith, long, low), get_or-map (edge_of index) edges n edge the_edge low ∙ ap (edge_of index) (sym at))

  pub accesses_fix : (k : ℕ) → option_eq nat_eq o (Some len) ≡ true → k ≡ index edge.next.0 → k < length now
      → new ≡ set now k (Some (record { len = len; last = Some edge.step })) → FixingAccesses index most len edges old new (n + 1)
  accesses_fix k equal target inside is =
      let open_now : open_by most (accesses_of index now) the_edge ≡ Some len = sym fact ∙ eq_some o len equal in
      let access : Access S = record { len = len; last = Some edge.step } in
      let list : accesses_of index new ≡ set (accesses_of index now) the_edge.next (Some (access_of index access)) =
      ap (accesses_of index) is ∙ map-set (option_map (access_of index)) now k (Some access) ∙ ap (λ (m : ℕ). set (accesses_of index now) m (Some (access_of index access))) target in
      let long = length-map now (option_map (access_of index)) in
      let within : the_edge.next < length (accesses_of index now) = omega (arith, long, inside, target) in
      let less : open_accesses (accesses_of index new) < open_accesses (accesses_of index now) =
      subst (λ (xs : List (Option AccessOf)). open_accesses xs < open_accesses (accesses_of index now)) (sym list)
      (open_less (accesses_of index now) the_edge.next (access_of index access) within (open_parts most (accesses_of index now) the_edge len open_now).0) in (
        λ table choices are right below.
            let so_far = before.0 table choices are right below in (
              subst (AreRightAccesses table most choices) (sym list)
                  (accesses_more table most choices (edges_of index edges) are (accesses_of index now) so_far.0 len the_edge there within open_now so_far.1),
              subst (λ (xs : List (Option AccessOf)). NoWalkIsBelow table most choices xs len) (sym list)
                  (below_kept table most choices (edges_of index edges) are (accesses_of index now) so_far.0 len the_edge there within open_now so_far.1),
            ),
        elim before.1 [
          | inl same ↦ inr (subst (λ (xs : List (Option (Access S))). open_accesses (accesses_of index new) < open_accesses (accesses_of index xs)) same.0 less)
          | inr fewer ↦ inr (omega (arith, less, fewer))
        ],
      )

  pub accesses_stay : option_eq nat_eq o (Some len) ≡ false → new ≡ now → FixingAccesses index most len edges old new (n + 1)
  accesses_stay unequal is =
      let not_here : open_at most (accesses_of index now) (edges_of index edges) n ≡ Some len → ⊥ =
      λ here. not_some o len unequal (fact ∙ sym (open_here index most (accesses_of index now) edges n edge low at) ∙ here) in
      subst (λ (xs : List (Option (Access S))). FixingAccesses index most len edges old xs (n + 1)) (sym is) (
        before.0,
        elim before.1 [
          | inl same ↦
              inl (
                same.0,
                stays_more (open_at most (accesses_of index old) (edges_of index edges)) n len
                    (subst (λ (xs : List (Option (Access S))). open_at most (accesses_of index xs) (edges_of index edges) n ≡ Some len → ⊥) same.0 not_here) same.1,
              )
          | inr fewer ↦ inr fewer
        ],
      )

-- nothing was looked at yet
pub accesses_start : {S : Type 0} (index : S → ℕ) (most len : ℕ) (edges : List (Edge S)) (old : List (Option (Access S))) → FixingAccesses index most len edges old old 0
accesses_start index most len edges old = (λ table choices are right below. (right, below), inl (refl, λ k low is. omega (arith, low)))

-- all were
pub accesses_end : {S : Type 0} (index : S → ℕ) (most len : ℕ) (edges : List (Edge S)) (old now : List (Option (Access S))) (n : ℕ) → length edges ≤ n
    → FixingAccesses index most len edges old now n → HasOpenStep most (accesses_of index old) (edges_of index edges) len
    → open_accesses (accesses_of index now) < open_accesses (accesses_of index old)
accesses_end index most len edges old now n all after some =
    let inside = some.1.1 in
    let long = length-map edges (edge_of index) in
    elim after.1 [
      | inl same ↦
          absurd (same.1 some.1.0 (omega (arith, all, inside, long)) (place_open most (accesses_of index old) (edges_of index edges) some.0 some.1 ∙ some.2))
      | inr fewer ↦ fewer
    ]

-- an access string that is put into a list is there, and elsewhere all is as it was
pub access_here : {S : Type 0} (index : S → ℕ) (accesses : List (Option (Access S))) (k : ℕ) (access : Access S) (s : ℕ) → s ≡ k → k < length accesses
    → access_at (accesses_of index (set accesses k (Some access))) s ≡ Some (access_of index access)
access_here index accesses k access s is low =
    let long = length-map accesses (option_map (access_of index)) in
    ap (λ (xs : List (Option AccessOf)). access_at xs s) (map-set (option_map (access_of index)) accesses k (Some access))
    ∙ ap (λ (n : ℕ). access_at (set (accesses_of index accesses) k (Some (access_of index access))) n) is
    ∙ get_or-set_same (accesses_of index accesses) k (Some (access_of index access)) None (omega (arith, long, low))

pub access_elsewhere : {S : Type 0} (index : S → ℕ) (accesses : List (Option (Access S))) (k : ℕ) (access : Access S) (s : ℕ) → (s ≡ k → ⊥)
    → access_at (accesses_of index (set accesses k (Some access))) s ≡ access_at (accesses_of index accesses) s
access_elsewhere index accesses k access s other =
    ap (λ (xs : List (Option AccessOf)). access_at xs s) (map-set (option_map (access_of index)) accesses k (Some access))
    ∙ get_or-set_other (accesses_of index accesses) k s (Some (access_of index access)) None other

-- an access string without a step to the start, and nothing elsewhere, is right
pub start_right : (table : Table) (most : ℕ) (choices : List (Option ChoiceOf)) (accesses : List (Option AccessOf)) → length accesses ≡ states_len table
    → access_at accesses table.start ≡ Some (record { len = 0; last = None }) → ((s : ℕ) → (s ≡ table.start → ⊥) → access_at accesses s ≡ None)
    → AreRightAccesses table most choices accesses
start_right table most choices accesses count here others = record {
  states = count;
  start = here;
  least = λ s len access path at walk total.
      let own : 0 ≡ access.len = ap access_len (sym here ∙ ap (access_at accesses) (sym (at_start s access at)) ∙ at) in omega (arith, own);
  back = λ s access at.
      let is = at_start s access at in
      let own : 0 ≡ access.len = ap access_len (sym here ∙ ap (access_at accesses) (sym is) ∙ at) in
      ([], (0, ap (access_at accesses) is ∙ here), is, ap (λ (n : ℕ). Some n) own);
}
  where
    at_start : (s : ℕ) (access : AccessOf) → access_at accesses s ≡ Some access → s ≡ table.start
    at_start s access at =
        elim (cases_eq s table.start) [
          | inl same ↦ same
          | inr other ↦ let none = others s other in absurd (cc)
        ]

-- a step of the code leads to a state of the table
pub edges_within : {S : Type 0} (index : S → ℕ) (table : Table) (choices : List (Option ChoiceOf)) (edges : List (Edge S)) (n : ℕ) → IsClosed table
    → AreEdges table choices (edges_of index edges) → n ≡ states_len table → All (λ edge. index edge.next.0 < n) edges
edges_within index table choices edges n closed are is k d low =
    let e = edge_of index (get_or edges k d) in
    let long = length-map edges (edge_of index) in
    let there : Contains (edges_of index edges) e = (k, omega (arith, long, low), get_or-map (edge_of index) edges k d e low) in
    let sound = are.sound e there in
    let within = goes_in table closed e.step.from e.next e.step.symbol sound.1 in
    omega (arith, within, is)
  where
    goes_in : (t : Table) → IsClosed t → (s next : ℕ) (x : GrammarSymbol) → GoesBy t s x next → next < states_len t
    goes_in t fits s next (Terminal a) goes = fits.shifts_within s a next goes
    goes_in t fits s next (Nonterminal r) goes = fits.gotos_within s r next goes
