-- The conflicts that a table lists, counterexamples of them, and that these fit the grammar.
use Rattle.std.proofs.Common.{◌≡◌, ◌<◌, ◌+◌, ◌⊎◌, ◌∙◌, refl, sym, ap, subst, arith, inl, inr, ℕ, List, [], ◌∷◌, ◌++◌, Option, Some, None, Result, Ok, Err, get_or, length, map, take}
use Rattle.std.specs.Prelude.{IfOk}
use Rattle.std.specs.List.{All, AllByRecursion, Contains}
use Rattle.std.proofs.lemmas.List.Elements.{All-append, All-contains, All-map, Contains-append_cases, Contains-get_or}
use Rattle.std.proofs.lemmas.List.{append-nil, append_assoc, map-append}
use Rattle.lrpar_grammar.specs.Grammar.{Grammar, end_token, tokens_len}
use Rattle.lrpar_grammar.specs.Tree.{Forest, Tree}
use Rattle.lrpar_grammar_places.proofs.ListLemmas.{all_both, map-take_more}
use Rattle.lrpar_table_rows.proofs.ItemLemmas.{Contains-image, Contains-preimage}
use Rattle.lrpar_table_rows.specs.ConflictsFit.{ConflictsFit}
use Rattle.lrpar_table_rows.specs.Graph.{Graph}
use Rattle.lrpar_table_rows.specs.Table.{ConflictLists, ReduceReduce, ShiftReduce}
use Rattle.lrpar_table_build.specs.BuilderLaws.{lists_in}
use Rattle.lrpar_table_build.proofs.MemberLemmas.{member_first, member_later}
use Rattle.lrpar_table_sentences.specs.Moves.{MoveOf, Makes, Takes}
use Rattle.lrpar_conflict_derivations.specs.Derivation.{IsDerivation}
use Rattle.lrpar_conflict_derivations.specs.Example.{ExampleOf}
use Rattle.lrpar_conflict_examples.specs.Conflicts.{AreAlike, AreAmong, AreExamplesOf, ConflictExampleOf, ConflictOf, HaveSearched, IsCounterexample, IsExampleOf, conflicts_in, of_reductions, of_shift}
use Rattle.lrpar_conflict_examples.specs.ExamplesFit.{DerivesFrom, ExampleFits, ExamplesFit}
use Rattle.lrpar_conflict_examples.specs.Fits.{IsMoveOf}

abbrev own_conflict : ConflictExampleOf → ConflictOf
own_conflict x = x.conflict

-- conflicts are listed after others: at first none, then one more
module _ {A B C : Type 0} (shown : C → ConflictOf) (plain : A → B) (own : B → ConflictOf) (base : List ConflictOf) (xs : List A) where
  pub listed_none : (made : List C) → map shown made ≡ base → map shown made ≡ base ++ map own (map plain (take 0 xs))
  listed_none made is =
      is ∙ elim xs as (λ l. base ≡ base ++ map own (map plain (take 0 l))) [
        | [] ↦ sym (append-nil base)
        | y ∷ ys ↦ sym (append-nil base)
      ]

  pub listed_more : (i : ℕ) (x : A) (made new : List C) (y : C) → i < length xs → x ≡ get_or xs i x
      → map shown made ≡ base ++ map own (map plain (take i xs)) → new ≡ made ++ y ∷ [] → shown y ≡ own (plain x)
      → map shown new ≡ base ++ map own (map plain (take (i + 1) xs))
  listed_more i x made new y low is so_far put same =
      let before = map own (map plain (take i xs)) in
      ap (map shown) put ∙ map-append shown made (y ∷ []) ∙ ap (λ s. s ++ shown y ∷ []) so_far ∙ append_assoc base before (shown y ∷ [])
      ∙ ap (λ c. base ++ (before ++ c ∷ [])) same
      ∙ ap (λ s. base ++ s) (sym (ap (map own) (map-take_more plain xs i x low is) ∙ map-append own (map plain (take i xs)) (plain x ∷ [])))

-- an element of a list is among the values that it was taken from
pub is_member : {A : Type 0} (f : A → ConflictOf) (xs : List A) (all : List ConflictOf) (i : ℕ) (x : A) → i < length xs → x ≡ get_or xs i x
    → AreAmong (map f xs) all → Contains all (f x)
is_member f xs all i x low is among =
    among (f x) (Contains-image f xs x (subst (Contains xs) (sym is) (Contains-get_or xs i x low)))

-- counterexamples: at first none, then one more
module _ (g : Grammar) (graph : Graph) (bound : ℕ) {A : Type 0} (f : A → ConflictOf) (xs : List A) where
  pub examples_none : (made : List ConflictExampleOf) → made ≡ [] → AreExamplesOf g graph bound (map f (take 0 xs)) made
  examples_none made none =
      subst (AreExamplesOf g graph bound (map f (take 0 xs))) (sym none)
      (elim xs as (λ l. AreExamplesOf g graph bound (map f (take 0 l)) []) [
        | [] ↦ record { conflicts_are = refl; each = tt }
        | y ∷ ys ↦ record { conflicts_are = refl; each = tt }
      ])

  pub examples_more : (i : ℕ) (x : A) (now new : List ConflictExampleOf) (e : ConflictExampleOf) → i < length xs → x ≡ get_or xs i x
      → AreExamplesOf g graph bound (map f (take i xs)) now → new ≡ now ++ e ∷ [] → e.conflict ≡ f x → IsExampleOf g graph bound e
      → AreExamplesOf g graph bound (map f (take (i + 1) xs)) new
  examples_more i x now new e low is so_far put own example = record {
    conflicts_are =
        ap (map own_conflict) put ∙ map-append own_conflict now (e ∷ []) ∙ ap (λ l. l ++ e.conflict ∷ []) so_far.conflicts_are
        ∙ ap (λ c. map f (take i xs) ++ c ∷ []) own ∙ sym (map-take_more f xs i x low is);
    each =
        subst (AllByRecursion (IsExampleOf g graph bound)) (sym put)
        (all_both (IsExampleOf g graph bound) now (e ∷ []) so_far.each (example, tt));
  }

-- if there are no conflicts, there are no counterexamples
pub no_examples : (g : Grammar) (graph : Graph) (bound : ℕ) (conflicts : Option ConflictLists) (items : List ConflictExampleOf) → conflicts ≡ None → items ≡ []
    → AreExamplesOf g graph bound (conflicts_in (lists_in conflicts)) items
no_examples g graph bound None [] none empty = record { conflicts_are = refl; each = tt }
no_examples g graph bound (Some lists) items none empty = absurd (cc)
no_examples g graph bound None (x ∷ items) none empty = absurd (cc)

-- the production that a move makes
abbrev prod_of : MoveOf → ℕ
prod_of (Makes p) = p
prod_of (Takes t) = t

-- a listed conflict is one of its kind, and its first move is a reduction
module _ (lists : ConflictLists) (c : ConflictOf) (there : Contains (conflicts_in lists) c) where
  cases : Contains (map of_reductions lists.reduce_reduce) c ⊎ Contains (map of_shift lists.shift_reduce) c
  cases = Contains-append_cases (map of_reductions lists.reduce_reduce) (map of_shift lists.shift_reduce) c there

  pub reductions_listed : (p q : ℕ) → c.first ≡ Makes p → c.second ≡ Makes q
      → Contains lists.reduce_reduce (record { token = c.token; first = p; second = q; state = c.state })
  reductions_listed p q first second =
      elim cases [
        | inl own ↦
            let x = Contains-preimage of_reductions lists.reduce_reduce c own in
            let back : ConflictOf → ReduceReduce = λ o. record { token = o.token; first = prod_of o.first; second = prod_of o.second; state = o.state } in
            let is : x.0 ≡ record { token = c.token; first = p; second = q; state = c.state } =
            ap back x.2 ∙ ap (λ m. record { token = c.token; first = prod_of m; second = prod_of c.second; state = c.state }) first
            ∙ ap (λ m. record { token = c.token; first = p; second = prod_of m; state = c.state }) second in
            subst (Contains lists.reduce_reduce) is x.1
        | inr other ↦
            let x = Contains-preimage of_shift lists.shift_reduce c other in
            let never : Takes x.0.token ≡ Makes q = ap (λ (o : ConflictOf). o.second) x.2 ∙ second in absurd (cc)
      ]

  pub shift_listed : (p t : ℕ) → c.first ≡ Makes p → c.second ≡ Takes t
      → Contains lists.shift_reduce (record { token = c.token; prod = p; state = c.state }) × (t ≡ c.token)
  shift_listed p t first second =
      elim cases [
        | inl other ↦
            let x = Contains-preimage of_reductions lists.reduce_reduce c other in
            let never : Makes x.0.second ≡ Takes t = ap (λ (o : ConflictOf). o.second) x.2 ∙ second in absurd (cc)
        | inr own ↦
            let x = Contains-preimage of_shift lists.shift_reduce c own in
            let back : ConflictOf → ShiftReduce = λ o. record { token = o.token; prod = prod_of o.first; state = o.state } in
            let is : x.0 ≡ record { token = c.token; prod = p; state = c.state } =
            ap back x.2 ∙ ap (λ m. record { token = c.token; prod = prod_of m; state = c.state }) first in
            let taken : Takes x.0.token ≡ Takes t = ap (λ (o : ConflictOf). o.second) x.2 ∙ second in
            (subst (Contains lists.shift_reduce) is x.1, sym (ap prod_of taken) ∙ ap (λ (o : ConflictOf). o.token) x.2)
      ]

  pub first_made : (t : ℕ) → c.first ≡ Takes t → ⊥
  first_made t first =
      elim cases [
        | inl own ↦
            let x = Contains-preimage of_reductions lists.reduce_reduce c own in
            let never : Makes x.0.first ≡ Takes t = ap (λ (o : ConflictOf). o.first) x.2 ∙ first in cc
        | inr own ↦
            let x = Contains-preimage of_shift lists.shift_reduce c own in
            let never : Makes x.0.prod ≡ Takes t = ap (λ (o : ConflictOf). o.first) x.2 ∙ first in cc
      ]

-- what three clauses say of a value together
pub if_ok_all : {T E : Type 0} (r : Result T E) (P Q R All : T → Type 0) → ((x : T) → P x → Q x → R x → All x) → IfOk r P → IfOk r Q → IfOk r R → IfOk r All
if_ok_all (Ok x) P Q R All all one other third = all x one other third
if_ok_all (Err e) P Q R All all one other third = tt

-- the searches for counterexamples of conflicts have gone on as long as the bound allows
pub examples_searched : (g : Grammar) (graph : Graph) (bound : ℕ) (xs : List ConflictExampleOf) → AllByRecursion (IsExampleOf g graph bound) xs → HaveSearched bound xs
examples_searched g graph bound [] each = tt
examples_searched g graph bound (x ∷ xs) each = (each.0.2, examples_searched g graph bound xs each.1)

-- what a conflict names is of the grammar
record NamesOf (g : Grammar) (c : ConflictOf) : Type 0 where
  pub token : c.token < tokens_len g
  pub first : IsMoveOf g c.first
  pub second : IsMoveOf g c.second

listed_named : (g : Grammar) (lists : ConflictLists) → ConflictsFit g lists → All (NamesOf g) (conflicts_in lists)
listed_named g lists fit =
    All-append (NamesOf g) (map of_reductions lists.reduce_reduce) (map of_shift lists.shift_reduce)
    (All-map (NamesOf g) of_reductions lists.reduce_reduce
    (λ k d low. let own = fit.reduce_reduce k d low in record { token = own.token; first = own.first; second = own.second }))
    (All-map (NamesOf g) of_shift lists.shift_reduce
    (λ k d low.
    let own = fit.shift_reduce k d low in
    let below : (get_or lists.shift_reduce k d).token < end_token g = own.token in
    let token : (get_or lists.shift_reduce k d).token < tokens_len g = omega (arith, below) in
    record { token = token; first = own.prod; second = token }))

-- a derivation is that of a tree
derives_from : (g : Grammar) (before : List ℕ) (token : ℕ) (trees : Forest ℕ) (next : MoveOf) (moves : List MoveOf) (tree : Tree ℕ)
    → IsDerivation g before token trees next moves tree → DerivesFrom g before moves
derives_from g before token trees next moves tree derivation = record {
  tree = tree;
  of_tree = record { fits = derivation.fits; are = derivation.moves_are };
  rest = derivation.rest;
  text = derivation.text;
}

-- a counterexample of a listed conflict is one of each conflict that is like it, and fits the grammar
pub like_fits : (g : Grammar) (graph : Graph) (bound : ℕ) (lists : ConflictLists) (own conflict : ConflictOf) (x : ExampleOf) → ConflictsFit g lists
    → Contains (conflicts_in lists) own → AreAlike own conflict → IsCounterexample g graph bound own x
    → ExampleFits g (record { conflict = conflict; example = x })
like_fits g graph bound lists own conflict x fit there alike is =
    let named = All-contains (NamesOf g) (conflicts_in lists) own (listed_named g lists fit) there in
    let example = is.0 in
    record {
      token = subst (λ t. t < tokens_len g) alike.token named.token;
      first_move = subst (IsMoveOf g) alike.first named.first;
      second_move = subst (IsMoveOf g) alike.second named.second;
      first = derives_from g x.before own.token example.trees own.first x.first example.tree example.first;
      second = derives_from g x.before own.token example.trees own.second x.second example.other_tree example.second;
    }

pub examples_fit : (g : Grammar) (graph : Graph) (bound : ℕ) (lists : ConflictLists) (conflicts : List ConflictOf) (xs : List ConflictExampleOf)
    → ConflictsFit g lists → AreAmong conflicts (conflicts_in lists) → AreExamplesOf g graph bound conflicts xs → ExamplesFit g xs
examples_fit g graph bound lists conflicts xs fit among are =
    each xs (λ c there. among c (subst (λ l. Contains l c) are.conflicts_are there)) are.each
  where
    each : (xs : List ConflictExampleOf) → AreAmong (map own_conflict xs) (conflicts_in lists) → AllByRecursion (IsExampleOf g graph bound) xs → ExamplesFit g xs
    each [] listed is = tt
    each (x ∷ xs) listed is = (
      like_fits g graph bound lists x.conflict x.conflict x.example fit (listed x.conflict (member_first x.conflict (map own_conflict xs)))
          (record { token = refl; first = refl; second = refl }) is.0,
      each xs (λ c there. listed c (member_later x.conflict (map own_conflict xs) c there)) is.1,
    )
