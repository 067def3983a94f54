-- Rules are fixed in the order of their lengths. What is kept of some stays right as more comes; and no tree of a rule that is
-- still open has fewer tokens than the least open production.
use Rattle.std.proofs.Common.{◌≡◌, ◌<◌, ◌≤◌, ◌+◌, ◌⊎◌, ◌∙◌, refl, sym, ap, subst, inl, inr, arith, ℕ, zero, suc, get_or, map, List, [], ◌∷◌, Option, Some, None, length, min, length-append, replicate, set, cond, nat_eq, true, false, IfSome, MatchOption}
use Rattle.std.specs.Option.{is_none, option_eq, option_map, option_map_or}
use Rattle.std.proofs.lemmas.List.Sums.{sum_by-set}
use Rattle.std.proofs.lemmas.Bool.{cases_eq, cases_lt, eq-eqb, eqb-true, false≢true}
use Rattle.std.proofs.lemmas.List.{get_or-set_other, get_or-set_same, length-map, length-replicate, length-set, map-set}
use Rattle.lrpar_grammar.specs.Grammar.{Grammar, GrammarSymbol, Nonterminal, Terminal, prods_len, rule_of, rules_len, symbols_of}
use Rattle.lrpar_grammar.specs.Tree.{Tree, Forest, Leaf, Branch, Nil, Cons, leaves, forest_leaves}
use Rattle.lrpar_table_sentences.specs.Choices.{AreRight, AreShortest, ChoiceOf, Follows, ForestFollows, choice_at, choice_of, choices_of, prod_at}
use Rattle.lrpar_grammar_places.specs.declared.span.PIdx.{PIdx}
use Rattle.lrpar_table_sentences.specs.declared.minimal_sentences.Choice.{Choice}
use Rattle.lrpar_table_sentences.specs.Lens.{HasOpen, NoneIsBelow, NoneIsLess, NoneIsOpen, len_at, lesser_of, open_in, open_len, sum_of_lens, unless_some}
use Rattle.lrpar_table_sentences.specs.Texts.{AreTreesOf, IsTreeOf, forest_width, width}
use Rattle.lrpar_table_sentences.proofs.LenLemmas.{added_none, mapped_none, mapped_parts, option_cases, total_least, trees_kept}

-- what is kept in one list is kept in the other
abbrev pub Keeps : List (Option ChoiceOf) → List (Option ChoiceOf) → Type 0
Keeps old new = (r : ℕ) (x : ChoiceOf) → choice_at old r ≡ Some x → choice_at new r ≡ Some x

-- a list in which nothing is kept: how long it is, and each of its entries
pub nothing_len : {A B : Type 0} (f : A → B) (n : ℕ) (xs : List (Option A)) → xs ≡ replicate n None → length (map (option_map f) xs) ≡ n
nothing_len f n xs is = length-map xs (option_map f) ∙ ap (λ ys. length ys) is ∙ length-replicate n None

none_at : {A B : Type 0} (f : A → B) (n r : ℕ) → get_or (map (option_map f) (replicate n None)) r None ≡ None
none_at f zero zero = refl
none_at f zero (suc r) = refl
none_at f (suc n) zero = refl
none_at f (suc n) (suc r) = none_at f n r

pub nothing_at : {A B : Type 0} (f : A → B) (n : ℕ) (xs : List (Option A)) → xs ≡ replicate n None → (r : ℕ) → get_or (map (option_map f) xs) r None ≡ None
nothing_at f n xs is r = ap (λ ys. get_or (map (option_map f) ys) r None) is ∙ none_at f n r

-- the parts of something kept
abbrev len_in : Option ChoiceOf → ℕ
len_in o = option_map_or (λ (x : ChoiceOf). x.len) o 0

abbrev prod_in : Option ChoiceOf → ℕ
prod_in o = option_map_or (λ (x : ChoiceOf). x.prod) o 0

module _ (g : Grammar) (old new : List (Option ChoiceOf)) (keeps : Keeps old new) where
  -- trees that follow the one follow the other
  mutual
    pub follows_more : (t : Tree ℕ) (s : GrammarSymbol) → Follows g old t s → Follows g new t s
    follows_more (Leaf x) (Terminal a) follows = follows
    follows_more (Leaf x) (Nonterminal r) follows = absurd follows
    follows_more (Branch p children) (Terminal a) follows = absurd follows
    follows_more (Branch p children) (Nonterminal r) follows =
        let kept = mapped_parts (λ (x : ChoiceOf). x.prod) (choice_at old r) p follows.0 in
        let prod : prod_at new r ≡ Some p =
        ap (option_map (λ (x : ChoiceOf). x.prod)) (keeps r kept.0 kept.1) ∙ ap (λ (n : ℕ). Some n) kept.2 in
        (prod, forest_follow_more children (symbols_of g p) follows.1)

    pub forest_follow_more : (ts : Forest ℕ) (ss : List GrammarSymbol) → ForestFollows g old ts ss → ForestFollows g new ts ss
    forest_follow_more Nil [] follow = tt
    forest_follow_more Nil (s ∷ ss) follow = absurd follow
    forest_follow_more (Cons t ts) [] follow = absurd follow
    forest_follow_more (Cons t ts) (s ∷ ss) follow = (follows_more t s follow.0, forest_follow_more ts ss follow.1)

module _ (g : Grammar) (most : ℕ) (choices : List (Option ChoiceOf)) where
  -- the length of an open production
  pub open_is : (p len : ℕ) → choice_at choices (rule_of g p) ≡ None → sum_of_lens most choices (symbols_of g p) ≡ Some len
      → open_len g most choices p ≡ Some len
  open_is p len none total = ap (λ (o : Option ChoiceOf). unless_some o (sum_of_lens most choices (symbols_of g p))) none ∙ total

  -- and what it says
  pub open_has : (p len : ℕ) → open_len g most choices p ≡ Some len
      → (choice_at choices (rule_of g p) ≡ None) × (sum_of_lens most choices (symbols_of g p) ≡ Some len)
  open_has p len is =
      elim (option_cases (choice_at choices (rule_of g p))) [
        | inl none ↦ (none, ap (λ (o : Option ChoiceOf). unless_some o (sum_of_lens most choices (symbols_of g p))) (sym none) ∙ is)
        | inr some ↦ let other = ap (λ (o : Option ChoiceOf). unless_some o (sum_of_lens most choices (symbols_of g p))) some.1 in absurd (cc)
      ]

module _ (g : Grammar) (most : ℕ) (choices : List (Option ChoiceOf)) (right : AreRight g most choices) where
  -- no tree of an open rule has fewer tokens than the least open production
  module _ (len : ℕ) (less : NoneIsLess g most choices len) where
    mutual
      tree_below : (t : Tree ℕ) (r : ℕ) → choice_at choices r ≡ None → IsTreeOf g (Nonterminal r) t → len ≤ width t
      tree_below (Leaf x) r none fit = absurd fit
      tree_below (Branch p children) r none fit =
          let own : choice_at choices (rule_of g p) ≡ None = ap (choice_at choices) fit.1 ∙ none in
          elim (option_cases (sum_of_lens most choices (symbols_of g p))) as (λ _. len ≤ forest_width children) [
            | inl none_yet ↦ forest_below children (symbols_of g p) none_yet fit.2
            | inr total ↦
                let low = less p total.0 fit.0 (open_is g most choices p total.0 own total.1) in
                let least = total_least g most choices right (symbols_of g p) total.0 children total.1 fit.2 in
                omega (arith, low, least)
          ]

      forest_below : (ts : Forest ℕ) (ss : List GrammarSymbol) → sum_of_lens most choices ss ≡ None → AreTreesOf g ss ts → len ≤ forest_width ts
      forest_below Nil [] none fit = absurd (cc)
      forest_below Nil (s ∷ ss) none fit = absurd fit
      forest_below (Cons t ts) [] none fit = absurd fit
      forest_below (Cons t ts) (Terminal a ∷ ss) none fit =
          elim (added_none most (Some 1) (sum_of_lens most choices ss) none) as (λ _. len ≤ forest_width (Cons t ts)) [
            | inl never ↦ absurd (cc)
            | inr others ↦ let low = forest_below ts ss others fit.1 in omega (arith, low, length-append (leaves t) (forest_leaves ts))
          ]
      forest_below (Cons t ts) (Nonterminal r ∷ ss) none fit =
          elim (added_none most (len_at choices (Nonterminal r)) (sum_of_lens most choices ss) none) as (λ _. len ≤ forest_width (Cons t ts)) [
            | inl one ↦
                let low = tree_below t r (mapped_none (λ (x : ChoiceOf). x.len) (choice_at choices r) one) fit.0 in
                omega (arith, low, length-append (leaves t) (forest_leaves ts))
            | inr others ↦ let low = forest_below ts ss others fit.1 in omega (arith, low, length-append (leaves t) (forest_leaves ts))
          ]

    pub none_is_below : NoneIsBelow g choices len
    none_is_below r t none fit = tree_below t r none fit

  -- if nothing is open, all rules that have trees are fixed
  pub all_fixed : NoneIsOpen g most choices → AreShortest g most choices
  all_fixed closed = record {
    right = right;
    all = λ r none t fit.
        let more : suc (width t) ≤ width t =
        none_is_below (suc (width t)) (λ p other known is. let never = closed p known in absurd (cc)) r t none fit in
        omega (arith, more);
  }

  -- one more is fixed
  module _ (len p : ℕ) (known : p < prods_len g) (low : rule_of g p < rules_len g) (is : open_len g most choices p ≡ Some len)
      (below : NoneIsBelow g choices len) where
    abbrev fixed : List (Option ChoiceOf)
    fixed = set choices (rule_of g p) (Some (record { len = len; prod = p }))

    here : choice_at fixed (rule_of g p) ≡ Some (record { len = len; prod = p })
    here = let count = right.rules in get_or-set_same choices (rule_of g p) _ None (omega (arith, low, count))

    there : (r : ℕ) → (r ≡ rule_of g p → ⊥) → choice_at fixed r ≡ choice_at choices r
    there r other = get_or-set_other choices (rule_of g p) r _ None other

    pub fixed_keeps : Keeps choices fixed
    fixed_keeps r x kept =
        elim (cases_eq r (rule_of g p)) [
          | inl same ↦ let none = (open_has g most choices p len is).0 in let own = ap (choice_at choices) same in absurd (cc)
          | inr other ↦ there r other ∙ kept
        ]

    pub right_more : AreRight g most fixed
    right_more =
        let fact = open_has g most choices p len is in
        let kept = trees_kept g most choices right (symbols_of g p) len fact.1 in
        record {
          rules = length-set choices (rule_of g p) _ ∙ right.rules;
          own = λ r x at.
              elim (cases_eq r (rule_of g p)) [
                | inl same ↦
                    let own = sym here ∙ ap (choice_at fixed) (sym same) ∙ at in
                    let prod : p ≡ x.prod = ap prod_in own in
                    (subst (λ (n : ℕ). n < prods_len g) prod known, ap (rule_of g) (sym prod) ∙ sym same)
                | inr other ↦ right.own r x (sym (there r other) ∙ at)
              ];
          least = λ r x at t fit.
              elim (cases_eq r (rule_of g p)) [
                | inl same ↦
                    let own = sym here ∙ ap (choice_at fixed) (sym same) ∙ at in
                    let length : len ≡ x.len = ap len_in own in
                    let least = below r t (ap (choice_at choices) same ∙ fact.0) fit in
                    omega (arith, length, least)
                | inr other ↦ right.least r x (sym (there r other) ∙ at) t fit
              ];
          trees = λ r x at.
              elim (cases_eq r (rule_of g p)) [
                | inl same ↦
                    let own = sym here ∙ ap (choice_at fixed) (sym same) ∙ at in
                    let length : len ≡ x.len = ap len_in own in
                    let prod : prod_at fixed r ≡ Some p = ap (λ (n : ℕ). prod_at fixed n) same ∙ ap (option_map (λ (y : ChoiceOf). y.prod)) here in
                    (Branch p kept.0, (prod, forest_follow_more g choices fixed fixed_keeps kept.0 (symbols_of g p) kept.1), kept.2 ∙ length)
                | inr other ↦
                    let one = right.trees r x (sym (there r other) ∙ at) in
                    (one.0, follows_more g choices fixed fixed_keeps one.0 (Nonterminal r) one.1, one.2)
              ];
        }

    pub below_more : NoneIsBelow g fixed len
    below_more r t none fit =
        elim (cases_eq r (rule_of g p)) [
          | inl same ↦ let own = ap (choice_at fixed) same in let some = here in absurd (cc)
          | inr other ↦ below r t (sym (there r other) ∙ none) fit
        ]

-- the least of the first n numbers that there are; none, if there are none
abbrev pub IsLeastBelow : (ℕ → Option ℕ) → ℕ → Option ℕ → Type 0
IsLeastBelow f n None = (p : ℕ) → p < n → f p ≡ None
IsLeastBelow f n (Some len) = ((p : ℕ) × (p < n) × (f p ≡ Some len)) × ((p other : ℕ) → p < n → f p ≡ Some other → len ≤ other)

-- with one more, the lesser one
pub least_more : (f : ℕ → Option ℕ) (n : ℕ) (least here new : Option ℕ) → IsLeastBelow f n least → f n ≡ here → new ≡ lesser_of least here
    → IsLeastBelow f (n + 1) new
least_more f n None None new before is more =
    subst (IsLeastBelow f (n + 1)) (sym more)
    (λ p low. elim (cases_eq p n) [ inl same ↦ ap f same ∙ is | inr other ↦ before p (omega (arith, low, other)) ])
least_more f n None (Some b) new before is more =
    subst (IsLeastBelow f (n + 1)) (sym more) (
      (n, omega arith, is),
      λ p other low at.
          elim (cases_eq p n) as (λ _. b ≤ other) [
            | inl same ↦ let own : Some b ≡ Some other = sym is ∙ ap f (sym same) ∙ at in let equal : b ≡ other = cc in omega (arith, equal)
            | inr not ↦ let none = before p (omega (arith, low, not)) in absurd (cc)
          ],
    )
least_more f n (Some a) None new before is more =
    subst (IsLeastBelow f (n + 1)) (sym more) (
      let one = before.0 in let inside = one.1 in (one.0, omega (arith, inside), one.2),
      λ p other low at.
          elim (cases_eq p n) as (λ _. a ≤ other) [
            | inl same ↦ let none = ap f same ∙ is in absurd (cc)
            | inr not ↦ before.1 p other (omega (arith, low, not)) at
          ],
    )
least_more f n (Some a) (Some b) new before is more =
    subst (IsLeastBelow f (n + 1)) (sym more) (
      elim (cases_lt b a) as (λ _. (p : ℕ) × (p < n + 1) × (f p ≡ Some (min a b))) [
        | inl lower ↦ let same : b ≡ min a b = omega (arith, lower) in (n, omega arith, is ∙ ap (λ (m : ℕ). Some m) same)
        | inr higher ↦
            let same : a ≡ min a b = omega (arith, higher) in
            let one = before.0 in
            let inside = one.1 in (one.0, omega (arith, inside), one.2 ∙ ap (λ (m : ℕ). Some m) same)
      ],
      λ p other low at.
          elim (cases_eq p n) as (λ _. min a b ≤ other) [
            | inl same ↦ let own : Some b ≡ Some other = sym is ∙ ap f (sym same) ∙ at in let equal : b ≡ other = cc in omega (arith, equal)
            | inr not ↦ let least = before.1 p other (omega (arith, low, not)) at in omega (arith, least)
          ],
    )

-- the number of an index that was made of it
pub index_back : {S : Type 0} (index : S → ℕ) (o : Option S) (x : S) (n : ℕ) → IfSome o (λ y. index y ≡ n) → o ≡ Some x → index x ≡ n
index_back index None x n back is = absurd (cc)
index_back index (Some y) x n back is = let same : y ≡ x = cc in ap index (sym same) ∙ back

-- whether there is a number, and which
pub eq_some : (o : Option ℕ) (n : ℕ) → option_eq nat_eq o (Some n) ≡ true → o ≡ Some n
eq_some None n is = absurd (false≢true is)
eq_some (Some m) n is = ap (λ (k : ℕ). Some k) (eqb-true m n is)

pub not_some : (o : Option ℕ) (n : ℕ) → option_eq nat_eq o (Some n) ≡ false → o ≡ Some n → ⊥
not_some None n is at = absurd (cc)
not_some (Some m) n is at = let same : m ≡ n = cc in false≢true (sym is ∙ eq-eqb m n same)

-- fewer rules are open if one more is kept
open_less : (choices : List (Option ChoiceOf)) (r : ℕ) (x : ChoiceOf) → r < length choices → choice_at choices r ≡ None
    → open_in (set choices r (Some x)) < open_in choices
open_less choices r x low none =
    let f : Option ChoiceOf → ℕ = λ o. cond (is_none o) 1 0 in
    let sums = sum_by-set f choices r (Some x) None low in
    let one : f (choice_at choices r) ≡ 1 = ap f none in
    omega (arith, sums, one)

-- one production more, which is kept
module _ {S : Type 0} (index : S → ℕ) (g : Grammar) (most : ℕ) (choices : List (Option (Choice S)))
    (right : AreRight g most (choices_of index choices)) (len : ℕ) (below : NoneIsBelow g (choices_of index choices) len) where
  module _ (p r : ℕ) (choice : Choice S) (known : p < prods_len g) (low : rule_of g p < rules_len g)
      (is : open_len g most (choices_of index choices) p ≡ Some len) (rule : r ≡ rule_of g p) (kept : choice_of index choice ≡ record { len = len; prod = p }) where
    kept_list : choices_of index (set choices r (Some choice)) ≡ set (choices_of index choices) (rule_of g p) (Some (record { len = len; prod = p }))
    kept_list =
        map-set (option_map (choice_of index)) choices r (Some choice)
        ∙ ap (λ (n : ℕ). set (choices_of index choices) n (Some (choice_of index choice))) rule
        ∙ ap (λ (x : ChoiceOf). set (choices_of index choices) (rule_of g p) (Some x)) kept

    pub kept_right : AreRight g most (choices_of index (set choices r (Some choice)))
    kept_right = subst (AreRight g most) (sym kept_list) (right_more g most (choices_of index choices) right len p known low is below)

    pub kept_below : NoneIsBelow g (choices_of index (set choices r (Some choice))) len
    kept_below = subst (λ (xs : List (Option ChoiceOf)). NoneIsBelow g xs len) (sym kept_list) (below_more g most (choices_of index choices) right len p known low is below)

    pub kept_less : open_in (choices_of index (set choices r (Some choice))) < open_in (choices_of index choices)
    kept_less =
        let count = right.rules in
        subst (λ (xs : List (Option ChoiceOf)). open_in xs < open_in (choices_of index choices)) (sym kept_list)
        (open_less (choices_of index choices) (rule_of g p) _ (omega (arith, low, count)) (open_has g most (choices_of index choices) p len is).0)

-- the least of all open productions
pub least_found : (g : Grammar) (most : ℕ) (choices : List (Option ChoiceOf)) (n : ℕ) (least : Option ℕ) → n ≡ prods_len g
    → IsLeastBelow (open_len g most choices) n least
    → MatchOption least (NoneIsOpen g most choices) (λ len. HasOpen g most choices len × NoneIsLess g most choices len)
least_found g most choices n None all before = λ p known. before p (omega (arith, all, known))
least_found g most choices n (Some len) all before =
    let one = before.0 in
    let inside = one.1 in
    ((one.0, omega (arith, all, inside), one.2), λ p other known at. before.1 p other (omega (arith, all, known)) at)

-- nothing was kept of the first n productions, none of which has the length; nor of one more
pub stays_more : (f : ℕ → Option ℕ) (n len : ℕ) → (f n ≡ Some len → ⊥) → ((p : ℕ) → p < n → f p ≡ Some len → ⊥)
    → (p : ℕ) → p < n + 1 → f p ≡ Some len → ⊥
stays_more f n len here before p low at =
    elim (cases_eq p n) [ inl same ↦ here (ap f (sym same) ∙ at) | inr other ↦ before p (omega (arith, low, other)) at ]

-- what holds once the first n productions were looked at: either nothing was kept, and none of them has the length, or fewer
-- rules are open
abbrev pub Fixing : {S : Type 0} → (S → ℕ) → Grammar → ℕ → ℕ → List (Option (Choice S)) → List (Option (Choice S)) → ℕ → Type 0
Fixing index g most len old now n =
    AreRight g most (choices_of index now)
    × NoneIsBelow g (choices_of index now) len
    × (((now ≡ old) × ((p : ℕ) → p < n → open_len g most (choices_of index old) p ≡ Some len → ⊥))
    ⊎ (open_in (choices_of index now) < open_in (choices_of index old)))

module _ {S : Type 0} (index : S → ℕ) (g : Grammar) (most len : ℕ) (old now new : List (Option (Choice S))) (n : ℕ)
    (before : Fixing index g most len old now n) where
  pub fixing_kept : (r : ℕ) (prod : PIdx S) (o : Option ℕ) → n < prods_len g → index prod.0 ≡ n → o ≡ open_len g most (choices_of index now) (index prod.0)
      → option_eq nat_eq o (Some len) ≡ true → r ≡ rule_of g (index prod.0) → r < rules_len g
      → new ≡ set now r (Some (record { len = len; prod = prod })) → Fixing index g most len old new (n + 1)
  fixing_kept r prod o known at fact equal rule low is =
      let open_here : open_len g most (choices_of index now) n ≡ Some len =
      ap (open_len g most (choices_of index now)) (sym at) ∙ sym fact ∙ eq_some o len equal in
      let owner : r ≡ rule_of g n = rule ∙ ap (rule_of g) at in
      let inside : rule_of g n < rules_len g = subst (λ (k : ℕ). k < rules_len g) owner low in
      let choice : Choice S = record { len = len; prod = prod } in
      let made : choice_of index choice ≡ record { len = len; prod = n } = ap (λ (k : ℕ). record { len = len; prod = k }) at in
      let less = kept_less index g most now before.0 len before.1 n r choice known inside open_here owner made in
      subst (λ (xs : List (Option (Choice S))). Fixing index g most len old xs (n + 1)) (sym is) (
        kept_right index g most now before.0 len before.1 n r choice known inside open_here owner made,
        kept_below index g most now before.0 len before.1 n r choice known inside open_here owner made,
        elim before.2 [
          | inl same ↦ inr (subst (λ (xs : List (Option (Choice S))). open_in (choices_of index (set now r (Some choice))) < open_in (choices_of index xs)) same.0 less)
          | inr fewer ↦ inr (omega (arith, less, fewer))
        ],
      )

  pub fixing_stays : (prod : PIdx S) (o : Option ℕ) → index prod.0 ≡ n → o ≡ open_len g most (choices_of index now) (index prod.0)
      → option_eq nat_eq o (Some len) ≡ false → new ≡ now → Fixing index g most len old new (n + 1)
  fixing_stays prod o at fact unequal is =
      let not_here : open_len g most (choices_of index now) n ≡ Some len → ⊥ =
      λ here. not_some o len unequal (fact ∙ ap (open_len g most (choices_of index now)) at ∙ here) in
      subst (λ (xs : List (Option (Choice S))). Fixing index g most len old xs (n + 1)) (sym is) (
        before.0,
        before.1,
        elim before.2 [
          | inl same ↦
              inl (
                same.0,
                stays_more (open_len g most (choices_of index old)) n len
                    (subst (λ (xs : List (Option (Choice S))). open_len g most (choices_of index xs) n ≡ Some len → ⊥) same.0 not_here) same.1,
              )
          | inr fewer ↦ inr fewer
        ],
      )

-- all were looked at
pub fixing_ends : {S : Type 0} (index : S → ℕ) (g : Grammar) (most len : ℕ) (old now : List (Option (Choice S))) (n : ℕ) → prods_len g ≤ n
    → Fixing index g most len old now n → HasOpen g most (choices_of index old) len → open_in (choices_of index now) < open_in (choices_of index old)
fixing_ends index g most len old now n all after some =
    let known = some.1 in
    elim after.2 [ inl same ↦ absurd (same.1 some.0 (omega (arith, all, known)) some.2) | inr fewer ↦ fewer ]

-- if nothing is kept, it is right
pub right_none : (g : Grammar) (most : ℕ) (choices : List (Option ChoiceOf)) → length choices ≡ rules_len g → ((r : ℕ) → choice_at choices r ≡ None)
    → AreRight g most choices
right_none g most choices count none = record {
  rules = count;
  own = λ r x at. let never = none r in absurd (cc);
  least = λ r x at t fit. let never = none r in absurd (cc);
  trees = λ r x at. let never = none r in absurd (cc);
}
