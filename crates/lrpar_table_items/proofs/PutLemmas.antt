-- The closure's cores in order: the kernel's, and then the productions of each rule that the closure adds.
use Rattle.std.proofs.Common.{◌≡◌, ◌<◌, ◌≤◌, ◌+◌, ◌↔◌, ◌⊎◌, ◌∙◌, refl, sym, ap, subst, inl, inr, arith, ℕ, Bool, cond, List, [], ◌∷◌, ◌++◌, All, IsTrue, get_or, length, map}
use Rattle.std.proofs.lemmas.Bool.{cases_eq, cases_lt, eq-eqb, ne_eqb}
use Rattle.std.proofs.lemmas.List.{append_assoc, map-append}
use Rattle.std.proofs.lemmas.List.Elements.{All-append, All-cons, All-contains_itself, All-head, All-map, All-nil, All-tail, All-weaker}
use Rattle.lrpar_grammar.specs.Grammar.{Grammar, IsWellFormed, Production, prods_from, prods_len, prods_of, rule_of, rules_len}
use Rattle.lrpar_table_rows.specs.Graph.{ItemOf}
use Rattle.lrpar_table_rows.proofs.ItemLemmas.{Contains-image, Contains-preimage}
use Rattle.lrpar_table_first.specs.FirstRows.{dummy_lookahead}
use Rattle.lrpar_grammar.specs.Tokens.{has}
use Rattle.lrpar_table_items.specs.Brought.{HasIn, IsBrought, Given, Brought}
use Rattle.lrpar_table_items.specs.Cores.{AreBringing, CoreSet, IsAmong, IsCoreOf, IsOfRows, IsOfRule}
use Rattle.lrpar_table_items.specs.CoreOrder.{AreCores, AreCoresInOrder, ComesBefore, IsAhead, IsBegun, IsFilled}
use Rattle.lrpar_table_items.proofs.AmongLemmas.{among_append}
use Rattle.lrpar_table_items.proofs.ProdLemmas.{in_prods, of_prods, rule_below}
use Rattle.lrpar_table_items.proofs.AddedLemmas.{rule_after_listed}

-- each number is less than all numbers after it
abbrev AreRising : List ℕ → Type 0
AreRising [] = Unit {0}
AreRising (p ∷ ps) = All (λ q. p < q) ps × AreRising ps

-- productions of a rule from number n on
from_there : (r n : ℕ) (xs : List Production) → All (λ q. n ≤ q) (prods_from r n xs)
from_there r n [] = All-nil (λ q. n ≤ q)
from_there r n (y ∷ ys) =
    let further = All-weaker (λ q. n + 1 ≤ q) (λ q. n ≤ q) (λ q low. omega (arith, low)) (prods_from r (n + 1) ys) (from_there r (n + 1) ys) in
    elim (cases_eq y.rule r) as (λ _. All (λ q. n ≤ q) (prods_from r n (y ∷ ys))) [
      | inl own ↦
          subst (λ (b : Bool). All (λ q. n ≤ q) (cond b (n ∷ prods_from r (n + 1) ys) (prods_from r (n + 1) ys))) (sym (eq-eqb y.rule r own))
          (All-cons (λ q. n ≤ q) n (prods_from r (n + 1) ys) (omega arith) further)
      | inr other ↦
          subst (λ (b : Bool). All (λ q. n ≤ q) (cond b (n ∷ prods_from r (n + 1) ys) (prods_from r (n + 1) ys))) (sym (ne_eqb y.rule r other)) further
    ]

rising : (r n : ℕ) (xs : List Production) → AreRising (prods_from r n xs)
rising r n [] = tt
rising r n (y ∷ ys) =
    let further = All-weaker (λ q. n + 1 ≤ q) (λ q. n < q) (λ q low. omega (arith, low)) (prods_from r (n + 1) ys) (from_there r (n + 1) ys) in
    elim (cases_eq y.rule r) as (λ _. AreRising (prods_from r n (y ∷ ys))) [
      | inl own ↦
          subst (λ (b : Bool). AreRising (cond b (n ∷ prods_from r (n + 1) ys) (prods_from r (n + 1) ys))) (sym (eq-eqb y.rule r own))
          (further, rising r (n + 1) ys)
      | inr other ↦
          subst (λ (b : Bool). AreRising (cond b (n ∷ prods_from r (n + 1) ys) (prods_from r (n + 1) ys))) (sym (ne_eqb y.rule r other)) (rising r (n + 1) ys)
    ]

-- the production's core with its dot at the start
abbrev pub front_core : List Bool → ℕ → CoreSet
front_core tokens p = record { prod = p; dot = 0; tokens = tokens }

-- cores to which productions were appended, and then one more
pub put_more : (first before after : List CoreSet) (tokens : List Bool) (ps more : List ℕ) (p : ℕ) → more ≡ ps ++ p ∷ []
    → before ≡ first ++ map (front_core tokens) ps → after ≡ before ++ front_core tokens p ∷ [] → after ≡ first ++ map (front_core tokens) more
put_more first before after tokens ps more p is so_far put =
    put ∙ ap (λ cs. cs ++ front_core tokens p ∷ []) so_far ∙ append_assoc first (map (front_core tokens) ps) (front_core tokens p ∷ [])
    ∙ ap (λ cs. first ++ cs) (sym (map-append (front_core tokens) ps (p ∷ []))) ∙ ap (λ qs. first ++ map (front_core tokens) qs) (sym is)

module _ (g : Grammar) where
  -- cores in order, and others after them
  order_append : (cores more : List CoreSet) → AreCoresInOrder g cores → AreCoresInOrder g more → All (λ c. All (ComesBefore g c) more) cores
      → AreCoresInOrder g (cores ++ more)
  order_append [] more order other before = other
  order_append (core ∷ cores) more order other before = (
    All-append (ComesBefore g core) cores more order.0 (All-head (λ c. All (ComesBefore g c) more) core cores before),
    order_append cores more order.1 other (All-tail (λ c. All (ComesBefore g c) more) core cores before),
  )

  module _ (r : ℕ) (tokens : List Bool) where
    front_order : (ps : List ℕ) → AreRising ps → All (λ p. rule_of g p ≡ r) ps → AreCoresInOrder g (map (front_core tokens) ps)
    front_order [] up of = tt
    front_order (p ∷ ps) up of =
        let own = All-head (λ p. rule_of g p ≡ r) p ps of in
        let others = All-tail (λ p. rule_of g p ≡ r) p ps of in
        let later : All (λ q. ComesBefore g (front_core tokens p) (front_core tokens q)) ps =
        λ k d low. inr (refl, inr (own ∙ sym (others k d low), up.0 k d low)) in
        (All-map (ComesBefore g (front_core tokens p)) (front_core tokens) ps later, front_order ps up.1 others)

    ahead_before : (core : CoreSet) (p : ℕ) → IsAhead g r core → rule_of g p ≡ r → ComesBefore g core (front_core tokens p)
    ahead_before core p ahead of =
        elim (cases_lt 0 core.dot) [
          | inl some ↦ inl some
          | inr none ↦
              elim ahead [
                | inl some ↦ absurd (omega (arith, some, none))
                | inr low ↦ inr (omega (arith, none), inl (omega (arith, low, of)))
              ]
        ]

    ahead_more : (core : CoreSet) → IsAhead g r core → IsAhead g (r + 1) core
    ahead_more core ahead =
        elim ahead [
          | inl some ↦ inl some
          | inr low ↦ inr (omega (arith, low))
        ]

    -- all productions of a rule, with lookaheads, appended to cores that come before them
    pub front_cores : (cores : List CoreSet) → AreCores g cores → All (IsAhead g r) cores → length tokens ≡ dummy_lookahead g + 1 → (t : ℕ) → IsTrue (has tokens t)
        → AreCores g (cores ++ map (front_core tokens) (prods_of g r)) × All (IsAhead g (r + 1)) (cores ++ map (front_core tokens) (prods_of g r))
    front_cores cores are ahead wide t some =
        let ps = prods_of g r in
        let more = map (front_core tokens) ps in
        let known : All (λ p. (p < prods_len g) × (rule_of g p ≡ r)) ps =
        λ k d low. of_prods g r _ (All-contains_itself ps k d low) in
        let of : All (λ p. rule_of g p ≡ r) ps = λ k d low. (known k d low).1 in
        let before : All (λ c. All (ComesBefore g c) more) cores =
        λ k d low.
        All-map (ComesBefore g (get_or cores k d)) (front_core tokens) ps (λ j e below. ahead_before (get_or cores k d) (get_or ps j e) (ahead k d low) (of j e below)) in (
          record {
            in_order = order_append cores more are.in_order (front_order ps (rising r 0 g.prods) of) before;
            of_grammar =
                All-append (IsCoreOf g) cores more are.of_grammar
                (All-map (IsCoreOf g) (front_core tokens) ps (λ k d low. record { prod = (known k d low).0; dot = omega arith; wide = wide }));
            filled = All-append IsFilled cores more are.filled (All-map IsFilled (front_core tokens) ps (λ k d low. (t, some)));
          },
          All-append (IsAhead g (r + 1)) cores more (All-weaker (IsAhead g r) (IsAhead g (r + 1)) ahead_more cores ahead)
              (All-map (IsAhead g (r + 1)) (front_core tokens) ps (λ k d low. let rule = of k d low in inr (omega (arith, rule)))),
        )

    -- their items are those of the rule
    pub front_items : (cores : List CoreSet) (x : ItemOf)
        → IsAmong (cores ++ map (front_core tokens) (prods_of g r)) x ↔ (IsAmong cores x ⊎ IsOfRule g r tokens x)
    front_items cores x =
        let ps = prods_of g r in
        let more = map (front_core tokens) ps in
        let all = among_append cores more x in (
          λ h. elim (all.0 h) [
            | inl own ↦ inl own
            | inr new ↦
                let from = Contains-preimage (front_core tokens) ps new.0 new.1 in
                let prod : from.0 ≡ x.prod = ap (λ (c : CoreSet). c.prod) from.2 ∙ new.2.0 in
                let dot : 0 ≡ x.dot = ap (λ (c : CoreSet). c.dot) from.2 ∙ new.2.1 in
                let own = of_prods g r from.0 from.1 in
                inr (
                  sym dot,
                  subst (λ p. p < prods_len g) prod own.0,
                  ap (rule_of g) (sym prod) ∙ own.1,
                  subst (λ b. IsTrue (has b x.token)) (sym (ap (λ (c : CoreSet). c.tokens) from.2)) new.2.2,
                )
          ],
          λ h. elim h [
            | inl own ↦ all.1 (inl own)
            | inr of ↦
                let there = Contains-image (front_core tokens) ps x.prod (in_prods g r x.prod of.1 of.2) in
                all.1 (inr (front_core tokens x.prod, there, (refl, sym of.0, of.3)))
          ],
        )

  -- a rule without lookaheads has no items
  pub no_items : (r : ℕ) (tokens : List Bool) (cores : List CoreSet) (x : ItemOf) → ((t : ℕ) → IsTrue (has tokens t) → ⊥)
      → IsAmong cores x ↔ (IsAmong cores x ⊎ IsOfRule g r tokens x)
  no_items r tokens cores x none = (
    λ h. inl h,
    λ h. elim h [
      | inl own ↦ own
      | inr of ↦ absurd (none x.token of.3)
    ],
  )

  -- cores that come before a rule's productions come before those of the next one
  pub all_ahead : (r : ℕ) (cores : List CoreSet) → All (IsAhead g r) cores → All (IsAhead g (r + 1)) cores
  all_ahead r cores ahead = All-weaker (IsAhead g r) (IsAhead g (r + 1)) (ahead_more r []) cores ahead

  -- a kernel's cores come before those of the first listed rule
  pub begun_ahead : IsWellFormed g → (cores : List CoreSet) → All (IsBegun g) cores → All (IsAhead g 1) cores
  begun_ahead well cores begun =
      All-weaker (IsBegun g) (IsAhead g 1)
      (λ core h. elim h as (λ _. IsAhead g 1 core) [
        | inl some ↦ inl some
        | inr start ↦ let rule = ap (rule_of g) start ∙ well.last_rule in inr (omega (arith, rule))
      ]) cores begun

  -- if the start rule `^` has no lookaheads, no item is added for it
  pub none_of_added : (rows : List (List Bool)) (cores : List CoreSet) (x : ItemOf) → ((t : ℕ) → HasIn rows 0 t → ⊥)
      → IsAmong cores x ↔ (IsAmong cores x ⊎ (IsOfRows g rows x × (rule_of g x.prod < 1)))
  none_of_added rows cores x none = (
    λ h. inl h,
    λ h. elim h [
      | inl own ↦ own
      | inr of ↦
          let low = of.1 in
          let rule : rule_of g x.prod ≡ 0 = omega (arith, low) in
          absurd (none x.token (subst (λ r. HasIn rows r x.token) rule of.0.2))
    ],
  )

  -- if the grammar has at most n rules, the items of the first n rules are all
  pub all_of_rows : IsWellFormed g → (rows : List (List Bool)) (first after : ItemOf → Type 0) (n : ℕ) (x : ItemOf) → rules_len g ≤ n
      → (after x ↔ (first x ⊎ (IsOfRows g rows x × (rule_of g x.prod < n)))) → after x ↔ (first x ⊎ IsOfRows g rows x)
  all_of_rows well rows first after n x all so_far = (
    λ h. elim (so_far.0 h) [
      | inl own ↦ inl own
      | inr of ↦ inr of.0
    ],
    λ h. elim h [
      | inl own ↦ so_far.1 (inl own)
      | inr of ↦ let low = rule_below g well x.prod of.1 in so_far.1 (inr (of, omega (arith, low, all)))
    ],
  )

  -- the closure never adds the start rule `^`
  pub added_not_brought : IsWellFormed g → (cores : List CoreSet) (r t : ℕ) → IsBrought g (AreBringing g cores) r t → 0 < r
  added_not_brought well cores r t (Given r' t' h) = rule_after_listed g well h.0.prod h.0.dot r' h.2.0 h.2.1
  added_not_brought well cores r t (Brought p r' s t' w low symbols of first) = rule_after_listed g well p 0 r' w symbols
