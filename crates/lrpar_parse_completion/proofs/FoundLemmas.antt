-- The rules that items wait for, as they are found. One more may be put at the end of the list: then it wasn't marked before, and is
-- marked now. So the list has each rule once, and has at most as many as the grammar.
use Rattle.std.proofs.Common.{◌≡◌, ◌<◌, ◌≤◌, ◌+◌, ◌-◌, ◌∙◌, ◌⊎◌, inl, inr, refl, sym, ap, subst, arith, ℕ, zero, suc, Bool, true, false, cond, not, replicate, List, [], ◌∷◌, ◌++◌, length, take, get_or, slice_get, set, Option, Some, None, length-append}
use Rattle.std.specs.List.{Contains}
use Rattle.std.proofs.Math.Seq.{take-append_seam}
use Rattle.std.proofs.lemmas.Bool.{cases_eq, cases_lt, false≢true}
use Rattle.std.proofs.lemmas.List.{append-nil, append_assoc, get_or-replicate, get_or-set_other, get_or_past, length-map, length-replicate, length-set, map-append, take-append-le}
use Rattle.std.proofs.lemmas.List.Elements.{Contains-append_left, Contains-append_right}
use Rattle.std.proofs.lemmas.List.Folds.{sum_by-replicate}
use Rattle.std.proofs.lemmas.List.Sums.{sum_by-set}
use Rattle.std.proofs.lemmas.Option.{get_or_from_slice_get, slice_get-get_or, slice_get-map, slice_get_within}
use Rattle.std.specs.Option.{option_map}
use Rattle.lrpar_grammar.specs.Grammar.{Grammar, IsWellFormed, Nonterminal, prods_len, rule_of, rules_len, symbols_of}
use Rattle.lrpar_table_rows.proofs.ItemLemmas.{Contains-image, Contains-preimage}
use Rattle.lrpar_table_build.proofs.ReachedLemmas.{head_after, symbol_listed}
use Rattle.lrpar_table_sentences.specs.Reachable.{is_marked, unmarked}
use Rattle.lrpar_parse_completion.specs.Waiting.{AreCounted, AreFound, AreLinks, Grows, HasRuleAfter, IsAdded, IsClosedAt, IsLink, LinkOf, link_of, links_of, rules_in}
use Rattle.lrpar_parse_completion.specs.declared.waiting.Link.{Link}

-- an element of a list with one more is one of the list, or it is the last one
pub last_cases : {A : Type 0} (xs : List A) (y : A) (i : ℕ) (x : A) → slice_get (xs ++ y ∷ []) i ≡ Some x
    → (slice_get xs i ≡ Some x) ⊎ ((i ≡ length xs) × (y ≡ x))
last_cases {A} [] y zero x at = inr (refl, let e : ◌≡◌ {A = Option A} (Some y) (Some x) = at in cc)
last_cases {A} [] y (suc i) x at = let no : ◌≡◌ {A = Option A} None (Some x) = at in absurd (cc)
last_cases (z ∷ xs) y zero x at = inl at
last_cases (z ∷ xs) y (suc i) x at =
    elim (last_cases xs y i x at) as (λ _. (slice_get (z ∷ xs) (suc i) ≡ Some x) ⊎ ((suc i ≡ length (z ∷ xs)) × (y ≡ x))) [
      | inl before ↦ inl before
      | inr last ↦ inr (omega (arith, last.0), last.1)
    ]

-- one rule fewer is unmarked
one_marked : (marks : List Bool) (r : ℕ) → r < length marks → is_marked marks r ≡ false → unmarked (set marks r true) + 1 ≡ unmarked marks
one_marked marks r low fresh =
    let f : Bool → ℕ = λ b. cond (not b) 1 0 in
    let sums = sum_by-set f marks r true false low in
    let one : f (is_marked marks r) ≡ 1 = ap f fresh in
    omega (arith, sums, one)

module _ (g : Grammar) where
  -- a list that grows keeps what it has
  pub rule_kept : (links tail : List LinkOf) (r : ℕ) → Contains (rules_in links) r → Contains (rules_in (links ++ tail)) r
  rule_kept links tail r has =
      subst (λ (rs : List ℕ). Contains rs r) (sym (map-append (λ (x : LinkOf). x.rule) links tail)) (Contains-append_left (rules_in links) (rules_in tail) r has)

  pub after_kept : (links tail : List LinkOf) (p k : ℕ) → HasRuleAfter g links p k → HasRuleAfter g (links ++ tail) p k
  after_kept links tail p k has r w is = rule_kept links tail r (has r w is)

  pub closed_kept : (links tail : List LinkOf) (r : ℕ) → IsClosedAt g links r → IsClosedAt g (links ++ tail) r
  closed_kept links tail r closed q known is = after_kept links tail q 0 (closed q known is)

  -- the counts stay right
  pub counted_more : (p k : ℕ) (links after : List LinkOf) (marks marks_after : List Bool) → IsAdded g p k links marks after marks_after
      → AreCounted g links marks → AreCounted g after marks_after
  counted_more p k links after marks marks_after added counted =
      elim added as (λ _. AreCounted g after marks_after) [
        | inl same ↦ subst (λ (l : List LinkOf). AreCounted g l marks_after) (sym same.0) (subst (λ (m : List Bool). AreCounted g links m) (sym same.1) counted)
        | inr more ↦
            let link : LinkOf = record { rule = more.0; prod = p; dot = k } in
            let one = one_marked marks more.0 more.3 more.4 in
            let len = length-set marks more.0 true in
            subst (λ (l : List LinkOf). AreCounted g l marks_after) (sym more.5)
            (subst (λ (m : List Bool). AreCounted g (links ++ link ∷ []) m) (sym more.6)
            (len ∙ counted.0, let all = counted.1 in omega (arith, one, len, all, length-append links (link ∷ []))))
      ]

  module _ (own : ℕ → ℕ → Type 0) where
    -- one link more
    links_more : (links : List LinkOf) (link : LinkOf) → AreLinks g own links → IsLink g own links link → AreLinks g own (links ++ link ∷ [])
    links_more links link are is i x at =
        elim (last_cases links link i x at) as (λ _. IsLink g own (take i (links ++ link ∷ [])) x) [
          | inl before ↦
              let low : i < length links = slice_get_within links i x before in
              subst (λ (l : List LinkOf). IsLink g own l x) (sym (take-append-le i links (link ∷ []) (omega (arith, low)))) (are i x before)
          | inr last ↦
              let all : take i (links ++ link ∷ []) ≡ links =
              ap (λ (n : ℕ). take n (links ++ link ∷ [])) last.0 ∙ take-append_seam links (link ∷ []) in
              subst (λ (l : List LinkOf). IsLink g own l x) (sym all) (subst (IsLink g own links) last.1 is)
        ]

    -- the list after an item was added
    pub added_found : (p k : ℕ) (links after : List LinkOf) (marks marks_after : List Bool) → p < prods_len g
        → own p k ⊎ ((k ≡ 0) × Contains (rules_in links) (rule_of g p)) → IsAdded g p k links marks after marks_after → AreFound g own links marks
        → Grows g own links after marks_after × HasRuleAfter g after p k
    added_found p k links after marks marks_after known from added found =
        elim added as (λ _. Grows g own links after marks_after × HasRuleAfter g after p k) [
          | inl same ↦ (
            record {
              found =
                  subst (λ (l : List LinkOf). AreFound g own l marks_after) (sym same.0)
                  (subst (λ (m : List Bool). AreFound g own links m) (sym same.1) found);
              tail = [];
              more = same.0 ∙ sym (append-nil links);
            },
            λ r w is. subst (λ (l : List LinkOf). Contains (rules_in l) r) (sym same.0) (found.marked r (same.2 r w is)),
          )
          | inr more ↦
              let link : LinkOf = record { rule = more.0; prod = p; dot = k } in
              let marks_now = set marks more.0 true in
              let here : Contains (rules_in (links ++ link ∷ [])) more.0 =
              subst (λ (rs : List ℕ). Contains rs more.0) (sym (map-append (λ (x : LinkOf). x.rule) links (link ∷ [])))
              (Contains-append_right (rules_in links) (more.0 ∷ []) more.0 (0, omega arith, refl)) in
              let now : AreFound g own (links ++ link ∷ []) marks_now = record {
                each = links_more links link found.each (record { known = known; rest = more.1; waits = more.2; from = from });
                marked = λ r is.
                    elim (cases_eq r more.0) as (λ _. Contains (rules_in (links ++ link ∷ [])) r) [
                      | inl same ↦ subst (Contains (rules_in (links ++ link ∷ []))) (sym same) here
                      | inr other ↦ rule_kept links (link ∷ []) r (found.marked r (sym (get_or-set_other marks more.0 r true false other) ∙ is))
                    ];
              } in (
                record {
                  found =
                      subst (λ (l : List LinkOf). AreFound g own l marks_after) (sym more.5)
                      (subst (λ (m : List Bool). AreFound g own (links ++ link ∷ []) m) (sym more.6) now);
                  tail = link ∷ [];
                  more = more.5;
                },
                λ r w is.
                    let both : Nonterminal more.0 ∷ more.1 ≡ Nonterminal r ∷ w = sym more.2 ∙ is in
                    let same : more.0 ≡ r = cc in
                    subst (λ (l : List LinkOf). Contains (rules_in l) r) (sym more.5) (subst (Contains (rules_in (links ++ link ∷ []))) same here),
              )
        ]

    -- a list that grew twice
    pub grows_on : (links mid after : List LinkOf) (marks marks_after : List Bool) → Grows g own links mid marks → Grows g own mid after marks_after
        → Grows g own links after marks_after
    grows_on links mid after marks marks_after first second = record {
      found = second.found;
      tail = first.tail ++ second.tail;
      more = second.more ∙ ap (λ (l : List LinkOf). l ++ second.tail) first.more ∙ append_assoc links first.tail second.tail;
    }

    pub grows_none : (links : List LinkOf) (marks : List Bool) → AreFound g own links marks → Grows g own links links marks
    grows_none links marks found = record { found = found; tail = []; more = sym (append-nil links) }

-- at first nothing is marked
none_marked : (n r : ℕ) → is_marked (replicate n false) r ≡ false
none_marked n r =
    elim (cases_lt r n) [
      | inl within ↦ get_or-replicate n r false false within
      | inr past ↦ get_or_past (replicate n false) r false (let count = length-replicate n false in omega (arith, past, count))
    ]

all_unmarked : (n : ℕ) → unmarked (replicate n false) ≡ n
all_unmarked n = let all = sum_by-replicate {X = Bool} (λ b. cond (not b) 1 0) n false in omega (arith, all)

pub counted_none : (g : Grammar) (marks : List Bool) → marks ≡ replicate (rules_len g) false → AreCounted g [] marks
counted_none g marks is =
    let n = rules_len g in
    subst (AreCounted g []) (sym is) (length-replicate n false, omega (arith, all_unmarked n, length-replicate n false))

pub found_none : (g : Grammar) (own : ℕ → ℕ → Type 0) (marks : List Bool) → marks ≡ replicate (rules_len g) false → AreFound g own [] marks
found_none g own marks is = record {
  each = λ i x at. let no : ◌≡◌ {A = Option LinkOf} None (Some x) = at in absurd (cc);
  marked = λ r marked. absurd (false≢true (sym (none_marked (rules_len g) r) ∙ ap (λ (m : List Bool). is_marked m r) (sym is) ∙ marked));
}

-- once the productions of each rule of the list are closed, those of all its rules are
pub closed_all : (g : Grammar) (links : List LinkOf) (place : ℕ) → length links ≤ place
    → ((i : ℕ) (x : LinkOf) → i < place → slice_get links i ≡ Some x → IsClosedAt g links x.rule)
    → (r : ℕ) → Contains (rules_in links) r → IsClosedAt g links r
closed_all g links place past closed r has =
    let found = Contains-preimage (λ (y : LinkOf). y.rule) links r has in
    let i = found.1.0 in
    let low : i < length links = found.1.1 in
    let at : slice_get links i ≡ Some found.0 = slice_get-get_or links i found.0 low ∙ ap (λ (y : LinkOf). Some y) found.1.2 in
    subst (IsClosedAt g links) found.2 (closed i found.0 (omega (arith, low, past)) at)

-- one rule more is closed
pub closed_more : (g : Grammar) (links tail after : List LinkOf) (place : ℕ) (link : LinkOf) → after ≡ links ++ tail → slice_get links place ≡ Some link
    → IsClosedAt g after link.rule → ((i : ℕ) (x : LinkOf) → i < place → slice_get links i ≡ Some x → IsClosedAt g links x.rule)
    → (i : ℕ) (x : LinkOf) → i < place + 1 → slice_get after i ≡ Some x → IsClosedAt g after x.rule
closed_more g links tail after place link more here closed before i x low at =
    let inside = slice_get_within links place link here in
    let there : slice_get links i ≡ Some x = front_of links tail i x (omega (arith, low, inside)) (subst (λ (l : List LinkOf). slice_get l i ≡ Some x) more at) in
    elim (cases_eq i place) as (λ _. IsClosedAt g after x.rule) [
      | inl same ↦
          let both : ◌≡◌ {A = Option LinkOf} (Some link) (Some x) = sym here ∙ ap (λ (n : ℕ). slice_get links n) (sym same) ∙ there in
          let one : link ≡ x = cc in
          subst (λ (y : LinkOf). IsClosedAt g after y.rule) one closed
      | inr other ↦
          subst (λ (l : List LinkOf). IsClosedAt g l x.rule) (sym more) (closed_kept g links tail x.rule (before i x (omega (arith, low, other)) there))
    ]
  where
    front_of : {A : Type 0} (xs ys : List A) (n : ℕ) (z : A) → n < length xs → slice_get (xs ++ ys) n ≡ Some z → slice_get xs n ≡ Some z
    front_of [] ys n z inside is = absurd (omega (arith, inside))
    front_of (y ∷ xs) ys zero z inside is = is
    front_of (y ∷ xs) ys (suc n) z inside is = front_of xs ys n z (omega (arith, inside)) is

-- the rules of links are those of the grammar
pub link_rule_low : (g : Grammar) → IsWellFormed g → (own : ℕ → ℕ → Type 0) (links : List LinkOf) → AreLinks g own links → (i : ℕ) (x : LinkOf)
    → slice_get links i ≡ Some x → x.rule < rules_len g
link_rule_low g well own links are i x at =
    let link = are i x at in
    (symbol_listed g well x.prod x.dot (Nonterminal x.rule) (head_after (symbols_of g x.prod) x.dot (Nonterminal x.rule) link.rest link.waits)).1

-- a link of the list has its rule there
pub link_contained : (links : List LinkOf) (i : ℕ) (x : LinkOf) → slice_get links i ≡ Some x → Contains (rules_in links) x.rule
link_contained links i x at =
    Contains-image (λ (y : LinkOf). y.rule) links x (i, slice_get_within links i x at, get_or_from_slice_get links i x x at)

-- a link of the code in its place
pub link_at : {S : Type 0} (index : S → ℕ) (links : List (Link S)) (i : ℕ) (link : Link S) → i < length links → link ≡ get_or links i link
    → slice_get (links_of index links) i ≡ Some (link_of index link)
link_at {S} index links i link low is =
    slice_get-map (link_of index) links i ∙ ap (option_map (link_of index)) (slice_get-get_or links i link low ∙ ap (λ (x : Link S). Some x) (sym is))

-- the link before a place
pub link_before : {S : Type 0} (index : S → ℕ) (links : List (Link S)) (place : ℕ) (link : Link S) → 0 < place → place ≤ length (links_of index links)
    → link ≡ get_or links (place - 1) link → slice_get (links_of index links) (place - 1) ≡ Some (link_of index link)
link_before index links place link some within is =
    link_at index links (place - 1) link (omega (arith, some, within, length-map links (link_of index))) is

-- one more
pub links_pushed : {S : Type 0} (index : S → ℕ) (links after : List (Link S)) (link : Link S) → after ≡ links ++ link ∷ []
    → links_of index after ≡ links_of index links ++ link_of index link ∷ []
links_pushed index links after link is = ap (links_of index) is ∙ map-append (link_of index) links (link ∷ [])

-- a mark that was read
pub mark_read : (marks : List Bool) (n r : ℕ) (mark : Bool) → n ≡ r → r < length marks → mark ≡ get_or marks n mark → is_marked marks r ≡ mark
mark_read marks n r mark same low read =
    get_or_from_slice_get marks r (get_or marks r mark) false (slice_get-get_or marks r mark low)
    ∙ ap (λ (i : ℕ). get_or marks i mark) (sym same) ∙ sym read
