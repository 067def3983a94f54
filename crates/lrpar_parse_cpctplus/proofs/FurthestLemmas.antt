-- The endings of a search: the furthest of them, and those of one place as links to the end.
use Rattle.std.proofs.Common.{◌≡◌, ◌<◌, ◌≤◌, ◌==◌, ◌+◌, ◌∙◌, inl, inr, ℕ, List, [], ◌∷◌, ◌++◌, Bool, Option, Some, None, IfSome, cond, filter, get_or, length, map, take, sym, subst, ap, arith, Contains}
use Rattle.std.proofs.lemmas.Bool.{eq-eqb, ne_eqb}
use Rattle.std.proofs.lemmas.List.{append-nil, append_assoc, map-append, map_more}
use Rattle.std.proofs.lemmas.List.Elements.{All-push, Contains-append_left, Contains-push, filter-append}
use Rattle.lrpar_parse_cpctplus.specs.Chosen.{IsBelow, IsFurthestBelow, above}
use Rattle.lrpar_parse_cpctplus.specs.Graph.{PlainEnding, PlainLink}
use Rattle.lrpar_parse_cpctplus.specs.LinkView.{AreWithin, AreNumbered, plain_ending, plain_link}
use Rattle.lrpar_parse_cpctplus.specs.Rests.{IsFurthest, ending_link, with_endings}
use Rattle.lrpar_parse_cpctplus.specs.declared.link.Ending.{Ending}
use Rattle.lrpar_parse_cpctplus.specs.declared.link.Link.{Link}
use Rattle.lrpar_parse_cpctplus.specs.declared.link.Linked.{Linked}
use Rattle.lrpar_parse_cpctplus.proofs.DistanceLemmas.{compare}
use Rattle.lrpar_parse_cpctplus.proofs.FirstLemmas.{all_members, image_in, in_either, in_image, members_all}
use Rattle.lrpar_parse_cpctplus.proofs.MemberLemmas.{IsIn, contained, is_in}
use Rattle.lrpar_parse_cpctplus.proofs.TakenLemmas.{passes_in}

-- one place more is the furthest, or isn't
pub furthest_takes : (reaches : List ℕ) (reach : ℕ) (bound found : Option ℕ) → IsBelow reach bound → above found ≤ reach
    → IsFurthestBelow reaches bound found → IsFurthestBelow (reaches ++ reach ∷ []) bound (Some reach)
furthest_takes reaches reach bound found below over h = record {
  some = (Contains-push reaches reach, below);
  none = All-push (λ (r : ℕ). IsBelow r bound → r < reach + 1) reaches reach
      (λ k d within under. let less = h.none k d within under in omega (arith, less, over)) (λ under. omega arith);
}

pub furthest_keeps : (reaches : List ℕ) (reach : ℕ) (bound found : Option ℕ) → (IsBelow reach bound → above found ≤ reach → ⊥)
    → IsFurthestBelow reaches bound found → IsFurthestBelow (reaches ++ reach ∷ []) bound found
furthest_keeps reaches reach bound found not h = record {
  some = still found h.some;
  none = All-push (λ (r : ℕ). IsBelow r bound → r < above found) reaches reach h.none (λ under.
      elim (compare reach (above found)) as (λ _. reach < above found) [
        | inl less ↦ less
        | inr other ↦ elim other as (λ _. reach < above found) [
          | inl same ↦ absurd (not under (omega (arith, same)))
          | inr over ↦ absurd (not under (omega (arith, over)))
        ]
      ]);
}
  where
    still : (o : Option ℕ) → IfSome o (λ far. Contains reaches far × IsBelow far bound) → IfSome o (λ far. Contains (reaches ++ reach ∷ []) far × IsBelow far bound)
    still None k = tt
    still (Some far) k = (Contains-append_left reaches (reach ∷ []) far k.0, k.1)

pub none_furthest : (bound : Option ℕ) → IsFurthestBelow [] bound None
none_furthest bound = record { some = tt; none = λ k d within. absurd (omega (arith, within)) }

-- below a bound there is a further one
pub above_at_most : (reaches : List ℕ) (far : ℕ) (found : Option ℕ) → IsFurthestBelow reaches (Some far) found → above found ≤ far
above_at_most reaches far None h = omega arith
above_at_most reaches far (Some reach) h = let less = h.some.1 in omega (arith, less)

module _ {S : Type 0} (index : S → ℕ) where
  -- the places of endings
  abbrev pub reaches_of : List (Ending S) → List ℕ
  reaches_of endings = map (λ (ending : Ending S). ending.reach) endings

  abbrev pub plain_endings : List (Ending S) → List PlainEnding
  plain_endings endings = map (plain_ending index) endings

  pub under_found : (endings : List (Ending S)) (bound found : Option ℕ) → IsFurthestBelow (reaches_of endings) bound found → (ending : PlainEnding)
      → Contains (plain_endings endings) ending → IsBelow ending.reach bound → ending.reach < above found
  under_found endings bound found h ending m below =
      let of = in_image (plain_ending index) endings ending (is_in ending (plain_endings endings) m) in
      let same : ending.reach ≡ of.0.reach = ap (λ (e : PlainEnding). e.reach) of.1 in
      let there = subst (λ (n : ℕ). IsIn n (reaches_of endings)) (sym same) (image_in (λ (e : Ending S). e.reach) endings of.0 of.2) in
      all_members (λ (r : ℕ). IsBelow r bound → r < above found) (reaches_of endings) h.none ending.reach there below

  pub is_furthest : (endings : List (Ending S)) (far : ℕ) → IsFurthestBelow (reaches_of endings) None (Some far) → IsFurthest (plain_endings endings) far
  is_furthest endings far h =
      let of = in_image (λ (e : Ending S). e.reach) endings far (is_in far (reaches_of endings) h.some.0) in
      record {
        some = (
          plain_ending index of.0,
          contained (plain_ending index of.0) (plain_endings endings) (image_in (plain_ending index) endings of.0 of.2),
          sym of.1,
        );
        none = λ ending m. let less = under_found endings None (Some far) h ending m tt in omega (arith, less);
      }

  pub none_there : (endings : List (Ending S)) → IsFurthestBelow (reaches_of endings) None None → (ending : PlainEnding)
      → ¬ (Contains (plain_endings endings) ending)
  none_there endings h ending m = let less = under_found endings None None h ending m tt in omega (arith, less)

  reaches_more : (endings : List (Ending S)) (i : ℕ) (ending : Ending S) → i < length endings → ending ≡ get_or endings i ending
      → reaches_of (take (i + 1) endings) ≡ reaches_of (take i endings) ++ ending.reach ∷ []
  reaches_more endings i ending below read =
      map_more (λ (e : Ending S). e.reach) endings i ending below
      ∙ ap (λ (e : Ending S). reaches_of (take i endings) ++ e.reach ∷ []) (sym read)

  pub furthest_taken : (endings : List (Ending S)) (i : ℕ) (ending : Ending S) (bound found : Option ℕ) → i < length endings → ending ≡ get_or endings i ending
      → IsBelow ending.reach bound → above found ≤ ending.reach → IsFurthestBelow (reaches_of (take i endings)) bound found
      → IsFurthestBelow (reaches_of (take (i + 1) endings)) bound (Some ending.reach)
  furthest_taken endings i ending bound found below read under over h =
      subst (λ (l : List ℕ). IsFurthestBelow l bound (Some ending.reach)) (sym (reaches_more endings i ending below read))
      (furthest_takes (reaches_of (take i endings)) ending.reach bound found under over h)

  pub furthest_kept : (endings : List (Ending S)) (i : ℕ) (ending : Ending S) (bound found : Option ℕ) → i < length endings → ending ≡ get_or endings i ending
      → (IsBelow ending.reach bound → above found ≤ ending.reach → ⊥) → IsFurthestBelow (reaches_of (take i endings)) bound found
      → IsFurthestBelow (reaches_of (take (i + 1) endings)) bound found
  furthest_kept endings i ending bound found below read not h =
      subst (λ (l : List ℕ). IsFurthestBelow l bound found) (sym (reaches_more endings i ending below read))
      (furthest_keeps (reaches_of (take i endings)) ending.reach bound found not h)

  -- one ending more
  endings_more : (endings : List (Ending S)) (i : ℕ) (ending : Ending S) → i < length endings → ending ≡ get_or endings i ending
      → plain_endings (take (i + 1) endings) ≡ plain_endings (take i endings) ++ plain_ending index ending ∷ []
  endings_more endings i ending below read =
      map_more (plain_ending index) endings i ending below
      ∙ ap (λ (e : Ending S). plain_endings (take i endings) ++ plain_ending index e ∷ []) (sym read)

  with_more : (end reach : ℕ) (links : List PlainLink) (endings : List (Ending S)) (i : ℕ) (ending : Ending S) → i < length endings
      → ending ≡ get_or endings i ending → with_endings end reach links (plain_endings (take (i + 1) endings))
      ≡ with_endings end reach links (plain_endings (take i endings))
      ++ map (ending_link end) (cond (ending.reach == reach) (plain_ending index ending ∷ []) [])
  with_more end reach links endings i ending below read =
      let p : PlainEnding → Bool = λ e. e.reach == reach in
      let before = plain_endings (take i endings) in
      let last = filter p (plain_ending index ending ∷ []) in
      ap (λ (l : List PlainEnding). with_endings end reach links l) (endings_more endings i ending below read)
      ∙ ap (λ (l : List PlainEnding). links ++ map (ending_link end) l) (filter-append p before (plain_ending index ending ∷ []))
      ∙ ap (λ (l : List PlainLink). links ++ l) (map-append (ending_link end) (filter p before) last)
      ∙ sym (append_assoc links (map (ending_link end) (filter p before)) (map (ending_link end) last))

  pub ending_taken : (end reach : ℕ) (plain : List PlainLink) (links more : List (Link S)) (link : Link S) (endings : List (Ending S)) (i : ℕ) (ending : Ending S)
      → i < length endings → ending ≡ get_or endings i ending → ending.reach ≡ reach → more ≡ links ++ link ∷ []
      → plain_link index link ≡ ending_link end (plain_ending index ending)
      → map (plain_link index) links ≡ with_endings end reach plain (plain_endings (take i endings))
      → map (plain_link index) more ≡ with_endings end reach plain (plain_endings (take (i + 1) endings))
  ending_taken end reach plain links more link endings i ending below read here pushed is so =
      ap (λ (l : List (Link S)). map (plain_link index) l) pushed
      ∙ map-append (plain_link index) links (link ∷ [])
      ∙ ap (λ (l : List PlainLink). l ++ plain_link index link ∷ []) so
      ∙ ap (λ (l : PlainLink). with_endings end reach plain (plain_endings (take i endings)) ++ l ∷ []) is
      ∙ ap (λ (b : Bool). with_endings end reach plain (plain_endings (take i endings)) ++ map (ending_link end) (cond b (plain_ending index ending ∷ []) []))
      (sym (eq-eqb ending.reach reach here))
      ∙ sym (with_more end reach plain endings i ending below read)

  pub ending_kept : (end reach : ℕ) (plain : List PlainLink) (links : List (Link S)) (endings : List (Ending S)) (i : ℕ) (ending : Ending S)
      → i < length endings → ending ≡ get_or endings i ending → ¬ (ending.reach ≡ reach)
      → map (plain_link index) links ≡ with_endings end reach plain (plain_endings (take i endings))
      → map (plain_link index) links ≡ with_endings end reach plain (plain_endings (take (i + 1) endings))
  ending_kept end reach plain links endings i ending below read other so =
      so
      ∙ sym (append-nil (with_endings end reach plain (plain_endings (take i endings))))
      ∙ ap (λ (b : Bool). with_endings end reach plain (plain_endings (take i endings)) ++ map (ending_link end) (cond b (plain_ending index ending ∷ []) []))
      (sym (ne_eqb ending.reach reach other))
      ∙ sym (with_more end reach plain endings i ending below read)

  -- the links and those to the end are between the nodes
  pub all_within : (linked : Linked S) (reach : ℕ) (links : List (Link S)) → AreNumbered linked
      → map (plain_link index) links
      ≡ with_endings linked.len reach (map (plain_link index) linked.links.items) (plain_endings linked.endings.items)
      → AreWithin linked.len links
  all_within linked reach links numbered is =
      members_all (λ (link : Link S). (link.from ≤ linked.len) × (link.to ≤ linked.len)) links (λ link m.
      let p : PlainEnding → Bool = λ e. e.reach == reach in
      let firsts = map (plain_link index) linked.links.items in
      let ends = filter p (plain_endings linked.endings.items) in
      let there = subst (λ (l : List PlainLink). IsIn (plain_link index link) l) is (image_in (plain_link index) links link m) in
      elim (in_either (plain_link index link) firsts (map (ending_link linked.len) ends) there)
      as (λ _. (link.from ≤ linked.len) × (link.to ≤ linked.len)) [
        | inl one ↦
            let of = in_image (plain_link index) linked.links.items (plain_link index link) one in
            let within = all_members (λ (l : Link S). (l.from < linked.len) × (l.to < linked.len)) linked.links.items numbered.links of.0 of.2 in
            let from : link.from ≡ of.0.from = ap (λ (l : PlainLink). l.from) of.1 in
            let to : link.to ≡ of.0.to = ap (λ (l : PlainLink). l.to) of.1 in
            (omega (arith, within.0, from), omega (arith, within.1, to))
        | inr other ↦
            let of = in_image (ending_link linked.len) ends (plain_link index link) other in
            let passes = passes_in p (plain_endings linked.endings.items) of.0 of.2 in
            let back = in_image (plain_ending index) linked.endings.items of.0 passes.0 in
            let within = all_members (λ (e : Ending S). e.from < linked.len) linked.endings.items numbered.endings back.0 back.2 in
            let from : link.from ≡ back.0.from = ap (λ (l : PlainLink). l.from) of.1 ∙ ap (λ (e : PlainEnding). e.from) back.1 in
            let to : link.to ≡ linked.len = ap (λ (l : PlainLink). l.to) of.1 in
            (omega (arith, within, from), omega (arith, to))
      ])
