-- Links that are appended, and the marks of their rules.
use Rattle.std.proofs.Common.{◌≡◌, ◌<◌, ◌+◌, ◌⊎◌, ◌∙◌, refl, sym, ap, subst, inl, inr, arith, ℕ, Bool, true, false, cond, not, IsTrue, List, [], ◌∷◌, ◌++◌, length, set, get_or}
use Rattle.std.specs.Bool.{OnTrue}
use Rattle.std.proofs.lemmas.Bool.{OnTrue_from, cases_eq, false≢true}
use Rattle.std.proofs.lemmas.List.{append-nil, append_assoc, get_or-set_other, get_or_append_left, get_or_at, get_or_read, length-append, length-set}
use Rattle.std.proofs.lemmas.List.Sums.{count_by-le-length, sum_by-set}
use Rattle.std.proofs.lemmas.List.Elements.{All-append, All-cons, All-nil, All-weaker}
use Rattle.lrpar_grammar.specs.Grammar.{Grammar}
use Rattle.lrpar_grammar.specs.Tokens.{has, missing}
use Rattle.lrpar_conflict_derivations.specs.ClosureLinks.{AreLinked, AreMarks, AreNoted, ArePut, HasLink, IsPutMarked, LinkOf, link_at}

-- one mark more is set
pub missing-set : (bits : List Bool) (i : ℕ) → i < length bits → has bits i ≡ false → missing (set bits i true) + 1 ≡ missing bits
missing-set bits i low none =
    let sums = sum_by-set (λ (x : Bool). cond (not x) 1 0) bits i true false low in
    let was = ap {B = ℕ} (λ (x : Bool). cond (not x) 1 0) none in omega (arith, sums, was)

-- links stay where they are
pub link-append : (links more : List LinkOf) (i : ℕ) → i < length links → link_at (links ++ more) i ≡ link_at links i
link-append links more i low = get_or_append_left links more _ i low

pub HasLink-append : (links more : List LinkOf) (asked : Bool) (r : ℕ) → HasLink links asked r → HasLink (links ++ more) asked r
HasLink-append links more asked r has_one =
    let i = has_one.0 in
    let same = link-append links more i has_one.1 in (
      i,
      (let long = length-append links more in let low = has_one.1 in omega arith),
      ap (λ (x : LinkOf). x.rule) same ∙ has_one.2,
      ap (λ (x : LinkOf). x.asked) same ∙ has_one.3,
    )

pub HasLink-put : (links : List LinkOf) (x : LinkOf) → HasLink (links ++ x ∷ []) x.asked x.rule
HasLink-put links x =
    let here : link_at (links ++ x ∷ []) (length links) ≡ x = get_or_at links x [] _ (length links) refl in (
      length links,
      (let long = length-append links (x ∷ []) in omega arith),
      ap (λ (y : LinkOf). y.rule) here,
      ap (λ (y : LinkOf). y.asked) here,
    )

-- what is linked stays linked
pub HasLink-kept : (Good : LinkOf → Type 0) (old new : List LinkOf) → ArePut Good old new → (asked : Bool) (r : ℕ) → HasLink old asked r → HasLink new asked r
HasLink-kept Good old new put asked r has_one = subst (λ (xs : List LinkOf). HasLink xs asked r) (sym put.put) (HasLink-append old put.more asked r has_one)

pub AreNoted-kept : (g : Grammar) (token : ℕ) (Good : LinkOf → Type 0) (old new : List LinkOf) → ArePut Good old new → (q j : ℕ) (further : Bool)
    → AreNoted g token old q j further → AreNoted g token new q j further
AreNoted-kept g token Good old new put q j further noted r w asked before passes = HasLink-kept Good old new put asked r (noted r w asked before passes)

-- nothing was put, one link, and one list after the other
pub put_none : (Good : LinkOf → Type 0) (links : List LinkOf) → ArePut Good links links
put_none Good links = record { more = []; put = sym (append-nil links); good = All-nil Good }

pub put_one : (links : List LinkOf) (x : LinkOf) → ArePut (λ y. y ≡ x) links (links ++ x ∷ [])
put_one links x = record { more = x ∷ []; put = refl; good = All-cons (λ (y : LinkOf). y ≡ x) x [] refl (All-nil (λ (y : LinkOf). y ≡ x)) }

pub put_then : (Good : LinkOf → Type 0) (old middle new : List LinkOf) → ArePut Good old middle → ArePut Good middle new → ArePut Good old new
put_then Good old middle new first second = record {
  more = first.more ++ second.more;
  put = second.put ∙ ap (λ xs. xs ++ second.more) first.put ∙ append_assoc old first.more second.more;
  good = All-append Good first.more second.more first.good second.good;
}

pub put_weaker : (Good Fair : LinkOf → Type 0) (old new : List LinkOf) → ((x : LinkOf) → Good x → Fair x) → ArePut Good old new → ArePut Fair old new
put_weaker Good Fair old new weaker put =
    record { more = put.more; put = put.put; good = All-weaker Good Fair weaker put.more put.good }

-- a mark that is set, or was
marked_more : (bits : List Bool) (i r : ℕ) → i < length bits → IsTrue (has (set bits i true) r) → (r ≡ i) ⊎ IsTrue (has bits r)
marked_more bits i r low is =
    elim (cases_eq r i) [
      | inl same ↦ inl same
      | inr other ↦ inr (sym (get_or-set_other bits i r true false other) ∙ is)
    ]

-- no link and no mark
pub no_marks : (rules : ℕ) (any asked : List Bool) → length any ≡ rules → length asked ≡ rules → ((r : ℕ) → has any r ≡ false)
    → ((r : ℕ) → has asked r ≡ false) → AreMarks rules [] any asked
no_marks rules any asked any_room asked_room no_any no_asked = record {
  any_room = any_room;
  asked_room = asked_room;
  any_linked = λ r marked. absurd (false≢true (sym (no_any r) ∙ marked));
  asked_linked = λ r marked. absurd (false≢true (sym (no_asked r) ∙ marked));
  bounded =
      let some = count_by-le-length not any in
      let others = count_by-le-length not asked in omega (arith, some, others);
}

-- a link is put unless its rule is marked
module _ (links : List LinkOf) (bits : List Bool) (x : LinkOf) (linked : AreLinked links bits x.asked) (within : x.rule < length bits) (r : ℕ) (same : r ≡ x.rule)
    (b : Bool) (read : b ≡ get_or bits r b) where
  mark_is : has bits x.rule ≡ b
  mark_is = subst (λ (n : ℕ). has bits n ≡ b) same (sym (get_or_read bits r b (omega (arith, within, same)) read false))

  linked_more : AreLinked (links ++ x ∷ []) (set bits x.rule true) x.asked
  linked_more n marked =
      elim (marked_more bits x.rule n within marked) as (λ _. HasLink (links ++ x ∷ []) x.asked n) [
        | inl own ↦ subst (HasLink (links ++ x ∷ []) x.asked) (sym own) (HasLink-put links x)
        | inr before ↦ HasLink-append links (x ∷ []) x.asked n (linked n before)
      ]

  pub put_unmarked : b ≡ false → (new : List LinkOf) → new ≡ links ++ x ∷ [] → IsPutMarked x links new bits (set bits r true)
  put_unmarked unset new put =
      let all : IsPutMarked x links (links ++ x ∷ []) bits (set bits x.rule true) = record {
        put = put_one links x;
        own = HasLink-put links x;
        room = length-set bits x.rule true;
        linked = linked_more;
        bounded =
            let less = missing-set bits x.rule within (mark_is ∙ unset) in
            let long = length-append links (x ∷ []) in omega (arith, less, long);
      } in
      subst (λ (xs : List LinkOf). IsPutMarked x links xs bits (set bits r true)) (sym put)
      (subst (λ (n : ℕ). IsPutMarked x links (links ++ x ∷ []) bits (set bits n true)) (sym same) all)

  pub put_marked : b ≡ true → IsPutMarked x links links bits bits
  put_marked marked = record {
    put = put_none (λ y. y ≡ x) links;
    own = linked x.rule (mark_is ∙ marked);
    room = refl;
    linked = linked;
    bounded = omega arith;
  }

-- marks of one kind stay right, with those of the other
module _ (rules : ℕ) (old new : List LinkOf) (any asked after : List Bool) (marks : AreMarks rules old any asked) (x : LinkOf) where
  pub marks_any : x.asked ≡ false → IsPutMarked x old new any after → AreMarks rules new after asked
  marks_any is put = record {
    any_room = put.room ∙ marks.any_room;
    asked_room = marks.asked_room;
    any_linked = subst (AreLinked new after) is put.linked;
    asked_linked = λ r marked. HasLink-kept (λ y. y ≡ x) old new put.put true r (marks.asked_linked r marked);
    bounded = let more = put.bounded in let bound = marks.bounded in omega (arith, more, bound);
  }

  pub marks_asked : x.asked ≡ true → IsPutMarked x old new asked after → AreMarks rules new any after
  marks_asked is put = record {
    any_room = marks.any_room;
    asked_room = put.room ∙ marks.asked_room;
    any_linked = λ r marked. HasLink-kept (λ y. y ≡ x) old new put.put false r (marks.any_linked r marked);
    asked_linked = subst (AreLinked new after) is put.linked;
    bounded = let more = put.bounded in let bound = marks.bounded in omega (arith, more, bound);
  }

-- a rule that is marked is linked
pub linked_by : (links : List LinkOf) (bits : List Bool) (kind k : Bool) → ((r : ℕ) → IsTrue (has bits r) → HasLink links kind r) → k ≡ kind → (n r : ℕ) → n ≡ r
    → n < length bits → (b : Bool) → b ≡ get_or bits n b → OnTrue b (HasLink links k r)
linked_by links bits kind k linked is n r same low b read =
    OnTrue_from b (HasLink links k r) (λ set.
    let marked : IsTrue (has bits n) = sym (get_or_read bits n b low read false) ∙ set in
    subst (λ (m : ℕ). HasLink links k m) same (subst (λ (c : Bool). HasLink links c n) (sym is) (linked n marked)))
