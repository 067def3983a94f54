-- The rules that a walk along a text meets are marked.
use Rattle.std.proofs.Common.{◌≡◌, ◌⊎◌, ℕ, ◌+◌, ◌-◌, ◌<◌, ◌≤◌, Bool, true, false, List, [], ◌∷◌, drop, get_or, length, set, take, Some, None, slice_get, sym, ap, ◌∙◌, subst, inl, inr, ⊎_elim, arith, zero, suc, drop-cons, true≢false}
use Rattle.std.specs.List.{Contains}
use Rattle.std.specs.Option.{IsSomeAnd}
use Rattle.std.specs.Str.{IsUtf8}
use Rattle.std.proofs.lemmas.List.{drop_all, take_more}
use Rattle.std.proofs.lemmas.List.Elements.{Contains-append_cases, Contains-push_cases}
use Rattle.std.proofs.lemmas.Option.{same_Some}
use Rattle.regex.specs.Patterns.{Re}
use Rattle.regex_meta.specs.declared.program.Program.{Program}
use Rattle.lrpar_lexer.proofs.AnchoredLemmas.{no_match_of_nothing}
use Rattle.lrpar_lexer.proofs.WalkLemmas.{goes_on, the_tail}
use Rattle.lrpar_lexer.specs.Anchored.{FindsAtStart}
use Rattle.lrpar_lexer.specs.Marks.{AddsMarks, AreMarked, IsMarked, MeetsText}
use Rattle.lrpar_lexer.specs.Matching.{HasNoMatch}
use Rattle.lrpar_lexer.specs.RuleTrees.{AreMet, MeetsBelow, next_of, rules_at}
use Rattle.lrpar_lexer.specs.declared.rule_tree.Node.{Node}

-- a mark that is set
pub mark_is_set : (marks : List Bool) (rule : ℕ) → rule < length marks → IsMarked (set marks rule true) rule
mark_is_set [] rule within is = omega (arith, within)
mark_is_set (m ∷ marks) zero within is = true≢false (same_Some true false is)
mark_is_set (m ∷ marks) (suc rule) within is = mark_is_set marks rule (omega (arith, within)) is

-- the others stay
pub marks_stay : (marks : List Bool) (rule other : ℕ) → IsMarked marks other → IsMarked (set marks rule true) other
marks_stay [] zero other marked is = marked is
marks_stay [] (suc rule) other marked is = marked is
marks_stay (m ∷ marks) zero zero marked is = true≢false (same_Some true false is)
marks_stay (m ∷ marks) zero (suc other) marked is = marked is
marks_stay (m ∷ marks) (suc rule) zero marked is = marked is
marks_stay (m ∷ marks) (suc rule) (suc other) marked is = marks_stay marks rule other marked is

-- a rule past the last has no mark
pub no_mark : (marks : List Bool) (rule : ℕ) → length marks ≤ rule → IsMarked marks rule
no_mark [] rule long is = cc
no_mark (m ∷ marks) zero long is = omega (arith, long)
no_mark (m ∷ marks) (suc rule) long is = no_mark marks rule (omega (arith, long)) is

-- one rule is marked
pub adds_one : (rule : ℕ) (old new : List Bool) → IsMarked new rule → ((other : ℕ) → IsMarked old other → IsMarked new other)
    → AddsMarks (rule ∷ []) old new
adds_one rule old new marked kept = record {
  added = λ other there. ⊎_elim
      (λ (none : Contains [] other). absurd (omega (arith, none.1)))
      (λ (same : rule ≡ other). subst (IsMarked new) same marked)
      (Contains-push_cases [] rule other there);
  kept = kept;
}

pub adds_none : (marks : List Bool) → AddsMarks [] marks marks
adds_none marks = record { added = λ rule there. absurd (omega (arith, there.1)); kept = λ rule marked. marked }

-- one more of some rules
pub adds_more : (rules : List ℕ) (i : ℕ) (old mid new : List Bool) → i < length rules → AddsMarks (take i rules) old mid
    → AddsMarks (get_or rules i 0 ∷ []) mid new → AddsMarks (take (i + 1) rules) old new
adds_more rules i old mid new within first second = record {
  added = λ rule there. ⊎_elim
      (λ (before : Contains (take i rules) rule). second.kept rule (first.added rule before))
      (λ (last : Contains (get_or rules i 0 ∷ []) rule). second.added rule last)
      (Contains-append_cases (take i rules) (get_or rules i 0 ∷ []) rule (subst (λ rs. Contains rs rule) (take_more rules i 0 within) there));
  kept = λ rule marked. second.kept rule (first.kept rule marked);
}

module _ (nodes : List Node) (rest : List ℕ) where
  -- what the walk meets is marked, or is met by the rest of the walk
  abbrev pub AreMarkedSoFar : ℕ → List ℕ → List Bool → Type 0
  AreMarkedSoFar node after marks = (rule : ℕ) → MeetsText nodes rest rule → IsMarked marks rule ⊎ MeetsBelow nodes node after rule

  pub marked_first : (node : ℕ) (old new : List Bool) → 0 < length rest → node ≡ get_or rest 0 0 → AddsMarks (rules_at nodes node) old new
      → AreMarkedSoFar node (drop 1 rest) new
  marked_first node old new some first adds rule meets =
      let one : 1 ≡ suc 0 = omega arith in
      let is : rest ≡ node ∷ drop 1 rest = drop-cons rest 0 0 some ∙ ap (λ k. get_or rest 0 0 ∷ drop k rest) (sym one)
      ∙ ap (λ b. b ∷ drop 1 rest) (sym first) in
      ⊎_elim
      (λ (here : Contains (rules_at nodes node) rule). inl (adds.added rule here))
      (λ (below : MeetsBelow nodes node (drop 1 rest) rule). inr below)
      (subst (λ text. MeetsText nodes text rule) is meets)

  pub marked_step : (bytes : List ℕ) (k node byte next : ℕ) (old new : List Bool) → bytes ≡ rest
      → k < length (take (length bytes - 1) (drop 1 bytes)) → byte ≡ get_or (take (length bytes - 1) (drop 1 bytes)) k 0
      → Some next ≡ next_of nodes node byte → AddsMarks (rules_at nodes next) old new
      → AreMarkedSoFar node (drop k (drop 1 rest)) old → AreMarkedSoFar next (drop (k + 1) (drop 1 rest)) new
  marked_step bytes k node byte next old new same within read leads adds marked rule meets = ⊎_elim
      (λ (before : IsMarked old rule). inl (adds.kept rule before))
      (λ (below : MeetsBelow nodes node (drop k (drop 1 rest)) rule).
      let after : MeetsBelow nodes node (byte ∷ drop (k + 1) (drop 1 rest)) rule =
      subst (λ text. MeetsBelow nodes node text rule) (goes_on nodes [] rest bytes k byte same within read) below in
      ⊎_elim
      (λ (here : Contains (rules_at nodes next) rule). inl (adds.added rule here))
      (λ (further : MeetsBelow nodes next (drop (k + 1) (drop 1 rest)) rule). inr further)
      (subst (λ o. IsSomeAnd o (λ next. Contains (rules_at nodes next) rule ⊎ MeetsBelow nodes next (drop (k + 1) (drop 1 rest)) rule)) (sym leads) after))
      (marked rule meets)

  pub marked_stop : (bytes : List ℕ) (k node byte : ℕ) (marks : List Bool) → bytes ≡ rest
      → k < length (take (length bytes - 1) (drop 1 bytes)) → byte ≡ get_or (take (length bytes - 1) (drop 1 bytes)) k 0
      → None ≡ next_of nodes node byte → AreMarkedSoFar node (drop k (drop 1 rest)) marks → AreMarked nodes rest marks
  marked_stop bytes k node byte marks same within read leads marked rule meets = ⊎_elim
      (λ (before : IsMarked marks rule). before)
      (λ (below : MeetsBelow nodes node (drop k (drop 1 rest)) rule).
      let after : MeetsBelow nodes node (byte ∷ drop (k + 1) (drop 1 rest)) rule =
      subst (λ text. MeetsBelow nodes node text rule) (goes_on nodes [] rest bytes k byte same within read) below in
      absurd (subst (λ o. IsSomeAnd o (λ next. Contains (rules_at nodes next) rule ⊎ MeetsBelow nodes next (drop (k + 1) (drop 1 rest)) rule)) (sym leads) after))
      (marked rule meets)

  pub marked_finish : (bytes : List ℕ) (k node : ℕ) (marks : List Bool) → bytes ≡ rest → length (take (length bytes - 1) (drop 1 bytes)) ≤ k
      → AreMarkedSoFar node (drop k (drop 1 rest)) marks → AreMarked nodes rest marks
  marked_finish bytes k node marks same long marked rule meets = ⊎_elim
      (λ (before : IsMarked marks rule). before)
      (λ (below : MeetsBelow nodes node (drop k (drop 1 rest)) rule).
      absurd (subst (λ text. MeetsBelow nodes node text rule)
      (drop_all k (drop 1 rest) (subst (λ l. length l ≤ k) (the_tail nodes [] rest bytes same) long)) below))
      (marked rule meets)

  -- an empty text meets no rule
  pub marked_empty : (marks : List Bool) → length rest ≡ 0 → AreMarked nodes rest marks
  marked_empty marks empty rule meets = absurd (no_text rest empty meets)
    where
      no_text : (text : List ℕ) → length text ≡ 0 → MeetsText nodes text rule → ⊥
      no_text [] none meets = meets
      no_text (byte ∷ text) none meets = omega (arith, none)

-- a rule that isn't marked has no match
pub unmarked_has_none : (nodes : List Node) (programs : List Program) (marks : List Bool) (rest : List ℕ) (rule : ℕ) (program : Program) (pattern : Re)
    → AreMet nodes programs → AreMarked nodes rest marks → slice_get marks rule ≡ Some false → IsUtf8 rest → get_or rest 0 0 < 256
    → slice_get programs rule ≡ Some program → FindsAtStart program pattern → HasNoMatch rest pattern
unmarked_has_none nodes programs marks [] rule program pattern met marked not utf8 small is finds n match =
    omega (arith, match.some, match.boundary.0)
unmarked_has_none nodes programs marks (byte ∷ text) rule program pattern met marked not utf8 small is finds n match =
    no_match_of_nothing program pattern (byte ∷ text) utf8 finds (met rule program is byte text small (λ meets. marked rule meets not)) n match
