-- The steps of a text, one after another.
use Rattle.std.proofs.Common.{inl, inr, ◌≡◌, ◌<◌, ◌≤◌, ◌+◌, ◌-◌, ◌++◌, ℕ, zero, suc, List, [], ◌∷◌, length, length-drop, drop, Option, Some, None, refl, ap, sym, subst, ◌∙◌, arith}
use Rattle.std.specs.List.{All}
use Rattle.std.specs.Option.{option_map_or, option_or}
use Rattle.std.specs.Str.{IsCharBoundary}
use Rattle.std.proofs.lemmas.Bool.{cases_lt}
use Rattle.std.proofs.lemmas.List.{append-nil, at_drop_more, drop-drop, drop_more}
use Rattle.std.proofs.lemmas.List.Elements.{All-cons, All-nil}
use Rattle.lrpar_grammar_places.specs.Span.{Extent}
use Rattle.lrpar_grammar_words.specs.declared.word_order.Expected.{Expected}
use Rattle.lrpar_grammar_yacc.specs.declared.parts.YaccKind.{YaccKind}
use Rattle.lrpar_grammar_yacc.specs.declared.steps.Step.{Step}
use Rattle.lrpar_grammar_yacc.specs.declared.steps.StepKind.{StepKind}
use Rattle.lrpar_grammar_yacc.specs.declared.steps.StepKind.TheVariants.{Blank, Word, End, Part}
use Rattle.lrpar_grammar_yacc.specs.declared.text.TextPart.{TextPart}
use Rattle.lrpar_grammar_yacc.specs.Erasure.{AreApart, IsPartOfText}
use Rattle.lrpar_grammar_yacc.specs.Steps.{part_of, step_at, steps_from}

-- the bytes of a step that begins earlier
steps_skip : (s : List ℕ) (kind : YaccKind) (e : Expected) (k : ℕ) → k ≤ length s → steps_from kind e k s ≡ steps_from kind e 0 (drop k s)
steps_skip s kind e zero few = refl
steps_skip [] kind e (suc k) few = absurd (omega arith)
steps_skip (c ∷ s) kind e (suc k) few = steps_skip s kind e k (omega arith)

-- the steps from a place on, by the first
steps_by : (kind : YaccKind) (e : Expected) (s : List ℕ) (place : ℕ) (found : Option Step) → place < length s → step_at kind e (drop place s) ≡ found
    → steps_from kind e 0 (drop place s) ≡ option_map_or (λ x. x ∷ steps_from kind x.next (x.len - 1) (drop (place + 1) s)) found []
steps_by kind e s place found inside is =
    at_drop_more (steps_from kind e 0) s place 0 inside
    ∙ ap (λ found. option_map_or (λ (x : Step). x ∷ steps_from kind x.next (x.len - 1) (drop (place + 1) s)) found [])
    (ap (step_at kind e) (sym (drop_more s place 0 inside)) ∙ is)

-- a step, and those after it
pub steps_more : (kind : YaccKind) (e : Expected) (s : List ℕ) (place : ℕ) (x : Step) → step_at kind e (drop place s) ≡ Some x → 0 < x.len → place + x.len ≤ length s
    → steps_from kind e 0 (drop place s) ≡ x ∷ steps_from kind x.next 0 (drop (place + x.len) s)
steps_more kind e s place x is some most =
    let rest = drop (place + 1) s in
    let from : (place + 1) + (x.len - 1) ≡ place + x.len = omega arith in
    let skip : steps_from kind x.next (x.len - 1) rest ≡ steps_from kind x.next 0 (drop (place + x.len) s) =
    steps_skip rest kind x.next (x.len - 1) (omega (arith, length-drop (place + 1) s))
    ∙ ap (steps_from kind x.next 0) (drop-drop (x.len - 1) (place + 1) s ∙ ap (λ k. drop k s) from) in
    steps_by kind e s place (Some x) (omega arith) is ∙ ap (λ xs. x ∷ xs) skip

-- no step
pub steps_none : (kind : YaccKind) (e : Expected) (s : List ℕ) (place : ℕ) → step_at kind e (drop place s) ≡ None → steps_from kind e 0 (drop place s) ≡ []
steps_none kind e s place is =
    elim (cases_lt place (length s)) [
      | inl inside ↦ steps_by kind e s place None inside is
      | inr past ↦ at_end (drop place s) (omega (arith, length-drop place s))
    ]
  where
    at_end : (t : List ℕ) → length t ≡ 0 → steps_from kind e 0 t ≡ []
    at_end [] none = refl
    at_end (c ∷ t) none = absurd (omega arith)

-- one of three, whichever comes first
pub or_or : (a b c : Option Extent) → option_or (option_or a b) c ≡ option_or a (option_or b c)
or_or None b c = refl
or_or (Some x) b c = refl

-- the place after the last of these parts, the first of which is after that place
abbrev pub end_after : ℕ → List TextPart → ℕ
end_after place [] = place
end_after place (x ∷ xs) = end_after x.end xs

-- one more part, after the others
pub apart_push : (text : List ℕ) (xs : List TextPart) (place : ℕ) (x : TextPart) → AreApart text place xs → end_after place xs ≤ x.start → IsPartOfText text x
    → AreApart text place (xs ++ x ∷ [])
apart_push text [] place x apart after is = (apart, after, is, is.ends)
apart_push text (y ∷ xs) place x apart after is = (apart.0, apart.1, apart.2, apart_push text xs y.end x apart.3 after is)

-- the place after it
pub end_push : (xs : List TextPart) (place : ℕ) (x : TextPart) → end_after place (xs ++ x ∷ []) ≡ x.end
end_push [] place x = refl
end_push (y ∷ xs) place x = end_push xs y.end x

-- no more part
same_parts : (text : List ℕ) (xs : List TextPart) (place len : ℕ) → AreApart text 0 xs → end_after 0 xs ≤ place
    → AreApart text 0 (xs ++ []) × (end_after 0 (xs ++ []) ≤ place + len)
same_parts text xs place len apart after =
    let same : xs ++ [] ≡ xs = append-nil xs in
    (subst (AreApart text 0) (sym same) apart, omega (arith, after, ap (end_after 0) same))

-- the parts, with that of one more step, if it is over a part
pub apart_step : (text : List ℕ) (xs : List TextPart) (place prod : ℕ) (x : Step) (kind : StepKind) → AreApart text 0 xs → end_after 0 xs ≤ place
    → IsCharBoundary text place → IsCharBoundary text (place + x.len) → x.head ≤ x.len
    → AreApart text 0 (xs ++ part_of place prod x kind) × (end_after 0 (xs ++ part_of place prod x kind) ≤ place + x.len)
apart_step text xs place prod x (Part kind) apart after start end head =
    let part : TextPart = record { kind = kind; start = place; body = place + x.head; end = place + x.len; prod = prod } in
    let is : IsPartOfText text part = record { body = omega arith; end = omega arith; starts = start; ends = end } in
    (apart_push text xs 0 part apart after is, omega (arith, end_push xs 0 part))
apart_step text xs place prod x Blank apart after start end head = same_parts text xs place x.len apart after
apart_step text xs place prod x Word apart after start end head = same_parts text xs place x.len apart after
apart_step text xs place prod x End apart after start end head = same_parts text xs place x.len apart after

-- each part lies in the text
pub parts_within : (text : List ℕ) (xs : List TextPart) (place : ℕ) → AreApart text place xs → All (IsPartOfText text) xs
parts_within text [] place apart = All-nil (IsPartOfText text)
parts_within text (x ∷ xs) place apart = All-cons (IsPartOfText text) x xs apart.2 (parts_within text xs x.end apart.3)
