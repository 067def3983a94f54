-- The span of a production over entries, computed from the first and the last of them.
use Rattle.std.proofs.Common.{◌≡◌, ◌≤◌, ◌-◌, ◌∙◌, ℕ, suc, List, [], ◌∷◌, ◌++◌, Option, Some, length, nat_eq, slice_index_or, true, false, ap, arith, refl, subst, sym}
use Rattle.std.proofs.lemmas.Bool.{eqb-true}
use Rattle.std.specs.List.{last_or, slice_get}
use Rattle.lrpar_grammar_places.specs.Span.{Extent}
use Rattle.lrpar_parse_lexemes.specs.PlacedSpans.{Rise, last_part, span_over, spans_of}
use Rattle.lrpar_parse_lexemes.specs.RisingSpans.{rise_back, spans_both}
use Rattle.lrpar_parse_lexemes.specs.declared.placed.Placed.{Placed}

-- spans with the same ends
pub same_ends : (start end start' end' : ℕ) → start ≡ start' → end ≡ end' → ◌≡◌ {A = Extent} (record { start = start; end = end }) (record { start = start'; end = end' })
same_ends start end start' end' s e = subst (λ (n : ℕ). ◌≡◌ {A = Extent} (record { start = start; end = end }) (record { start = n; end = end' })) s (ap (λ (n : ℕ). let x : Extent = record { start = start; end = n } in x) e)

-- the last of these spans is that of the last entry
last_part_at : {T : Type 0} (e : Placed T) (es : List (Placed T)) (d : Placed T) → last_part e.span (spans_of es) ≡ (slice_index_or (e ∷ es) (length es) d).span
last_part_at e [] d = refl
last_part_at e (next ∷ es) d = last_part_at next es d

-- the last of the entries
last_at : {T : Type 0} (e : Placed T) (es : List (Placed T)) (last : Placed T) → last ≡ slice_index_or (e ∷ es) (length (e ∷ es) - 1) last → last_part e.span (spans_of es) ≡ last.span
last_at e es last is =
    let place : length (e ∷ es) - 1 ≡ length es = omega arith in
    let at : last ≡ slice_index_or (e ∷ es) (length es) last = rw place at is in
    last_part_at e es last ∙ ap (λ (x : Placed _). x.span) (sym at)

-- parts that rise start no later than their last one
rise_last : (low : ℕ) (part : Extent) (parts : List Extent) (high : ℕ) → Rise low (part ∷ parts) high → part.start ≤ (last_part part parts).start
rise_last low part [] high rise = omega arith
rise_last low part (next ∷ parts) high rise =
    let first : part.start ≤ next.start = rise.1.0 in
    let rest : next.start ≤ (last_part next parts).start = rise_last part.start next parts high rise.1 in
    omega arith

-- entries that rise: the first one starts no later than the last one
pub first_before_last : {T : Type 0} (before own : List (Placed T)) (high : ℕ) (first last : Placed T) → Rise 0 (spans_of (before ++ own)) high → nat_eq (length own) 0 ≡ false
    → first ≡ slice_index_or own 0 first → last ≡ slice_index_or own (length own - 1) last → first.span.start ≤ last.span.start
first_before_last before [] high first last rise some first_is last_is = absurd (let no : ⊥ = cc in no)
first_before_last before (e ∷ es) high first last rise some first_is last_is =
    let own = rise_back 0 (spans_of before) (spans_of (e ∷ es)) high (rw (spans_both before (e ∷ es)) at rise) in
    let order : e.span.start ≤ (last_part e.span (spans_of es)).start = rise_last _ e.span (spans_of es) high own in
    let start : first.span.start ≡ e.span.start = ap (λ (x : Placed _). x.span.start) first_is in
    let end : (last_part e.span (spans_of es)).start ≡ last.span.start = ap (λ (s : Extent). s.start) (last_at e es last last_is) in
    omega (arith, order, start, end)

-- and so the span extends from the one to the other
pub over_own : {T : Type 0} (before : Extent) (own : List (Placed T)) (first last : Placed T) (span : Extent) → nat_eq (length own) 0 ≡ false
    → first ≡ slice_index_or own 0 first → last ≡ slice_index_or own (length own - 1) last → span.start ≡ first.span.start → span.end ≡ last.span.end → span ≡ span_over before (spans_of own)
over_own before [] first last span some first_is last_is start end = absurd (let no : ⊥ = cc in no)
over_own before (e ∷ es) first last span some first_is last_is start end =
    let from : span.start ≡ e.span.start = start ∙ ap (λ (x : Placed _). x.span.start) first_is in
    let to : span.end ≡ (last_part e.span (spans_of es)).end = end ∙ ap (λ (s : Extent). s.end) (sym (last_at e es last last_is)) in
    same_ends span.start span.end e.span.start (last_part e.span (spans_of es)).end from to

-- without entries of its own it is the span before it
pub over_nothing : {T : Type 0} (before : Extent) (own : List (Placed T)) → nat_eq (length own) 0 ≡ true → span_over before (spans_of own) ≡ before
over_nothing before [] none = refl
over_nothing before (e ∷ es) none = let empty : length (e ∷ es) ≡ 0 = eqb-true (length (e ∷ es)) 0 none in absurd (omega (arith, empty))

-- the last of a list
pub last_or_at : {A : Type 0} (o : Option A) (xs : List A) (x : A) → slice_get xs (length xs - 1) ≡ Some x → last_or o xs ≡ Some x
last_or_at o [] x at = absurd (let no : ⊥ = cc in no)
last_or_at o (y ∷ []) x at = at
last_or_at o (y ∷ z ∷ zs) x at =
    let place : length (y ∷ z ∷ zs) - 1 ≡ suc (length (z ∷ zs) - 1) = omega arith in
    last_or_at (Some y) (z ∷ zs) x (subst (λ (n : ℕ). slice_get (y ∷ z ∷ zs) n ≡ Some x) place at)
