-- Edits of a text, one after the other.
use Rattle.std.proofs.Common.{◌≡◌, ◌+◌, ◌<◌, ◌∷◌, ◌++◌, ℕ, List, length, get_or, drop, map, ap, subst, sym, ◌∙◌, append_assoc}
use Rattle.std.specs.Prelude.{◌↔◌, slice_range}
use Rattle.std.specs.Str.{IsCharBoundary}
use Rattle.std.proofs.lemmas.List.{drop_more, get_or-map, length-map}
use Rattle.lrpar_report_columns.specs.Lines.{IsTextBetween}
use Rattle.lrpar_report_lines.specs.declared.edits.Edit.{Edit}
use Rattle.lrpar_report_lines.specs.Edits.{AreInOrderFrom, CanBeEdited, Replacement, edited, edited_from, replacement}
use Rattle.lrpar_report_lines.specs.Places.{IsPartFrom}

-- the first of the edits from the i-th on
pub drop_replacements : (edits : List Edit) (i : ℕ) (edit : Edit) → i < length edits → edit ≡ get_or edits i edit
    → drop i (map replacement edits) ≡ replacement edit ∷ drop (i + 1) (map replacement edits)
drop_replacements edits i edit within read =
    let more = drop_more (map replacement edits) i (replacement edit) (subst (λ n. i < n) (sym (length-map edits replacement)) within) in
    let first = get_or-map replacement edits i edit (replacement edit) within in
    more ∙ ap (λ r. r ∷ drop (i + 1) (map replacement edits)) (first ∙ ap replacement (sym read))

-- all edits are in order where those up to one, that one and those after it are
pub in_order_more : (text : List ℕ) (byte : ℕ) (rs rest left : List Replacement) (r : Replacement) → left ≡ r ∷ rest → IsPartFrom text byte r.part
    → (CanBeEdited text rs ↔ AreInOrderFrom text byte left) → (CanBeEdited text rs ↔ AreInOrderFrom text r.part.end rest)
in_order_more text byte rs rest left r is part so_far =
    let before : CanBeEdited text rs ↔ AreInOrderFrom text byte (r ∷ rest) = subst (λ l. CanBeEdited text rs ↔ AreInOrderFrom text byte l) is so_far in
    ((λ can. (before.0 can).1), (λ in_order. before.1 (part, in_order)))

-- edits aren't in order if one isn't after the one before it
pub out_of_order : (text : List ℕ) (byte : ℕ) (rs rest left : List Replacement) (r : Replacement) → left ≡ r ∷ rest
    → (IsPartFrom text byte r.part → ⊥) → (CanBeEdited text rs ↔ AreInOrderFrom text byte left) → CanBeEdited text rs → ⊥
out_of_order text byte rs rest left r is not_from so_far can =
    let in_order : AreInOrderFrom text byte (r ∷ rest) = subst (λ l. AreInOrderFrom text byte l) is (so_far.0 can) in
    not_from in_order.0

-- how far the edits are made: from this byte on the other ones can be made, and with what is written they give the text after all
pub record IsEditedTo (text : List ℕ) (rs left : List Replacement) (byte : ℕ) (out : List ℕ) : Type 0 where
  pub boundary : IsCharBoundary text byte
  pub in_order : AreInOrderFrom text byte left
  pub written : out ++ edited_from text byte left ≡ edited text rs

-- one edit more is made
pub edited_more : (text : List ℕ) (rs rest left : List Replacement) (r : Replacement) (byte start end : ℕ) (out part out2 new out3 : List ℕ)
    → left ≡ r ∷ rest → IsEditedTo text rs left byte out → start ≡ r.part.start → end ≡ r.part.end → IsTextBetween text byte start part
    → out2 ≡ out ++ part → new ≡ r.text → out3 ≡ out2 ++ new → IsEditedTo text rs rest end out3
edited_more text rs rest left r byte start end out part out2 new out3 is so_far is_start is_end between appends_part is_new appends_new =
    let before : IsEditedTo text rs (r ∷ rest) byte out = subst (λ l. IsEditedTo text rs l byte out) is so_far in
    let cut : IsTextBetween text byte r.part.start part = subst (λ s. IsTextBetween text byte s part) is_start between in
    let place = before.in_order.0 in
    let kept : part ≡ slice_range text byte r.part.start = cut before.boundary place.within.start place.after in
    let later = edited_from text r.part.end rest in
    let gap = slice_range text byte r.part.start in
    let all : out3 ≡ (out ++ gap) ++ r.text =
    appends_new ∙ ap (λ t. out2 ++ t) is_new ∙ ap (λ o. o ++ r.text) (appends_part ∙ ap (λ p. out ++ p) kept) in
    let regroup : ((out ++ gap) ++ r.text) ++ later ≡ out ++ ((gap ++ r.text) ++ later) = simp append_assoc in
    let made : IsEditedTo text rs rest r.part.end out3 = record {
      boundary = place.within.end;
      in_order = before.in_order.1;
      written = ap (λ o. o ++ later) all ∙ regroup ∙ before.written;
    } in
    subst (λ e. IsEditedTo text rs rest e out3) (sym is_end) made
