-- The texts of repair sequences.
use Rattle.std.proofs.Common.{◌≡◌, ℕ, suc, ◌+◌, ◌<◌, ◌∙◌, Bool, true, false, cond, not, List, [], ◌∷◌, ◌++◌, Option, Some, length, take, drop, refl, ap, sym, arith, append_assoc, append-nil, codes, Result, Ok, Err, is_ok, OnOk, IfErr, IsErrAnd, subst, if◌then◌else◌}
use Rattle.std.specs.Prelude.{◌==◌}
use Rattle.std.specs.List.{AllByRecursion, AllZip, flat_map, join_by, position_or_len, before_first, after_first}
use Rattle.std.proofs.lemmas.Grind.{flat_map-append}
use Rattle.lrpar_grammar_places.specs.Span.{Extent, IsPartOf}
use Rattle.lrpar_parse_lexemes.specs.Repair.{Repair, Inserted, Deleted, Shifted}
use Rattle.lrpar_parse_errors.specs.Printed.{IsPpFault}
use Rattle.lrpar_parse_lexemes.specs.declared.pp_fault.PpFault.{PpFault}
use Rattle.lrpar_parse_lexemes.specs.declared.pp_fault.PpFault.TheVariants.{NoPrintedName, Memory}
use Rattle.lrpar_parse_lexemes.specs.PrintedSequence.{Part, Inserts, Deletes, Shifts, joined, parts_of}
use Rattle.lrpar_parse_errors.specs.SequenceText.{on_one_line, IsPartText, IsPartsText, PartFits, RepairsFit, inserted_by, inserted, IsFirstUnnamed}

-- a line feed
abbrev feeds : ℕ → Bool
feeds b = b == 10

-- a text without line feeds is unchanged
plain_cons : (v : Bool) (b : ℕ) (bs : List ℕ) → cond (not v) (1 + position_or_len feeds bs) 0 ≡ suc (length bs)
    → (position_or_len feeds bs ≡ length bs → on_one_line bs ≡ bs) → cond v (92 ∷ 110 ∷ []) (b ∷ []) ++ on_one_line bs ≡ b ∷ bs
plain_cons true b bs none ih = absurd (omega (arith, none))
plain_cons false b bs none ih = ap (λ rest. b ∷ rest) (ih (omega (arith, none)))

pub plain_line : (text : List ℕ) → position_or_len feeds text ≡ length text → on_one_line text ≡ text
plain_line [] none = refl
plain_line (b ∷ bs) none = plain_cons (b == 10) b bs none (plain_line bs)

-- a text with line feeds: what comes before the first, the two characters, and what comes after it
split_cons : (v : Bool) (b : ℕ) (bs : List ℕ) → cond (not v) (1 + position_or_len feeds bs) 0 < suc (length bs)
    → (position_or_len feeds bs < length bs → on_one_line bs ≡ before_first feeds bs ++ (92 ∷ 110 ∷ on_one_line (after_first feeds bs)))
    → cond v (92 ∷ 110 ∷ []) (b ∷ []) ++ on_one_line bs
    ≡ take (cond (not v) (1 + position_or_len feeds bs) 0) (b ∷ bs) ++ (92 ∷ 110 ∷ on_one_line (drop (cond (not v) (1 + position_or_len feeds bs) 0 + 1) (b ∷ bs)))
split_cons true b bs found ih = refl
split_cons false b bs found ih =
    let k = position_or_len feeds bs in
    let one : 1 + k ≡ suc k = omega arith in
    let two : 1 + k + 1 ≡ suc (k + 1) = omega arith in
    ap (λ rest. b ∷ rest) (ih (omega (arith, found)))
    ∙ sym (ap (λ n. take n (b ∷ bs) ++ (92 ∷ 110 ∷ on_one_line (drop (1 + k + 1) (b ∷ bs)))) one
    ∙ ap (λ n. (b ∷ take k bs) ++ (92 ∷ 110 ∷ on_one_line (drop n (b ∷ bs)))) two)

pub split_line : (text : List ℕ) → position_or_len feeds text < length text
    → on_one_line text ≡ before_first feeds text ++ (92 ∷ 110 ∷ on_one_line (after_first feeds text))
split_line [] found = absurd (omega (arith, found))
split_line (b ∷ bs) found = split_cons (b == 10) b bs found (split_line bs)

-- a line more and the two characters after a text, and the rest after these
pub line_more : (out first second line others rest : List ℕ) → line ≡ before_first feeds rest → others ≡ after_first feeds rest → position_or_len feeds rest < length rest
    → first ≡ out ++ line → second ≡ first ++ (92 ∷ 110 ∷ []) → second ++ on_one_line others ≡ out ++ on_one_line rest
line_more out first second line others rest is-line is-others found e₁ e₂ =
    ap (λ o. o ++ on_one_line others) (e₂ ∙ ap (λ o. o ++ (92 ∷ 110 ∷ [])) e₁)
    ∙ append_assoc (out ++ line) (92 ∷ 110 ∷ []) (on_one_line others)
    ∙ append_assoc out line (92 ∷ 110 ∷ on_one_line others)
    ∙ ap (λ l. out ++ (l ++ (92 ∷ 110 ∷ on_one_line others))) is-line
    ∙ ap (λ o. out ++ (before_first feeds rest ++ (92 ∷ 110 ∷ on_one_line o))) is-others
    ∙ ap (λ t. out ++ t) (sym (split_line rest found))

-- a text is added, unless memory ran out
pub added : {T E : Type 0} (r : Result T E) (new out text whole : List ℕ) → new ≡ (if is_ok r then out ++ text else out) → out ++ text ≡ whole → OnOk r (new ≡ whole)
added (Ok x) new out text whole e same = e ∙ same
added (Err x) new out text whole e same = tt

-- a text that was added in two parts
pub added_twice : (old first second between new : List ℕ) → between ≡ old ++ first → new ≡ between ++ second → new ≡ old ++ (first ++ second)
added_twice old first second between new e₁ e₂ = e₂ ∙ ap (λ o. o ++ second) e₁ ∙ append_assoc old first second

-- an error that is returned as it is
pub err_same : {T E : Type 0} (r : Result T E) (P : E → Type 0) (e : E) → IsErrAnd r (λ f. f ≡ e) → P e → IfErr r P
err_same (Ok x) P e is holds = tt
err_same (Err f) P e is holds = subst P (sym is) holds

-- the text of a part is that of the sequence's next part
abbrev pub IsInRange : (ℕ → Option (List ℕ) → Type 0) → ℕ → Type 0
IsInRange names t = (name : List ℕ) × names t (Some name)

pub named_append : (names : ℕ → Option (List ℕ) → Type 0) (xs ys : List ℕ)
    → AllByRecursion (IsInRange names) xs → AllByRecursion (IsInRange names) ys → AllByRecursion (IsInRange names) (xs ++ ys)
named_append names [] ys hs ks = ks
named_append names (x ∷ xs) ys hs ks = (hs.0, named_append names xs ys hs.1 ks)

-- the parts with texts have names
pub named_parts : (names : ℕ → Option (List ℕ) → Type 0) (input : List ℕ) (parts : List Part) (texts : List (List ℕ))
    → AllZip (IsPartText names input) parts texts → AllByRecursion (IsInRange names) (inserted parts)
named_parts names input [] texts each = tt
named_parts names input (p ∷ parts) [] each = absurd each
named_parts names input (Inserts t ∷ parts) (text ∷ texts) each = ((each.0.0, each.0.1), named_parts names input parts texts each.1)
named_parts names input (Deletes a ∷ parts) (text ∷ texts) each = named_parts names input parts texts each.1
named_parts names input (Shifts a ∷ parts) (text ∷ texts) each = named_parts names input parts texts each.1

-- the first token without a name among some tokens is the first among more, if those before it have names
pub unnamed_within : (names : ℕ → Option (List ℕ) → Type 0) (front tokens further : List ℕ) (t : ℕ)
    → AllByRecursion (IsInRange names) front → IsFirstUnnamed names tokens t → IsFirstUnnamed names (front ++ (tokens ++ further)) t
unnamed_within names front tokens further t named first = record {
  before = front ++ first.before;
  after = first.after ++ further;
  at = ap (λ tokens. front ++ (tokens ++ further)) first.at ∙ ap (λ rest. front ++ rest) (append_assoc first.before (t ∷ first.after) further)
      ∙ sym (append_assoc front first.before (t ∷ (first.after ++ further)));
  named = named_append names front first.before named first.named;
  unnamed = first.unnamed;
}

-- the separator between the texts so far and one more
abbrev pub separator_after : List (List ℕ) → List ℕ
separator_after [] = []
separator_after (text ∷ texts) = codes ", "

join_more : (texts : List (List ℕ)) (text : List ℕ) → join_by (λ part. part) (codes ", ") (texts ++ text ∷ []) ≡ join_by (λ part. part) (codes ", ") texts ++ (separator_after texts ++ text)
join_more [] text = append-nil text
join_more (first ∷ texts) text =
    ap (λ rest. first ++ rest) (flat_map-append (λ y. codes ", " ++ y) texts (text ∷ []))
    ∙ ap (λ last. first ++ (flat_map (λ y. codes ", " ++ y) texts ++ last)) (append-nil (codes ", " ++ text))
    ∙ sym (append_assoc first (flat_map (λ y. codes ", " ++ y) texts) (codes ", " ++ text))

zip_more : {A B : Type 0} (R : A → B → Type 0) (xs : List A) (ys : List B) (x : A) (y : B)
    → AllZip R xs ys → R x y → AllZip R (xs ++ x ∷ []) (ys ++ y ∷ [])
zip_more R [] [] x y all last = (last, tt)
zip_more R [] (z ∷ ys) x y all last = absurd all
zip_more R (w ∷ xs) [] x y all last = absurd all
zip_more R (w ∷ xs) (z ∷ ys) x y all last = (all.0, zip_more R xs ys x y all.1 last)

-- some parts of all are printed after a text, and then comes a separator
pub record IsPrintedSoFar (names : ℕ → Option (List ℕ) → Type 0) (input : List ℕ) (all rest : List Part) (old out separator : List ℕ) : Type 0 where
  pub done : List Part
  pub texts : List (List ℕ)
  pub parts : all ≡ done ++ rest
  pub each : AllZip (IsPartText names input) done texts
  pub printed : out ≡ old ++ join_by (λ part. part) (codes ", ") texts
  pub next : separator ≡ separator_after texts

pub printed_none : (names : ℕ → Option (List ℕ) → Type 0) (input : List ℕ) (all : List Part) (old : List ℕ) → IsPrintedSoFar names input all all old old []
printed_none names input all old = record { done = []; texts = []; parts = refl; each = tt; printed = sym (append-nil old); next = refl }

separator_more : (texts : List (List ℕ)) (text : List ℕ) → codes ", " ≡ separator_after (texts ++ text ∷ [])
separator_more [] text = refl
separator_more (first ∷ texts) text = refl

pub printed_more : (names : ℕ → Option (List ℕ) → Type 0) (input : List ℕ) (all rest : List Part) (p : Part) (old out separator text out' : List ℕ)
    → IsPrintedSoFar names input all (p ∷ rest) old out separator → IsPartText names input p text → out' ≡ (out ++ separator) ++ text
    → IsPrintedSoFar names input all rest old out' (codes ", ")
printed_more names input all rest p old out separator text out' so_far is more =
    let joined_so_far = join_by (λ part. part) (codes ", ") so_far.texts in
    let whole : (out ++ separator) ++ text ≡ old ++ join_by (λ part. part) (codes ", ") (so_far.texts ++ text ∷ []) =
    ap (λ o. (o ++ separator) ++ text) so_far.printed
    ∙ ap (λ s. ((old ++ joined_so_far) ++ s) ++ text) so_far.next
    ∙ append_assoc (old ++ joined_so_far) (separator_after so_far.texts) text
    ∙ append_assoc old joined_so_far (separator_after so_far.texts ++ text)
    ∙ ap (λ t. old ++ t) (sym (join_more so_far.texts text)) in
    record {
      done = so_far.done ++ p ∷ [];
      texts = so_far.texts ++ text ∷ [];
      parts = so_far.parts ∙ sym (append_assoc so_far.done (p ∷ []) rest);
      each = zip_more (IsPartText names input) so_far.done so_far.texts p text so_far.each is;
      printed = more ∙ whole;
      next = separator_more so_far.texts text;
    }

pub printed_all : (names : ℕ → Option (List ℕ) → Type 0) (input : List ℕ) (all : List Part) (old out separator : List ℕ)
    → IsPrintedSoFar names input all [] old out separator → (text : List ℕ) × (out ≡ old ++ text) × IsPartsText names input all text
printed_all names input all old out separator so_far = (
  join_by (λ part. part) (codes ", ") so_far.texts,
  so_far.printed,
  record {
    texts = so_far.texts;
    each = rw (so_far.parts, append-nil so_far.done) so_far.each;
    is = refl;
  },
)

pub unnamed_next : (names : ℕ → Option (List ℕ) → Type 0) (input : List ℕ) (all rest : List Part) (p : Part) (old out separator : List ℕ) (t : ℕ)
    → IsPrintedSoFar names input all (p ∷ rest) old out separator → IsFirstUnnamed names (inserted_by p) t → IsFirstUnnamed names (inserted all) t
unnamed_next names input all rest p old out separator t so_far first =
    let tokens : inserted all ≡ inserted so_far.done ++ (inserted_by p ++ inserted rest) =
    ap inserted so_far.parts ∙ flat_map-append inserted_by so_far.done (p ∷ rest) in
    rw tokens (unnamed_within names (inserted so_far.done) (inserted_by p) (inserted rest) t (named_parts names input so_far.done so_far.texts so_far.each) first)

-- so is what a fault says
pub fault_next : {S : Type 0} (index : S → ℕ) (names : ℕ → Option (List ℕ) → Type 0) (input : List ℕ) (all rest : List Part) (p : Part) (old out separator : List ℕ) (fault : PpFault S)
    → IsPrintedSoFar names input all (p ∷ rest) old out separator → IsPpFault index names (inserted_by p) fault → IsPpFault index names (inserted all) fault
fault_next index names input all rest p old out separator (NoPrintedName t) so_far first = unnamed_next names input all rest p old out separator (index t.0) so_far first
fault_next index names input all rest p old out separator Memory so_far first = tt

-- the parts of a sequence that fits fit
fits_joined : (input : List ℕ) (a : Extent) (parts : List Part) → IsPartOf input a → AllByRecursion (PartFits input) parts → AllByRecursion (PartFits input) (joined a parts)
fits_joined input a [] own others = (own, tt)
fits_joined input a (Inserts t ∷ parts) own others = (own, others)
fits_joined input a (Shifts b ∷ parts) own others = (own, others)
fits_joined input a (Deletes b ∷ parts) own others =
    elim (a.end == b.start) as (λ v. AllByRecursion (PartFits input) (cond v (Deletes (record { start = a.start; end = b.end }) ∷ parts) (Deletes a ∷ Deletes b ∷ parts))) [
      | true ↦ (record { start = own.start; end = others.0.end }, others.1)
      | false ↦ (own, others)
    ]

pub parts_fit : {X : Type 0} (span : X → Extent) (input : List ℕ) (repairs : List (Repair X))
    → RepairsFit span input repairs → AllByRecursion (PartFits input) (parts_of span repairs)
parts_fit span input [] fits = tt
parts_fit span input (Inserted t ∷ repairs) fits = (tt, parts_fit span input repairs fits.1)
parts_fit span input (Shifted x ∷ repairs) fits = (fits.0, parts_fit span input repairs fits.1)
parts_fit span input (Deleted x ∷ repairs) fits = fits_joined input (span x) (parts_of span repairs) fits.0 (parts_fit span input repairs fits.1)
