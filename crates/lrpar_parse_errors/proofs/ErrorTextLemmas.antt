-- The texts of the sequences of an error.
use Rattle.std.proofs.Common.{◌≡◌, ℕ, zero, suc, ◌+◌, ◌<◌, ◌≤◌, List, [], ◌∷◌, ◌++◌, Option, Vec, length, map, take, drop, get_or, refl, ap, sym, ◌∙◌, arith, append_assoc, append-nil, subst, codes}
use Rattle.std.specs.List.{AllByRecursion, AllZip, flat_map}
use Rattle.std.proofs.lemmas.List.{take_more, length-take}
use Rattle.std.proofs.lemmas.Grind.{flat_map-append}
use Rattle.lrpar_grammar_places.specs.Span.{Extent}
use Rattle.lrpar_parse_lexemes.specs.declared.repairs.ParseRepair.{ParseRepair}
use Rattle.lrpar_parse_errors.specs.Printed.{IsPpFault}
use Rattle.lrpar_parse_lexemes.specs.PrintedParts.{sequence_parts}
use Rattle.lrpar_parse_lexemes.specs.Repairs.{repair_of, repairs_of}
use Rattle.lrpar_parse_lexemes.specs.PrintedSequence.{Part, parts_of}
use Rattle.lrpar_parse_errors.specs.SequenceText.{IsPartsText, RepairsFit, inserted, IsFirstUnnamed}
use Rattle.lrpar_parse_errors.specs.ErrorText.{digits, numbering, numbered, repairs_text, tokens_of}
use Rattle.lrpar_parse_lexemes.specs.declared.pp_fault.PpFault.{PpFault}
use Rattle.lrpar_parse_lexemes.specs.declared.pp_fault.PpFault.TheVariants.{NoPrintedName, Memory}
use Rattle.lrpar_parse_errors.proofs.SequenceTextLemmas.{IsInRange, named_append, named_parts, unnamed_within}

-- one more sequence after its number
numbered_more : (most i : ℕ) (texts : List (List ℕ)) (text : List ℕ)
    → numbered most i (texts ++ text ∷ []) ≡ numbered most i texts ++ (numbering most (i + length texts) ++ text)
numbered_more most i [] text =
    let same : i ≡ i + 0 = omega arith in
    append-nil (numbering most i ++ text) ∙ ap (λ n. numbering most n ++ text) same
numbered_more most i (first ∷ texts) text =
    let same : i + 1 + length texts ≡ i + suc (length texts) = omega arith in
    ap (λ rest. numbering most i ++ first ++ rest) (numbered_more most (i + 1) texts text)
    ∙ sym (append_assoc (numbering most i ++ first) (numbered most (i + 1) texts) (numbering most (i + 1 + length texts) ++ text))
    ∙ ap (λ n. (numbering most i ++ first ++ numbered most (i + 1) texts) ++ (numbering most n ++ text)) same

zip_length : {A B : Type 0} (R : A → B → Type 0) (xs : List A) (ys : List B) → AllZip R xs ys → length xs ≡ length ys
zip_length R [] [] all = refl
zip_length R [] (y ∷ ys) all = absurd all
zip_length R (x ∷ xs) [] all = absurd all
zip_length R (x ∷ xs) (y ∷ ys) all = ap suc (zip_length R xs ys all.1)

zip_more : {A B : Type 0} (R : A → B → Type 0) (xs : List A) (ys : List B) (x : A) (y : B)
    → AllZip R xs ys → R x y → AllZip R (xs ++ x ∷ []) (ys ++ y ∷ [])
zip_more R [] [] x y all last = (last, tt)
zip_more R [] (z ∷ ys) x y all last = absurd all
zip_more R (w ∷ xs) [] x y all last = absurd all
zip_more R (w ∷ xs) (z ∷ ys) x y all last = (all.0, zip_more R xs ys x y all.1 last)

-- some sequences are printed after a text, each after its number
pub record AreListed (names : ℕ → Option (List ℕ) → Type 0) (input : List ℕ) (most : ℕ) (sequences : List (List Part)) (old out : List ℕ) : Type 0 where
  pub texts : List (List ℕ)
  pub each : AllZip (IsPartsText names input) sequences texts
  pub printed : out ≡ old ++ numbered most 1 texts

pub listed_none : (names : ℕ → Option (List ℕ) → Type 0) (input : List ℕ) (most : ℕ) (old : List ℕ) → AreListed names input most [] old old
listed_none names input most old = record { texts = []; each = tt; printed = sym (append-nil old) }

pub listed_more : (names : ℕ → Option (List ℕ) → Type 0) (input : List ℕ) (most i : ℕ) (sequences : List (List Part)) (parts : List Part) (old out first text second : List ℕ)
    → AreListed names input most sequences old out → length sequences ≡ i → IsPartsText names input parts text
    → first ≡ out ++ numbering most (i + 1) → second ≡ first ++ text → AreListed names input most (sequences ++ parts ∷ []) old second
listed_more names input most i sequences parts old out first text second so_far count is e₁ e₂ =
    let number : i + 1 ≡ 1 + length so_far.texts =
    let same = zip_length (IsPartsText names input) sequences so_far.texts so_far.each in omega arith in
    record {
      texts = so_far.texts ++ text ∷ [];
      each = zip_more (IsPartsText names input) sequences so_far.texts parts text so_far.each is;
      printed = e₂ ∙ ap (λ o. o ++ text) e₁
          ∙ ap (λ o. (o ++ numbering most (i + 1)) ++ text) so_far.printed
          ∙ append_assoc (old ++ numbered most 1 so_far.texts) (numbering most (i + 1)) text
          ∙ append_assoc old (numbered most 1 so_far.texts) (numbering most (i + 1) ++ text)
          ∙ ap (λ n. old ++ (numbered most 1 so_far.texts ++ (numbering most n ++ text))) number
          ∙ ap (λ t. old ++ t) (sym (numbered_more most 1 so_far.texts text));
    }

-- the tokens of sequences that are printed have names
named_sequences : (names : ℕ → Option (List ℕ) → Type 0) (input : List ℕ) (sequences : List (List Part)) (texts : List (List ℕ))
    → AllZip (IsPartsText names input) sequences texts → AllByRecursion (IsInRange names) (flat_map inserted sequences)
named_sequences names input [] texts each = tt
named_sequences names input (parts ∷ sequences) [] each = absurd each
named_sequences names input (parts ∷ sequences) (text ∷ texts) each =
    named_append names (inserted parts) (flat_map inserted sequences) (named_parts names input parts each.0.texts each.0.each)
    (named_sequences names input sequences texts each.1)

-- the first token without a name of a sequence is the first of all, if the sequences before it are printed
pub unnamed_sequence : (names : ℕ → Option (List ℕ) → Type 0) (input : List ℕ) (most : ℕ) (front after : List (List Part)) (parts : List Part) (old out : List ℕ) (t : ℕ)
    → AreListed names input most front old out → IsFirstUnnamed names (inserted parts) t → IsFirstUnnamed names (flat_map inserted (front ++ parts ∷ after)) t
unnamed_sequence names input most front after parts old out t so_far first =
    rw (flat_map-append inserted front (parts ∷ after))
    (unnamed_within names (flat_map inserted front) (inserted parts) (flat_map inserted after) t (named_sequences names input front so_far.texts so_far.each) first)

-- a list as the elements before a place, the element there, and those after it
around : {A : Type 0} (xs : List A) (i : ℕ) (x : A) → i < length xs → x ≡ get_or xs i x → xs ≡ take i xs ++ x ∷ drop (i + 1) xs
around [] i x below at = absurd (omega arith)
around (y ∷ xs) zero x below at = ap (λ z. z ∷ xs) (sym at)
around (y ∷ xs) (suc i) x below at =
    let next : suc i + 1 ≡ suc (i + 1) = omega arith in
    ap (λ zs. y ∷ zs) (around xs i x (omega arith) at) ∙ ap (λ n. y ∷ (take i xs ++ x ∷ drop n (y ∷ xs))) (sym next)

pub taken : {A : Type 0} (xs : List A) (i : ℕ) (x : A) → i < length xs → x ≡ get_or xs i x → take (i + 1) xs ≡ take i xs ++ x ∷ []
taken xs i x below at = take_more xs i x below ∙ ap (λ z. take i xs ++ z ∷ []) (sym at)

taken_length : {A : Type 0} (xs : List A) (i : ℕ) → i < length xs → length (take i xs) ≡ i
taken_length xs i below = rw (length-take i xs) (omega arith)

pub taken_all : {A : Type 0} (xs : List A) (i : ℕ) → length xs ≤ i → take i xs ≡ xs
taken_all [] zero long = refl
taken_all [] (suc i) long = refl
taken_all (x ∷ xs) zero long = absurd (omega arith)
taken_all (x ∷ xs) (suc i) long = ap (λ ys. x ∷ ys) (taken_all xs i (omega arith))

-- the parts of several sequences
abbrev pub all_parts : {X S A : Type 0} → (S → ℕ) → (X → Extent) → List (Vec (ParseRepair X S) A) → List (List Part)
all_parts index span sequences = map (parts_of span) (repairs_of index sequences)

all_parts_append : {X S A : Type 0} (index : S → ℕ) (span : X → Extent) (xs ys : List (Vec (ParseRepair X S) A))
    → all_parts index span (xs ++ ys) ≡ all_parts index span xs ++ all_parts index span ys
all_parts_append index span [] ys = refl
all_parts_append index span (x ∷ xs) ys = ap (λ ps. sequence_parts index span x.items ∷ ps) (all_parts_append index span xs ys)

all_parts_length : {X S A : Type 0} (index : S → ℕ) (span : X → Extent) (xs : List (Vec (ParseRepair X S) A)) → length (all_parts index span xs) ≡ length xs
all_parts_length index span [] = refl
all_parts_length index span (x ∷ xs) = ap suc (all_parts_length index span xs)

-- the sequence at a place fits
pub sequence_fits : {X S A : Type 0} (index : S → ℕ) (span : X → Extent) (input : List ℕ) (sequences : List (Vec (ParseRepair X S) A)) (i : ℕ) (x : Vec (ParseRepair X S) A)
    → i < length sequences → x ≡ get_or sequences i x → AllByRecursion (RepairsFit span input) (repairs_of index sequences) → RepairsFit span input (map (repair_of index) x.items)
sequence_fits index span input [] i x below at fits = absurd (omega arith)
sequence_fits {X = X} {S = S} {A = A} index span input (y ∷ ys) zero x below at fits =
    let P : Vec (ParseRepair X S) A → Type 0 = λ z. RepairsFit span input (map (repair_of index) z.items) in
    subst P (sym at) fits.0
sequence_fits index span input (y ∷ ys) (suc i) x below at fits = sequence_fits index span input ys i x (omega arith) at fits.1

-- one more sequence is listed
pub listed_next : {X S A : Type 0} (index : S → ℕ) (span : X → Extent) (names : ℕ → Option (List ℕ) → Type 0) (input : List ℕ) (most : ℕ)
    (sequences : List (Vec (ParseRepair X S) A)) (i : ℕ) (x : Vec (ParseRepair X S) A) (old out first text second : List ℕ)
    → i < length sequences → x ≡ get_or sequences i x → AreListed names input most (all_parts index span (take i sequences)) old out
    → IsPartsText names input (sequence_parts index span x.items) text → first ≡ out ++ numbering most (i + 1) → second ≡ first ++ text
    → AreListed names input most (all_parts index span (take (i + 1) sequences)) old second
listed_next index span names input most sequences i x old out first text second below at so_far is e₁ e₂ =
    let count : length (all_parts index span (take i sequences)) ≡ i = all_parts_length index span (take i sequences) ∙ taken_length sequences i below in
    let more = listed_more names input most i (all_parts index span (take i sequences)) (sequence_parts index span x.items) old out first text second so_far count is e₁ e₂ in
    rw (taken sequences i x below at, all_parts_append index span (take i sequences) (x ∷ [])) more

-- a fault of one sequence is a fault of all of them
pub fault_listed : {X S A : Type 0} (index : S → ℕ) (span : X → Extent) (names : ℕ → Option (List ℕ) → Type 0) (input : List ℕ) (most : ℕ)
    (sequences : List (Vec (ParseRepair X S) A)) (i : ℕ) (x : Vec (ParseRepair X S) A) (old out : List ℕ) (fault : PpFault S)
    → i < length sequences → x ≡ get_or sequences i x → AreListed names input most (all_parts index span (take i sequences)) old out
    → IsPpFault index names (inserted (sequence_parts index span x.items)) fault → IsPpFault index names (tokens_of span (repairs_of index sequences)) fault
fault_listed index span names input most sequences i x old out (NoPrintedName t) below at so_far first =
    let whole : all_parts index span sequences ≡ all_parts index span (take i sequences) ++ (sequence_parts index span x.items ∷ all_parts index span (drop (i + 1) sequences)) =
    ap (all_parts index span) (around sequences i x below at) ∙ all_parts_append index span (take i sequences) (x ∷ drop (i + 1) sequences) in
    let P : List (List Part) → Type 0 = λ ps. IsFirstUnnamed names (flat_map inserted ps) (index t.0) in
    subst P (sym whole) (unnamed_sequence names input most (all_parts index span (take i sequences)) (all_parts index span (drop (i + 1) sequences))
    (sequence_parts index span x.items) old out (index t.0) so_far first)
fault_listed index span names input most sequences i x old out Memory below at so_far first = tt

-- all sequences are listed
repaired : (most : ℕ) (texts : List (List ℕ)) → 0 < length texts → most ≡ digits (length texts) → codes " Repair sequences found:" ++ numbered most 1 texts ≡ repairs_text texts
repaired most [] full e = absurd (omega arith)
repaired most (text ∷ texts) full e = ap (λ n. codes " Repair sequences found:" ++ numbered n 1 (text ∷ texts)) e

pub listed_all : {X S A : Type 0} (index : S → ℕ) (span : X → Extent) (names : ℕ → Option (List ℕ) → Type 0) (input : List ℕ) (most : ℕ)
    (sequences : List (Vec (ParseRepair X S) A)) (i : ℕ) (old out : List ℕ)
    → length sequences ≤ i → AreListed names input most (all_parts index span (take i sequences)) old out
    → (texts : List (List ℕ)) × (out ≡ old ++ numbered most 1 texts) × AllZip (IsPartsText names input) (all_parts index span sequences) texts
listed_all index span names input most sequences i old out long so_far =
    (so_far.texts, so_far.printed, rw (sym (taken_all sequences i long)) so_far.each)

-- with the words `Repair sequences found:` before them, they are the text of an error
pub listed_after : {X S A : Type 0} (index : S → ℕ) (span : X → Extent) (names : ℕ → Option (List ℕ) → Type 0) (input : List ℕ) (most : ℕ)
    (sequences : List (Vec (ParseRepair X S) A)) (before old out : List ℕ)
    → 0 < length sequences → most ≡ digits (length sequences) → old ≡ before ++ codes " Repair sequences found:"
    → (texts : List (List ℕ)) × (out ≡ old ++ numbered most 1 texts) × AllZip (IsPartsText names input) (all_parts index span sequences) texts
    → (texts : List (List ℕ)) × (out ≡ before ++ repairs_text texts) × AllZip (IsPartsText names input) (all_parts index span sequences) texts
listed_after index span names input most sequences before old out full count begins (texts, printed, each) =
    let same : length texts ≡ length sequences = sym (zip_length (IsPartsText names input) (all_parts index span sequences) texts each) ∙ all_parts_length index span sequences in (
      texts,
      printed ∙ ap (λ o. o ++ numbered most 1 texts) begins ∙ append_assoc before (codes " Repair sequences found:") (numbered most 1 texts)
          ∙ ap (λ t. before ++ t) (repaired most texts (omega arith) (count ∙ ap digits (sym same))),
      each,
    )
