-- Texts that are written piece by piece.
use Rattle.std.proofs.Common.{◌≡◌, ◌∙◌, ℕ, Bool, false, List, [], ◌∷◌, ◌++◌, ap, sym, lit<, append_assoc, Result, Ok, Err, is_ok, OnOk, if◌then◌else◌}
use Rattle.std.specs.Prelude.{codes, encode_utf8}
use Rattle.std.specs.List.{flat_map}
use Rattle.std.proofs.lemmas.Str.{encode_ascii}
use Rattle.lrpar_conflict_derivations.specs.Example.{ExampleOf}
use Rattle.lrpar_conflict_examples.specs.Texts.{bound_text, count_text}

-- the text of one more thing
pub next_text : {A : Type 0} (f : A → List ℕ) (rest others : List A) (x : A) (out new whole : List ℕ) → rest ≡ x ∷ others → new ≡ out ++ f x
    → out ++ flat_map f rest ≡ whole → new ++ flat_map f others ≡ whole
next_text f rest others x out new whole parted written all =
    ap (λ o. o ++ flat_map f others) written ∙ append_assoc out (f x) (flat_map f others) ∙ ap (λ xs. out ++ flat_map f xs) (sym parted) ∙ all

-- a text is added, unless an allocation failed
pub added : {T E : Type 0} (r : Result T E) (new out text whole : List ℕ) → new ≡ (if is_ok r then out ++ text else out) → out ++ text ≡ whole → OnOk r (new ≡ whole)
added (Ok x) new out text whole e same = e ∙ same
added (Err x) new out text whole e same = tt

-- a piece after another
pub grown : (old first second x y : List ℕ) → first ≡ old ++ x → second ≡ first ++ y → second ≡ old ++ (x ++ y)
grown old first second x y e₁ e₂ = e₂ ∙ ap (λ o. o ++ y) e₁ ∙ append_assoc old x y

-- a line feed closes a whole
pub line_closed : {T E : Type 0} (r : Result T E) (old out new whole : List ℕ) → out ≡ old ++ whole → new ≡ (if is_ok r then out ++ encode_utf8 10 else out)
    → OnOk r (new ≡ old ++ (whole ++ 10 ∷ []))
line_closed r old out new whole all e =
    added r new out (encode_utf8 10) (old ++ (whole ++ 10 ∷ [])) e
    (ap (λ c. out ++ c) (encode_ascii 10 (lit< tt)) ∙ ap (λ o. o ++ 10 ∷ []) all ∙ append_assoc old whole (10 ∷ []))

-- four pieces
pub four : (old o₁ o₂ o₃ o₄ a b c d : List ℕ) → o₁ ≡ old ++ a → o₂ ≡ o₁ ++ b → o₃ ≡ o₂ ++ c → o₄ ≡ o₃ ++ d → o₄ ≡ old ++ (a ++ b ++ c ++ d)
four old o₁ o₂ o₃ o₄ a b c d e₁ e₂ e₃ e₄ = grown old o₃ o₄ (a ++ b ++ c) d (grown old o₂ o₃ (a ++ b) c (grown old o₁ o₂ a b e₁ e₂) e₃) e₄

-- and a line feed
pub four_pieces : {T E : Type 0} (r : Result T E) (old o₁ o₂ o₃ o₄ new a b c d : List ℕ) → o₁ ≡ old ++ a → o₂ ≡ o₁ ++ b → o₃ ≡ o₂ ++ c → o₄ ≡ o₃ ++ d
    → new ≡ (if is_ok r then o₄ ++ encode_utf8 10 else o₄) → OnOk r (new ≡ old ++ (a ++ b ++ c ++ d ++ 10 ∷ []))
four_pieces r old o₁ o₂ o₃ o₄ new a b c d e₁ e₂ e₃ e₄ e = line_closed r old o₄ new (a ++ b ++ c ++ d) (four old o₁ o₂ o₃ o₄ a b c d e₁ e₂ e₃ e₄) e

-- five pieces and a line feed
pub five_pieces : {T E : Type 0} (r : Result T E) (old o₁ o₂ o₃ o₄ o₅ new a b c d f : List ℕ) → o₁ ≡ old ++ a → o₂ ≡ o₁ ++ b → o₃ ≡ o₂ ++ c → o₄ ≡ o₃ ++ d
    → o₅ ≡ o₄ ++ f → new ≡ (if is_ok r then o₅ ++ encode_utf8 10 else o₅) → OnOk r (new ≡ old ++ (a ++ b ++ c ++ d ++ f ++ 10 ∷ []))
five_pieces r old o₁ o₂ o₃ o₄ o₅ new a b c d f e₁ e₂ e₃ e₄ e₅ e =
    line_closed r old o₅ new (a ++ b ++ c ++ d ++ f) (grown old o₄ o₅ (a ++ b ++ c ++ d) f (four old o₁ o₂ o₃ o₄ a b c d e₁ e₂ e₃ e₄) e₅) e

-- what holds of each tree, unless an allocation failed
pub on_ok_all : {T E X : Type 0} (P Q : X → Type 0) (r : Result T E) → ((x : X) → P x → OnOk r (Q x)) → OnOk r ((x : X) → P x → Q x)
on_ok_all P Q (Ok x) each = each
on_ok_all P Q (Err x) each = tt

-- that there are two texts is added
pub two_counted : {T E : Type 0} (r : Result T E) (x : ExampleOf) (old new : List ℕ) (n : ℕ) (flag : Bool) → flag ≡ x.ambiguous → flag ≡ false → n ≡ x.bound
    → OnOk r (new ≡ old ++ bound_text n) → OnOk r (new ≡ old ++ count_text x)
two_counted (Ok done) x old new n flag is none bound wrote =
    let two : x.ambiguous ≡ false = sym is ∙ none in
    let text : bound_text n ≡ count_text x =
    ap bound_text bound ∙ sym (ap (λ (b : Bool). if b then codes "one text, two derivations" else bound_text x.bound) two) in
    wrote ∙ ap (λ t. old ++ t) text
two_counted (Err fault) x old new n flag is none bound wrote = tt
