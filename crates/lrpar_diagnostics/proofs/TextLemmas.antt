-- Texts that are written piece by piece.
use Rattle.std.proofs.Common.{◌≡◌, ◌∙◌, ℕ, List, [], ◌∷◌, ◌++◌, ap, sym, lit<, append_assoc, map, Result, Ok, Err, is_ok, OnOk, if◌then◌else◌}
use Rattle.std.specs.Prelude.{encode_utf8}
use Rattle.std.specs.List.{AllByRecursion, flat_map}
use Rattle.std.proofs.lemmas.Str.{encode_ascii}

-- a text is added, unless an allocation failed
pub added : {T E : Type 0} (r : Result T E) (new out text whole : List ℕ) → new ≡ (if is_ok r then out ++ text else out) → out ++ text ≡ whole → OnOk r (new ≡ whole)
added (Ok x) new out text whole e same = e ∙ same
added (Err x) new out text whole e same = tt

-- the next two pieces of what is left are written
pub two_pieces : (out first second x y rest whole : List ℕ) → first ≡ out ++ x → second ≡ first ++ y → out ++ (x ++ y ++ rest) ≡ whole → second ++ rest ≡ whole
two_pieces out first second x y rest whole e₁ e₂ all =
    ap (λ o. o ++ rest) (e₂ ∙ ap (λ o. o ++ y) e₁ ∙ append_assoc out x y) ∙ append_assoc out (x ++ y) rest ∙ all

-- a piece after another
pub grown : (old first second x y : List ℕ) → first ≡ old ++ x → second ≡ first ++ y → second ≡ old ++ (x ++ y)
grown old first second x y e₁ e₂ = e₂ ∙ ap (λ o. o ++ y) e₁ ∙ append_assoc old x y

-- a space and a message close a whole
pub closed : {T E : Type 0} (r : Result T E) (old out first second whole message : List ℕ) → out ≡ old ++ whole → first ≡ out ++ encode_utf8 32
    → second ≡ (if is_ok r then first ++ message else first) → OnOk r (second ≡ old ++ (whole ++ 32 ∷ message))
closed r old out first second whole message all e₁ e₂ =
    added r second first message (old ++ (whole ++ 32 ∷ message)) e₂
    (ap (λ o. o ++ message) (e₁ ∙ ap (λ c. out ++ c) (encode_ascii 32 (lit< tt)) ∙ ap (λ o. o ++ 32 ∷ []) all)
    ∙ append_assoc (old ++ whole) (32 ∷ []) message ∙ append_assoc old whole (32 ∷ message))

-- a line feed closes a whole
pub line_closed : {T E : Type 0} (r : Result T E) (out new whole : List ℕ) → new ≡ (if is_ok r then out ++ encode_utf8 10 else out) → out ++ 10 ∷ [] ≡ whole → OnOk r (new ≡ whole)
line_closed r out new whole e same = added r new out (encode_utf8 10) whole e (ap (λ c. out ++ c) (encode_ascii 10 (lit< tt)) ∙ same)

-- four pieces and a line feed
pub four_pieces : {T E : Type 0} (r : Result T E) (old o₁ o₂ o₃ o₄ new a b c d : List ℕ) → o₁ ≡ old ++ a → o₂ ≡ o₁ ++ b → o₃ ≡ o₂ ++ c → o₄ ≡ o₃ ++ d
    → new ≡ (if is_ok r then o₄ ++ encode_utf8 10 else o₄) → OnOk r (new ≡ old ++ (a ++ b ++ c ++ d ++ 10 ∷ []))
four_pieces r old o₁ o₂ o₃ o₄ new a b c d e₁ e₂ e₃ e₄ e =
    let all = grown old o₃ o₄ (a ++ b ++ c) d (grown old o₂ o₃ (a ++ b) c (grown old o₁ o₂ a b e₁ e₂) e₃) e₄ in
    line_closed r o₄ new (old ++ (a ++ b ++ c ++ d ++ 10 ∷ [])) e (ap (λ o. o ++ 10 ∷ []) all ∙ append_assoc old (a ++ b ++ c ++ d) (10 ∷ []))

-- the text of one more thing
pub next_text : {A : Type 0} (f : A → List ℕ) (rest others : List A) (x : A) (out new whole : List ℕ) → rest ≡ x ∷ others → new ≡ out ++ f x
    → out ++ flat_map f rest ≡ whole → new ++ flat_map f others ≡ whole
next_text f rest others x out new whole parted written all =
    ap (λ o. o ++ flat_map f others) written ∙ append_assoc out (f x) (flat_map f others) ∙ ap (λ xs. out ++ flat_map f xs) (sym parted) ∙ all

-- the texts of the first things are written: with those of the things that are left, the text so far is the whole
pub record AreWritten {X A : Type 0} (Fits : A → Type 0) (text_of : A → List ℕ) (plain : X → A) (all rest : List X) (old out : List ℕ) : Type 0 where
  pub fit : AllByRecursion Fits (map plain rest)
  pub whole : out ++ flat_map text_of (map plain rest) ≡ old ++ flat_map text_of (map plain all)

-- so are they with the next thing
pub written_more : {X A : Type 0} (Fits : A → Type 0) (text_of : A → List ℕ) (plain : X → A) (all rest others : List X) (x : X) (old out new : List ℕ)
    → rest ≡ x ∷ others → new ≡ out ++ text_of (plain x) → AreWritten Fits text_of plain all rest old out → AreWritten Fits text_of plain all others old new
written_more Fits text_of plain all rest others x old out new parted written before =
    let fit = rw parted at before.fit in
    record {
      fit = fit.1;
      whole = next_text text_of (map plain rest) (map plain others) (plain x) out new _ (ap (map plain) parted) written before.whole;
    }
