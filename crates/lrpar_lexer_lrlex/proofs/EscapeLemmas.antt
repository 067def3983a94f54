-- What is written for a character of a pattern.
use Rattle.std.proofs.Common.{◌≡◌, ℕ, ◌==◌, ◌&&◌, not, Bool, true, false, List, [], ◌∷◌, ◌++◌, encode_utf8, encode_utf8_all, sym, ◌∙◌, ap, append-nil, append_assoc}
use Rattle.std.proofs.lemmas.Bool.{cond-false, cond-true, true≢false}
use Rattle.lrpar_lexer_lrlex.specs.Escapes.{has_meaning, without_needless, written}

one_char : (c : ℕ) → encode_utf8_all (c ∷ []) ≡ encode_utf8 c
one_char c = append-nil (encode_utf8 c)

pub written_nothing : (e : Bool) (c : ℕ) (old : List ℕ) → (not e && c == 92) ≡ true → old ≡ old ++ encode_utf8_all (written e c)
written_nothing true c old is = absurd (true≢false (sym is))
written_nothing false c old is = sym (append-nil old) ∙ ap (λ cs. old ++ encode_utf8_all cs) (sym (cond-true (c == 92) [] (c ∷ []) is))

pub written_char : (e : Bool) (c : ℕ) (old new : List ℕ) → e ≡ false → (not e && c == 92) ≡ false → new ≡ old ++ encode_utf8 c
    → new ≡ old ++ encode_utf8_all (written e c)
written_char true c old new plain is push = absurd (true≢false plain)
written_char false c old new plain is push =
    push ∙ ap (λ b. old ++ b) (sym (one_char c)) ∙ ap (λ cs. old ++ encode_utf8_all cs) (sym (cond-false (c == 92) [] (c ∷ []) is))

pub written_escaped : (e : Bool) (c : ℕ) (old new : List ℕ) → e ≡ true → new ≡ old ++ encode_utf8_all (written true c)
    → new ≡ old ++ encode_utf8_all (written e c)
written_escaped e c old new is push = push ∙ ap (λ e. old ++ encode_utf8_all (written e c)) (sym is)

pub written_itself : (c : ℕ) (old new : List ℕ) → has_meaning c ≡ false → new ≡ old ++ encode_utf8 c → new ≡ old ++ encode_utf8_all (written true c)
written_itself c old new is push =
    push ∙ ap (λ b. old ++ b) (sym (one_char c))
    ∙ ap (λ cs. old ++ encode_utf8_all cs) (sym (cond-false (has_meaning c) (92 ∷ c ∷ []) (c ∷ []) is))

pub written_both : (c : ℕ) (old mid new : List ℕ) → has_meaning c ≡ true → mid ≡ old ++ encode_utf8 92 → new ≡ mid ++ encode_utf8 c
    → new ≡ old ++ encode_utf8_all (written true c)
written_both c old mid new is first second =
    second ∙ ap (λ b. b ++ encode_utf8 c) first ∙ append_assoc old (encode_utf8 92) (encode_utf8 c)
    ∙ ap (λ b. old ++ (encode_utf8 92 ++ b)) (sym (one_char c))
    ∙ ap (λ cs. old ++ encode_utf8_all cs) (sym (cond-true (has_meaning c) (92 ∷ c ∷ []) (c ∷ []) is))

pub written_end : (e : Bool) (old new : List ℕ) → e ≡ true → new ≡ old ++ encode_utf8 92 → new ≡ old ++ encode_utf8_all (without_needless e [])
written_end e old new is push =
    push ∙ ap (λ b. old ++ b) (sym (one_char 92)) ∙ ap (λ e. old ++ encode_utf8_all (without_needless e [])) (sym is)

pub written_no_end : (e : Bool) (old : List ℕ) → e ≡ false → old ≡ old ++ encode_utf8_all (without_needless e [])
written_no_end e old is = sym (append-nil old) ∙ ap (λ e. old ++ encode_utf8_all (without_needless e [])) (sym is)
