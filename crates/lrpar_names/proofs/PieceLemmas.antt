-- The pieces of a part, one after the other.
use Rattle.std.proofs.Common.{◌≡◌, ℕ, ◌+◌, ◌-◌, ◌<◌, ◌≤◌, ◌==◌, nat_lt, not, List, [], ◌∷◌, length, Option, Some, None, option_map, Result, Ok, Err, inl, inr, sym, subst, ◌∙◌, ap, refl, arith, length-drop, length-take-le, take_all}
use Rattle.std.specs.List.{after_first, before_first, onto_first, position_or_len, slice_split}
use Rattle.std.proofs.lemmas.Bool.{cases_Bool, cond-false, cond-true}
use Rattle.std.proofs.lemmas.Bool.Decides.{nat_tests}
use Rattle.std.proofs.lemmas.List.Splits.{slice_split-cons_no, slice_split_first}
use Rattle.lrpar_names.specs.declared.fault.NamesFault.{NamesFault}
use Rattle.lrpar_names.specs.declared.part.Part as code
use Rattle.lrpar_names.specs.Faults.{◌>>=◌}
use Rattle.lrpar_names.specs.Parts.{Part, after_cut, before_cut, pieces, pieces_left, plain, parts_from, trimmed}

-- a list without such a byte is one piece
one_piece : (byte : ℕ) (bytes : List ℕ) → length bytes ≤ position_or_len (λ b. b == byte) bytes → slice_split (λ b. b == byte) bytes ≡ bytes ∷ []
one_piece byte [] long = refl
one_piece byte (b ∷ bytes) long = elim (cases_Bool (b == byte)) [
  | inl same ↦
      let none : position_or_len (λ b. b == byte) (b ∷ bytes) ≡ 0 =
      cond-false (not (b == byte)) (1 + position_or_len (λ b. b == byte) bytes) 0 (ap not same) in
      absurd (omega (arith, long, none))
  | inr other ↦
      let more : position_or_len (λ b. b == byte) (b ∷ bytes) ≡ 1 + position_or_len (λ b. b == byte) bytes =
      cond-true (not (b == byte)) (1 + position_or_len (λ b. b == byte) bytes) 0 (ap not other) in
      let rest : length bytes ≤ position_or_len (λ b. b == byte) bytes = omega (arith, long, more) in
      slice_split-cons_no (λ b. b == byte) b bytes other ∙ ap (onto_first b) (one_piece byte bytes rest)
]

-- the first piece, and what is left
pub pieces_step : (byte : ℕ) (p : Part) → pieces byte p ≡ before_cut byte p ∷ pieces_left byte (after_cut byte p)
pieces_step byte p =
    let at : ℕ = position_or_len (λ b. b == byte) p.bytes in
    let rest : Part = record { start = p.start + (at + 1); bytes = after_first (λ b. b == byte) p.bytes } in
    elim (cases_Bool (nat_lt at (length p.bytes))) [
      | inl some ↦
          let within : at < length p.bytes = grind (arith, nat_tests, some) in
          let len : length (before_first (λ b. b == byte) p.bytes) ≡ at = length-take-le at p.bytes (omega arith) in
          ap (parts_from p.start) (slice_split_first (λ b. b == byte) p.bytes 0 within)
          ∙ ap (λ n. before_cut byte p ∷ parts_from (p.start + (n + 1)) (slice_split (λ b. b == byte) rest.bytes)) len
          ∙ ap (λ o. before_cut byte p ∷ pieces_left byte o) (sym (cond-true (nat_lt at (length p.bytes)) (Some rest) None some))
      | inr none ↦
          let long : length p.bytes ≤ at = grind (arith, nat_tests, none) in
          ap (parts_from p.start) (one_piece byte p.bytes long)
          ∙ ap (λ b. record { start = p.start; bytes = b } ∷ []) (sym (take_all at p.bytes long))
          ∙ ap (λ o. before_cut byte p ∷ pieces_left byte o) (sym (cond-false (nat_lt at (length p.bytes)) (Some rest) None none))
    ]

-- a measure of what is left
abbrev pub left_len : Option Part → ℕ
left_len None = 0
left_len (Some p) = length p.bytes + 1

pub left_smaller : (byte : ℕ) (p : Part) → left_len (after_cut byte p) < length p.bytes + 1
left_smaller byte p =
    let at : ℕ = position_or_len (λ b. b == byte) p.bytes in
    let rest : Part = record { start = p.start + (at + 1); bytes = after_first (λ b. b == byte) p.bytes } in
    elim (cases_Bool (nat_lt at (length p.bytes))) [
      | inl some ↦
          let within : at < length p.bytes = grind (arith, nat_tests, some) in
          let len : length rest.bytes ≡ length p.bytes - (at + 1) = length-drop (at + 1) p.bytes in
          let less : length rest.bytes + 1 < length p.bytes + 1 = omega arith in
          subst (λ o. left_len o < length p.bytes + 1) (sym (cond-true (nat_lt at (length p.bytes)) (Some rest) None some)) less
      | inr none ↦
          let less : 0 < length p.bytes + 1 = omega arith in
          subst (λ o. left_len o < length p.bytes + 1) (sym (cond-false (nat_lt at (length p.bytes)) (Some rest) None none)) less
    ]

-- what is left after a piece is less than before
pub smaller : (byte : ℕ) (left rest : Option code.Part) (part : code.Part) → left ≡ Some part → option_map (λ p. plain p) rest ≡ after_cut byte (plain part)
    → left_len (option_map (λ p. plain p) rest) < left_len (option_map (λ p. plain p) left)
smaller byte left rest part is cut =
    subst (λ (o : Option code.Part). left_len (option_map (λ p. plain p) rest) < left_len (option_map (λ p. plain p) o)) (sym is)
    (subst (λ o. left_len o < length part.text.now + 1) (sym cut) (left_smaller byte (plain part)))

-- What is done with each piece in turn: `left` was left, and `core` is its first piece without what is white at its ends.
module _ {A B : Type 0} (byte : ℕ) (run : A → List Part → Result B NamesFault) (step : A → Part → Result A NamesFault) (a : A)
    (left rest : Option code.Part) (part piece core : code.Part) (total : Result B NamesFault) (is : left ≡ Some part)
    (first : plain piece ≡ before_cut byte (plain part)) (cut : option_map (λ p. plain p) rest ≡ after_cut byte (plain part))
    (ends : plain core ≡ trimmed (plain piece))
    (unfolds : run a (before_cut byte (plain part) ∷ pieces_left byte (after_cut byte (plain part)))
    ≡ (step a (trimmed (before_cut byte (plain part))) >>= λ b. run b (pieces_left byte (after_cut byte (plain part)))))
    (so_far : run a (pieces_left byte (option_map (λ p. plain p) left)) ≡ total) where
  stepped : (step a (plain core) >>= λ b. run b (pieces_left byte (after_cut byte (plain part)))) ≡ total
  stepped =
      ap (λ p. step a p >>= λ b. run b (pieces_left byte (after_cut byte (plain part)))) (ends ∙ ap trimmed first) ∙ sym unfolds
      ∙ sym (ap (run a) (pieces_step byte (plain part)))
      ∙ ap (λ (o : Option code.Part). run a (pieces_left byte (option_map (λ p. plain p) o))) (sym is) ∙ so_far

  pub goes_on : (b : A) → step a (plain core) ≡ Ok b → run b (pieces_left byte (option_map (λ p. plain p) rest)) ≡ total
  goes_on b does =
      ap (λ o. run b (pieces_left byte o)) cut ∙ sym (ap (λ r. r >>= λ c. run c (pieces_left byte (after_cut byte (plain part)))) does) ∙ stepped

  pub goes_out : (fault : NamesFault) → step a (plain core) ≡ Err fault → total ≡ Err fault
  goes_out fault does = sym stepped ∙ ap (λ r. r >>= λ c. run c (pieces_left byte (after_cut byte (plain part)))) does
