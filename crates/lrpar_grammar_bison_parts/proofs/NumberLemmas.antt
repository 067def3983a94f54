-- Numbers of tokens, one after another.
use Rattle.std.proofs.Common.{◌≡◌, ◌<◌, ◌+◌, ℕ, List, Bool, true, false, cond, bytes_eq, nat_cmp, map, drop, get_or, length, Bor, Option, Some, None, option_map, refl, ap, ◌∙◌}
use Rattle.std.specs.BTreeMap.{BTreeMap, get_by}
use Rattle.std.specs.Cmp.Lexicographic.{slice_cmp}
use Rattle.std.specs.List.{find}
use Rattle.std.specs.Map.{update}
use Rattle.std.specs.Option.{option_map_or}
use Rattle.std.proofs.lemmas.List.{drop_more}
use Rattle.lrpar_grammar_bison.specs.Numbers.{token_number}
use Rattle.lrpar_grammar_bison.specs.Words.{PlacedWord}
use Rattle.lrpar_grammar_bison_rules.specs.declared.rules.TokenNumber.{TokenNumber}
use Rattle.lrpar_grammar_bison_rules.specs.Rules.{FileNumber, number_of}
use Rattle.lrpar_grammar_bison_parts.specs.declared.faults.BisonFault.{BisonFault}
use Rattle.lrpar_grammar_bison_parts.specs.declared.faults.BisonFault.TheVariants.{BadNumber, RepeatedNumber}
use Rattle.lrpar_grammar_bison_parts.specs.Numbers.{MapsNumbers, NumberedToken, fault_after, has_other, with_number}

-- the number of a token, or that of one of the others
of_first : (b : Bool) (x : NumberedToken) (found : Option NumberedToken)
    → cond b (Some x.number) (option_map (λ (y : NumberedToken). y.number) found) ≡ option_map (λ (y : NumberedToken). y.number) (cond b (Some x) found)
of_first true x found = refl
of_first false x found = refl

-- the numbers that a map has, with one more
pub number_more : (m n : BTreeMap (Bor (List ℕ)) ℕ) (tokens : List NumberedToken) (token : PlacedWord) (number : ℕ) → MapsNumbers m tokens
    → ((q : List ℕ) → get_by (λ k. slice_cmp nat_cmp q k.now) n ≡ update bytes_eq (λ ds. get_by (λ k. slice_cmp nat_cmp ds k.now) m) token.name (Some number) q)
    → MapsNumbers n (with_number tokens token number)
number_more m n tokens token number maps puts q =
    puts q ∙ ap (cond (bytes_eq token.name q) (Some number)) (maps q)
    ∙ of_first (bytes_eq token.name q) (record { name = token.name; number = number }) (find (λ (x : NumberedToken). bytes_eq x.name q) tokens)

module _ (tokens : List NumberedToken) (numbers : List TokenNumber) (i : ℕ) (d : TokenNumber) (within : i < length numbers) where
  -- the number that is next
  abbrev next : FileNumber
  next = number_of (get_or numbers i d)

  abbrev rest : List FileNumber
  rest = map number_of (drop (i + 1) numbers)

  -- what comes of a number
  abbrev by_number : Option ℕ → Option BisonFault
  by_number found =
      option_map_or (λ (n : ℕ). cond (has_other tokens next.token n) (Some (RepeatedNumber next.number.span)) (fault_after (with_number tokens next.token n) rest)) found
      (Some (BadNumber next.number.span))

  here : fault_after tokens (map number_of (drop i numbers)) ≡ by_number (token_number next.number.name)
  here = ap (λ s. fault_after tokens (map number_of s)) (drop_more numbers i d within)

  -- a number that no token can have
  pub number_bad : token_number next.number.name ≡ None → fault_after tokens (map number_of (drop i numbers)) ≡ Some (BadNumber next.number.span)
  number_bad is = here ∙ ap by_number is

  -- a number by what its token has
  with_test : (n : ℕ) (b : Bool) → token_number next.number.name ≡ Some n → has_other tokens next.token n ≡ b
      → fault_after tokens (map number_of (drop i numbers)) ≡ cond b (Some (RepeatedNumber next.number.span)) (fault_after (with_number tokens next.token n) rest)
  with_test n b is other =
      here ∙ ap by_number is ∙ ap (λ b. cond b (Some (RepeatedNumber next.number.span)) (fault_after (with_number tokens next.token n) rest)) other

  -- a number of a token that has another one
  pub number_repeated : (n : ℕ) → token_number next.number.name ≡ Some n → has_other tokens next.token n ≡ true
      → fault_after tokens (map number_of (drop i numbers)) ≡ Some (RepeatedNumber next.number.span)
  number_repeated n is other = with_test n true is other

  -- one more number
  pub number_next : (n : ℕ) → token_number next.number.name ≡ Some n → has_other tokens next.token n ≡ false
      → fault_after tokens (map number_of (drop i numbers)) ≡ fault_after (with_number tokens next.token n) (map number_of (drop (i + 1) numbers))
  number_next n is other = with_test n false is other
