-- Numbers of symbols tell productions apart, and lists of productions keep the order of those that are spelled alike.
use Rattle.std.proofs.Common.{◌≡◌, ◌<◌, ◌+◌, ℕ, zero, suc, List, [], ◌∷◌, get_or, length, map, take, Some, ap, inl, inr, refl, subst, sym, ◌∙◌, arith}
use Rattle.std.specs.List.{All, range_with_len}
use Rattle.std.proofs.lemmas.Bool.{cases_lt}
use Rattle.std.proofs.lemmas.List.{get_or-map}
use Rattle.std.proofs.lemmas.List.Elements.{All-head, All-tail}
use Rattle.lrpar_grammar_reader.specs.Grammar.{Grammar, GrammarSymbol, IsDeclaredSymbol, Nonterminal, Terminal, end_token, rule_of, rules_len, start_prod, symbols_of}
use Rattle.lrpar_grammar.specs.Spelled.{IsTextOf, count_of, numbered_prods, numbers_at, numbers_of, symbol_number}
use Rattle.lrpar_grammar.specs.SpelledLaws.{ListingsKeepOrder, NumbersTellApart}
use Rattle.lrpar_grammar.proofs.CountLemmas.{count_between, count_front}
use Rattle.lrpar_grammar.proofs.ListingLemmas.{length-range, listed_len}
use Rattle.lrpar_grammar.proofs.ProdTextLemmas.{symbols_listed}

-- a symbol's number tells what it is
symbol_apart : (rules tokens : ℕ) (s t : GrammarSymbol) → IsDeclaredSymbol rules tokens s → IsDeclaredSymbol rules tokens t → symbol_number rules s ≡ symbol_number rules t → s ≡ t
symbol_apart rules tokens (Nonterminal r) (Nonterminal q) a b same = ap (λ n. Nonterminal n) same
symbol_apart rules tokens (Nonterminal r) (Terminal u) a b same = let within = a.1 in absurd (omega arith)
symbol_apart rules tokens (Terminal t) (Nonterminal q) a b same = let within = b.1 in absurd (omega arith)
symbol_apart rules tokens (Terminal t) (Terminal u) a b same = let is : t ≡ u = omega arith in ap (λ n. Terminal n) is

-- so do those of a list
symbols_apart : (rules tokens : ℕ) (xs ys : List GrammarSymbol) → All (IsDeclaredSymbol rules tokens) xs → All (IsDeclaredSymbol rules tokens) ys
    → map (symbol_number rules) xs ≡ map (symbol_number rules) ys → xs ≡ ys
symbols_apart rules tokens [] [] a b same = refl
symbols_apart rules tokens [] (y ∷ ys) a b same = absurd (cc)
symbols_apart rules tokens (x ∷ xs) [] a b same = absurd (cc)
symbols_apart rules tokens (x ∷ xs) (y ∷ ys) a b same =
    let first_number : symbol_number rules x ≡ symbol_number rules y = cc in
    let other_numbers : map (symbol_number rules) xs ≡ map (symbol_number rules) ys = cc in
    let first : x ≡ y = symbol_apart rules tokens x y (All-head (IsDeclaredSymbol rules tokens) x xs a) (All-head (IsDeclaredSymbol rules tokens) y ys b) first_number in
    let others : xs ≡ ys = symbols_apart rules tokens xs ys (All-tail (IsDeclaredSymbol rules tokens) x xs a) (All-tail (IsDeclaredSymbol rules tokens) y ys b) other_numbers in
    cc

pub numbers_tell_apart : NumbersTellApart
numbers_tell_apart g p q well p_within q_within = (
  λ same.
      let rule : rule_of g p ≡ rule_of g q = cc in
      let symbols : map (symbol_number (rules_len g)) (symbols_of g p) ≡ map (symbol_number (rules_len g)) (symbols_of g q) = cc in
      (rule, symbols_apart (rules_len g) (end_token g) (symbols_of g p) (symbols_of g q) (symbols_listed g p well p_within) (symbols_listed g q well q_within) symbols),
  λ same.
      let rule = same.0 in
      let symbols : map (symbol_number (rules_len g)) (symbols_of g p) ≡ map (symbol_number (rules_len g)) (symbols_of g q) = ap (map (symbol_number (rules_len g))) same.1 in
      cc,
)

-- one of the numbers from a on
range_at : (a n i d : ℕ) → i < n → get_or (range_with_len a n) i d ≡ a + i
range_at a zero i d within = absurd (omega arith)
range_at a (suc n) zero d within = omega arith
range_at a (suc n) (suc i) d within = range_at (a + 1) n i d (omega arith) ∙ omega arith

-- the numbers of a listed production
listed_at : (g : Grammar) (p : ℕ) → p < start_prod g → numbers_at (numbered_prods g) p ≡ numbers_of g p
listed_at g p within =
    let len = length-range 0 (start_prod g) in
    get_or-map (numbers_of g) (range_with_len 0 (start_prod g)) p 0 [] (omega arith) ∙ ap (numbers_of g) (range_at 0 (start_prod g) p 0 within ∙ omega arith)

-- of productions with the same numbers, the later one has the later text
later_text : (prods texts : List (List ℕ)) (p q t u : ℕ) → p < q → q < length prods → IsTextOf prods texts p t → IsTextOf prods texts q u
    → numbers_at prods p ≡ numbers_at prods q → t < u
later_text prods texts p q t u before within first second same =
    let x = numbers_at prods q in
    let prods_apart = count_between x prods p q before (omega arith) same in
    let nth : count_of x (take t texts) ≡ count_of x (take p prods) = subst (λ y. count_of y (take t texts) ≡ count_of y (take p prods)) same first.nth in
    let second_nth = second.nth in
    elim (cases_lt t u) [
      | inl less ↦ less
      | inr more ↦ let front = count_front x texts u t more in absurd (omega arith)
    ]

pub listings_keep_order : ListingsKeepOrder
listings_keep_order g texts places list p q t u before within p_at q_at =
    let first = list.each_prod p (omega arith) in
    let second = list.each_prod q within in
    let t_found : Some first.place ≡ Some t = sym first.at ∙ p_at in
    let u_found : Some second.place ≡ Some u = sym second.at ∙ q_at in
    let t_is : first.place ≡ t = cc in
    let u_is : second.place ≡ u = cc in
    let of_p : IsTextOf (numbered_prods g) list.spelled p t = subst (IsTextOf (numbered_prods g) list.spelled p) t_is first.is in
    let of_q : IsTextOf (numbered_prods g) list.spelled q u = subst (IsTextOf (numbered_prods g) list.spelled q) u_is second.is in
    let len = listed_len g in
    let q_within : q < length (numbered_prods g) = omega arith in
    let later = later_text (numbered_prods g) list.spelled p q t u before q_within of_p of_q in (
      λ same.
          let less = later (sym of_p.spells ∙ ap (numbers_at list.spelled) same ∙ of_q.spells) in
          omega arith,
      λ same. later (listed_at g p (omega arith) ∙ same ∙ sym (listed_at g q within)),
    )
