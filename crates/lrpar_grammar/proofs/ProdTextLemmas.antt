-- The symbols of productions, and the texts of these.
use Rattle.std.proofs.Common.{◌≡◌, ◌<◌, ◌+◌, ℕ, List, [], ◌∷◌, ◌++◌, append_assoc, get_or, length, map, take, ap, inl, inr, subst, sym, ◌∙◌, arith}
use Rattle.std.specs.List.{All, flat_map}
use Rattle.std.proofs.lemmas.Bool.{cases_lt}
use Rattle.std.proofs.lemmas.List.{flat_map_more}
use Rattle.std.proofs.lemmas.List.Elements.{All-cons, All-nil}
use Rattle.lrpar_grammar_places.proofs.ListLemmas.{map-take_more}
use Rattle.lrpar_grammar_reader.specs.Grammar.{Grammar, GrammarSymbol, IsDeclaredSymbol, IsWellFormed, Nonterminal, end_token, prods_len, rules_len, start_prod, symbols_of}
use Rattle.lrpar_grammar.specs.ProdText.{symbol_text}

-- the symbols of every production are listed
pub symbols_listed : (g : Grammar) (p : ℕ) → IsWellFormed g → p < prods_len g → All (IsDeclaredSymbol (rules_len g) (end_token g)) (symbols_of g p)
symbols_listed g p well within =
    elim (cases_lt p (start_prod g)) [
      | inl before ↦ well.symbols p before
      | inr last ↦
          let is : p ≡ start_prod g = omega arith in
          subst (All (IsDeclaredSymbol (rules_len g) (end_token g))) (sym (ap (symbols_of g) is ∙ well.last_symbols))
          (All-cons (IsDeclaredSymbol (rules_len g) (end_token g)) (Nonterminal g.start) [] (well.start_added, well.start_within) (All-nil (IsDeclaredSymbol (rules_len g) (end_token g))))
    ]

-- one more symbol
pub text_more : (g : Grammar) {S : Type 0} (symbol_of : S → GrammarSymbol) (items : List S) (i : ℕ) (item : S) (head before spaced after : List ℕ)
    → i < length items → item ≡ get_or items i item
    → before ≡ head ++ (58 ∷ flat_map (λ s. 32 ∷ symbol_text g s) (map symbol_of (take i items)))
    → spaced ≡ before ++ 32 ∷ [] → after ≡ spaced ++ symbol_text g (symbol_of item)
    → after ≡ head ++ (58 ∷ flat_map (λ s. 32 ∷ symbol_text g s) (map symbol_of (take (i + 1) items)))
text_more g symbol_of items i item head before spaced after within is so_far space text =
    let f : GrammarSymbol → List ℕ = λ s. 32 ∷ symbol_text g s in
    let seen = map symbol_of (take i items) in
    let word = symbol_text g (symbol_of item) in
    text ∙ ap (λ s. s ++ word) space ∙ append_assoc before (32 ∷ []) word ∙ ap (λ s. s ++ (32 ∷ word)) so_far
    ∙ append_assoc head (58 ∷ flat_map f seen) (32 ∷ word)
    ∙ ap (λ s. head ++ s) (flat_map_more f (58 ∷ []) seen (symbol_of item))
    ∙ ap (λ s. head ++ (58 ∷ flat_map f s)) (sym (map-take_more symbol_of items i item within is))
