-- The symbols of a production, and which of them is the first after a dot.
use Rattle.std.proofs.Common.{◌≡◌, ◌<◌, ◌≤◌, ◌+◌, ◌-◌, ◌∙◌, sym, ap, subst, inl, inr, arith, ℕ, suc, List, [], ◌∷◌, All, length, map, drop, take}
use Rattle.std.proofs.lemmas.Bool.{cases_lt}
use Rattle.std.proofs.lemmas.List.{drop-map, length-drop, length-map, take_all}
use Rattle.std.proofs.lemmas.List.Elements.{All-cons, All-drop, All-head, All-nil, All-tail, All-weaker}
use Rattle.std.specs.List.{IsFirstAndRest}
use Rattle.lrpar_grammar_places.specs.declared.span.Symbol.{Symbol}
use Rattle.lrpar_grammar.specs.Grammar.{Grammar, GrammarSymbol, IsDeclaredSymbol, IsWellFormed, Nonterminal, Terminal, end_token, prods_len, rules_len, start_prod, symbols_of, tokens_len}
use Rattle.lrpar_grammar.specs.Symbols.{symbol_of}
use Rattle.lrpar_table_first.specs.FirstRows.{IsSymbolBelow}

-- a production whose first symbol was split off
pub begins_by : {S : Type 0} (index : S → ℕ) (symbols rest : List (Symbol S)) (first shown : Symbol S) → IsFirstAndRest symbols first rest → first ≡ shown
    → map (symbol_of index) symbols ≡ symbol_of index shown ∷ map (symbol_of index) rest
begins_by index symbols rest first shown split shows = ap (map (symbol_of index)) split.0 ∙ ap (λ s. symbol_of index s ∷ map (symbol_of index) rest) shows

-- the symbols of a production from a place on, after the first of them was split off
pub after_by : {S : Type 0} (index : S → ℕ) (symbols rest : List (Symbol S)) (first shown : Symbol S) (all : List GrammarSymbol) (k : ℕ)
    → map (symbol_of index) symbols ≡ all → IsFirstAndRest (take (length symbols - k) (drop k symbols)) first rest → first ≡ shown
    → drop k all ≡ symbol_of index shown ∷ map (symbol_of index) rest
after_by index symbols rest first shown all k is split shows =
    let long : length (drop k symbols) ≤ length symbols - k = let exact = length-drop k symbols in omega (arith, exact) in
    let whole = take_all (length symbols - k) (drop k symbols) long in
    ap (drop k) (sym is) ∙ drop-map (symbol_of index) k symbols ∙ begins_by index (drop k symbols) rest first shown (subst (λ xs. IsFirstAndRest xs first rest) whole split) shows

-- if nothing is left of them, or a token comes first, no rule comes first
pub nothing_after : {S : Type 0} (index : S → ℕ) (symbols : List (Symbol S)) (all : List GrammarSymbol) (k : ℕ) → map (symbol_of index) symbols ≡ all
    → length (take (length symbols - k) (drop k symbols)) ≡ 0 → (r : ℕ) (w : List GrammarSymbol) → drop k all ≡ Nonterminal r ∷ w → ⊥
nothing_after index symbols all k is none r w begins =
    let long : length (drop k symbols) ≤ length symbols - k = let exact = length-drop k symbols in omega (arith, exact) in
    let whole = take_all (length symbols - k) (drop k symbols) long in
    let shown : length (drop k symbols) ≡ 0 = subst (λ xs. length xs ≡ 0) whole none in
    let one : length (drop k symbols) ≡ suc (length w) =
    sym (length-map (drop k symbols) (symbol_of index)) ∙ ap length (sym (drop-map (symbol_of index) k symbols) ∙ ap (drop k) is ∙ begins) in
    omega (arith, shown, one)

pub token_after : (k t : ℕ) (all rest : List GrammarSymbol) → drop k all ≡ Terminal t ∷ rest → (r : ℕ) (w : List GrammarSymbol) → drop k all ≡ Nonterminal r ∷ w → ⊥
token_after k t all rest begins r w begins' = let both = sym begins ∙ begins' in absurd cc

symbol_weaker : (rules tokens : ℕ) (s : GrammarSymbol) → IsDeclaredSymbol rules tokens s → IsSymbolBelow rules (tokens + 1) s
symbol_weaker rules tokens (Nonterminal r) h = h.1
symbol_weaker rules tokens (Terminal t) h = omega (arith, h)

-- each symbol of a production is a rule of the grammar, or a token below the dummy lookahead
pub prod_symbols : (g : Grammar) → IsWellFormed g → (p : ℕ) → p < prods_len g → All (IsSymbolBelow (rules_len g) (tokens_len g)) (symbols_of g p)
prod_symbols g well p known =
    let weaker : (s : GrammarSymbol) → IsDeclaredSymbol (rules_len g) (end_token g) s → IsSymbolBelow (rules_len g) (tokens_len g) s = symbol_weaker (rules_len g) (end_token g) in
    elim (cases_lt p (start_prod g)) [
      | inl listed ↦ All-weaker (IsDeclaredSymbol (rules_len g) (end_token g)) (IsSymbolBelow (rules_len g) (tokens_len g)) weaker (symbols_of g p) (well.symbols p listed)
      | inr last ↦
          let is : start_prod g ≡ p = omega (arith, known, last) in
          subst (λ n. All (IsSymbolBelow (rules_len g) (tokens_len g)) (symbols_of g n)) is
          (subst (All (IsSymbolBelow (rules_len g) (tokens_len g))) (sym well.last_symbols)
          (All-cons (IsSymbolBelow (rules_len g) (tokens_len g)) (Nonterminal g.start) [] well.start_within (All-nil (IsSymbolBelow (rules_len g) (tokens_len g)))))
    ]

-- a rule in a production is one of the grammar, and so are the symbols after it
pub after_listed : (g : Grammar) → IsWellFormed g → (p k r : ℕ) (w : List GrammarSymbol) → p < prods_len g → drop k (symbols_of g p) ≡ Nonterminal r ∷ w
    → (r < rules_len g) × All (IsSymbolBelow (rules_len g) (tokens_len g)) w
after_listed g well p k r w known begins =
    let below = IsSymbolBelow (rules_len g) (tokens_len g) in
    let all : All below (Nonterminal r ∷ w) = subst (All below) begins (All-drop below k (symbols_of g p) (prod_symbols g well p known)) in
    (All-head below (Nonterminal r) w all, All-tail below (Nonterminal r) w all)
