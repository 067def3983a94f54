-- Sets of tokens in a list, one for each rule, and what a walk over symbols adds to a set.
use Rattle.std.proofs.Common.{◌≡◌, ◌<◌, ◌+◌, ◌==◌, ◌||◌, ◌&&◌, ◌∙◌, ◌++◌, refl, sym, ap, subst, inl, inr, arith, ℕ, suc, Bool, true, false, List, [], ◌∷◌, All, length, map, set, drop, get_or, nat_lt}
use Rattle.std.proofs.Math.Bool.{or_assoc}
use Rattle.std.proofs.Math.Seq.{drop-cons}
use Rattle.std.proofs.lemmas.Bool.{cases_eq, cases_lt}
use Rattle.std.proofs.lemmas.List.{get_or_append_left, get_or_default, get_or-map, get_or_past, get_or_push, length-map, length_push}
use Rattle.std.proofs.lemmas.List.Elements.{All-push}
use Rattle.lrpar_grammar_places.specs.declared.span.Symbol.{Symbol}
use Rattle.lrpar_grammar.specs.Grammar.{GrammarSymbol, Nonterminal, Terminal}
use Rattle.lrpar_grammar.specs.Symbols.{symbol_of}
use Rattle.lrpar_grammar_places.proofs.ListLemmas.{All-map-at}
use Rattle.lrpar_table_first.specs.FirstRows.{HoldNothing, IsSymbolBelow, begins, row_at, rows_of}
use Rattle.lrpar_grammar.specs.Tokens.{IsEmptySet, has}
use Rattle.lrpar_grammar.specs.declared.token_set.TokenSet.{TokenSet}

-- the row of a rule is that of the set at its place
pub row_is : (sets : List TokenSet) (r : ℕ) (set : TokenSet) → r < length sets → set ≡ get_or sets r set → row_at (rows_of sets) r ≡ set
row_is sets r set within is = get_or_default sets r [] set within ∙ sym is

-- if all sets of a list have this room, each of them has it
pub wide_at : (sets : List TokenSet) (r n : ℕ) (set : TokenSet) → All (λ row. length row ≡ n) (rows_of sets) → r < length sets → set ≡ get_or sets r set
    → length set ≡ n
wide_at sets r n set wide within is =
    subst (λ s. length s ≡ n) (sym is) (wide r set within)

-- the symbols from a place on are the one there and those after it
pub symbols_from : {S : Type 0} (index : S → ℕ) (symbols : List (Symbol S)) (i : ℕ) (symbol : Symbol S) → i < length symbols → symbol ≡ get_or symbols i symbol
    → drop i (map (symbol_of index) symbols) ≡ symbol_of index symbol ∷ drop (i + 1) (map (symbol_of index) symbols)
symbols_from index symbols i symbol within is =
    let all = map (symbol_of index) symbols in
    let inside : i < length all = omega (arith, length-map symbols (symbol_of index)) in
    let here : get_or all i (symbol_of index symbol) ≡ symbol_of index symbol =
    get_or-map (symbol_of index) symbols i symbol (symbol_of index symbol) within ∙ ap (symbol_of index) (sym is) in
    let next : suc i ≡ i + 1 = omega arith in
    drop-cons all i (symbol_of index symbol) inside ∙ ap (λ s. s ∷ drop (suc i) all) here ∙ ap (λ n. symbol_of index symbol ∷ drop n all) next

or_nothing : (x : Bool) → (x || false) ≡ x
or_nothing true = refl
or_nothing false = refl

module _ (dummy : ℕ) (rows : List (List Bool)) (symbols : List GrammarSymbol) (i : ℕ) (old front new : List Bool)
    (so_far : (t : ℕ) → (has front t || begins dummy rows (drop i symbols) t) ≡ (has old t || begins dummy rows symbols t)) where
  -- a token ends the walk
  pub walk_token : (s : ℕ) (w : List GrammarSymbol) → drop i symbols ≡ Terminal s ∷ w → ((t : ℕ) → has new t ≡ (has front t || t == s))
      → (t : ℕ) → has new t ≡ (has old t || begins dummy rows symbols t)
  walk_token s w at put t = put t ∙ subst (λ x. (has front t || begins dummy rows x t) ≡ (has old t || begins dummy rows symbols t)) at (so_far t)

  -- a rule that isn't nullable ends it, too
  pub walk_rule : (r : ℕ) (w : List GrammarSymbol) → drop i symbols ≡ Nonterminal r ∷ w → has (row_at rows r) dummy ≡ false
      → ((t : ℕ) → has new t ≡ (has front t || (nat_lt t dummy && has (row_at rows r) t)))
      → (t : ℕ) → has new t ≡ (has old t || begins dummy rows symbols t)
  walk_rule r w at none put t =
      let own = nat_lt t dummy && has (row_at rows r) t in
      let ends : begins dummy rows (Nonterminal r ∷ w) t ≡ own = ap (λ b. own || (b && begins dummy rows w t)) none ∙ or_nothing own in
      put t ∙ ap (λ b. has front t || b) (sym ends)
      ∙ subst (λ x. (has front t || begins dummy rows x t) ≡ (has old t || begins dummy rows symbols t)) at (so_far t)

  -- the walk goes on past a nullable one
  pub walk_on : (r : ℕ) → drop i symbols ≡ Nonterminal r ∷ drop (i + 1) symbols → has (row_at rows r) dummy ≡ true
      → ((t : ℕ) → has new t ≡ (has front t || (nat_lt t dummy && has (row_at rows r) t)))
      → (t : ℕ) → (has new t || begins dummy rows (drop (i + 1) symbols) t) ≡ (has old t || begins dummy rows symbols t)
  walk_on r at through put t =
      let own = nat_lt t dummy && has (row_at rows r) t in
      let rest = begins dummy rows (drop (i + 1) symbols) t in
      let goes : begins dummy rows (Nonterminal r ∷ drop (i + 1) symbols) t ≡ (own || rest) = ap (λ b. own || (b && rest)) through in
      ap (λ b. b || rest) (put t) ∙ or_assoc (has front t) own rest ∙ ap (λ b. has front t || b) (sym goes)
      ∙ subst (λ x. (has front t || begins dummy rows x t) ≡ (has old t || begins dummy rows symbols t)) at (so_far t)

-- what all symbols of a list are, each is
pub symbol_below : {S : Type 0} (index : S → ℕ) (P : GrammarSymbol → Type 0) (symbols : List (Symbol S)) (i : ℕ) (symbol shown : Symbol S)
    → All P (map (symbol_of index) symbols) → i < length symbols → symbol ≡ get_or symbols i symbol → symbol ≡ shown → P (symbol_of index shown)
symbol_below index P symbols i symbol shown all within is shows =
    subst (λ s. P (symbol_of index s)) (sym is ∙ shows) (All-map-at P (symbol_of index) symbols all i symbol within)

-- where the walk meets a rule, by the set that is read for the rule: the symbols from there on, the rule's row, and what was added
pub rule_met : {S : Type 0} (index : S → ℕ) (dummy : ℕ) (sets : List TokenSet) (symbols : List (Symbol S)) (i : ℕ) (symbol : Symbol S) (r : ℕ) (set : TokenSet)
    (front new : List Bool) → All (IsSymbolBelow (length sets) dummy) (map (symbol_of index) symbols) → i < length symbols → symbol ≡ get_or symbols i symbol
    → symbol_of index symbol ≡ Nonterminal r → set ≡ get_or sets r set → ((t : ℕ) → has new t ≡ (has front t || (nat_lt t dummy && has set t)))
    → (drop i (map (symbol_of index) symbols) ≡ Nonterminal r ∷ drop (i + 1) (map (symbol_of index) symbols)) × (row_at (rows_of sets) r ≡ set)
    × ((t : ℕ) → has new t ≡ (has front t || (nat_lt t dummy && has (row_at (rows_of sets) r) t)))
rule_met index dummy sets symbols i symbol r set front new all within is shown read put =
    let rest = drop (i + 1) (map (symbol_of index) symbols) in
    let below = symbol_below index (IsSymbolBelow (length sets) dummy) symbols i symbol symbol all within is refl in
    let low : r < length sets = subst (IsSymbolBelow (length sets) dummy) shown below in
    let row = row_is sets r set low read in (
      symbols_from index symbols i symbol within is ∙ ap (λ s. s ∷ rest) shown,
      row,
      λ t. put t ∙ ap (λ bits. has front t || (nat_lt t dummy && has bits t)) (sym row),
    )

-- an empty set was added to empty sets
pub empty_added : (sets after : List TokenSet) (new : TokenSet) (count room : ℕ) → after ≡ sets ++ new ∷ [] → length sets ≡ count → HoldNothing (rows_of sets)
    → All (λ row. length row ≡ room) (rows_of sets) → length new ≡ room → IsEmptySet new
    → (length after ≡ count + 1) × HoldNothing (rows_of after) × All (λ row. length row ≡ room) (rows_of after)
empty_added sets after new count room pushed long none wide new_wide new_none =
    let more = length_push sets new in (
      ap length pushed ∙ more ∙ ap (λ n. n + 1) long,
      λ r t.
          subst (λ rows. has (row_at rows r) t ≡ false) (sym pushed)
          (elim (cases_lt r (length sets)) as (λ _. has (row_at (sets ++ new ∷ []) r) t ≡ false) [
            | inl early ↦ ap (λ bits. has bits t) (get_or_append_left sets (new ∷ []) [] r early) ∙ none r t
            | inr late ↦
                elim (cases_eq r (length sets)) as (λ _. has (row_at (sets ++ new ∷ []) r) t ≡ false) [
                  | inl last ↦ ap (λ bits. has bits t) (get_or_push sets new [] r (sym last)) ∙ new_none t
                  | inr past ↦
                      ap (λ bits. has bits t) (get_or_past (sets ++ new ∷ []) r [] (omega (arith, late, past, more)))
                ]
          ]),
      subst (λ rows. All (λ row. length row ≡ room) rows) (sym pushed) (All-push (λ (row : List Bool). length row ≡ room) sets new wide new_wide),
    )
