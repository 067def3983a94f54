-- The tokens and productions of trees of a grammar's symbols are the grammar's.
use Rattle.std.proofs.Common.{◌≡◌, ◌<◌, ◌∙◌, sym, ap, subst, arith, inl, inr, ℕ, suc, List, [], ◌∷◌}
use Rattle.std.specs.List.{All, AllByRecursion}
use Rattle.std.proofs.lemmas.Bool.{cases_lt}
use Rattle.lrpar_grammar_places.proofs.ListLemmas.{all_both}
use Rattle.lrpar_grammar.specs.Grammar.{Grammar, GrammarSymbol, IsDeclaredSymbol, IsWellFormed, Nonterminal, Terminal, end_token, prods_len, rules_len, start_prod, symbols_of, tokens_len}
use Rattle.lrpar_grammar.specs.Tree.{Forest, Tree, Branch, Cons, Leaf, Nil, forest_leaves, leaves}
use Rattle.lrpar_table_sentences.specs.Texts.{AreTreesOf, IsTreeOf}
use Rattle.lrpar_conflict_examples.specs.Fits.{AreTokensOf, IsSymbolOf}

-- a listed symbol is one of the grammar
listed : (g : Grammar) (s : GrammarSymbol) → IsDeclaredSymbol (rules_len g) (end_token g) s → IsSymbolOf g s
listed g (Nonterminal r) is = is.1
listed g (Terminal t) is = omega (arith, is)

all_listed : (g : Grammar) (symbols : List GrammarSymbol) → All (IsDeclaredSymbol (rules_len g) (end_token g)) symbols → AllByRecursion (IsSymbolOf g) symbols
all_listed g [] all = tt
all_listed g (s ∷ symbols) all = (listed g s (all 0 s (omega arith)), all_listed g symbols (λ k d h. all (suc k) d (omega (arith, h))))

-- and so is each symbol of a production
pub symbols_known : (g : Grammar) → IsWellFormed g → (p : ℕ) → p < prods_len g → AllByRecursion (IsSymbolOf g) (symbols_of g p)
symbols_known g well p known =
    elim (cases_lt p (start_prod g)) as (λ _. AllByRecursion (IsSymbolOf g) (symbols_of g p)) [
      | inl own ↦ all_listed g (symbols_of g p) (well.symbols p own)
      | inr last ↦
          let is : p ≡ start_prod g = omega (arith, known, last) in
          let symbols : symbols_of g p ≡ Nonterminal g.start ∷ [] = ap (symbols_of g) is ∙ well.last_symbols in
          subst (AllByRecursion (IsSymbolOf g)) (sym symbols) (well.start_within, tt)
    ]

-- the tokens of trees of such symbols are the grammar's
module _ (g : Grammar) (well : IsWellFormed g) where
  mutual
    pub leaves_known : (tree : Tree ℕ) (s : GrammarSymbol) → IsTreeOf g s tree → IsSymbolOf g s → AreTokensOf g (leaves tree)
    leaves_known (Leaf x) (Terminal t) fits known = (subst (λ n. n < tokens_len g) (sym fits) known, tt)
    leaves_known (Leaf x) (Nonterminal r) fits known = absurd fits
    leaves_known (Branch p children) (Terminal t) fits known = absurd fits
    leaves_known (Branch p children) (Nonterminal r) fits known = all_leaves_known children (symbols_of g p) fits.2 (symbols_known g well p fits.0)

    pub all_leaves_known : (trees : Forest ℕ) (symbols : List GrammarSymbol) → AreTreesOf g symbols trees → AllByRecursion (IsSymbolOf g) symbols
        → AreTokensOf g (forest_leaves trees)
    all_leaves_known Nil symbols fit known = tt
    all_leaves_known (Cons t ts) [] fit known = absurd fit
    all_leaves_known (Cons t ts) (s ∷ ss) fit known =
        all_both (λ x. x < tokens_len g) (leaves t) (forest_leaves ts) (leaves_known t s fit.0 known.0) (all_leaves_known ts ss fit.1 known.1)
