-- The tokens of a completion are those of the grammar other than the end token: they are leaves of trees, and no production of the
-- grammar has the end token.
use Rattle.std.proofs.Common.{◌<◌, sym, subst, ℕ, List, [], ◌∷◌, All, drop, get_or}
use Rattle.std.proofs.lemmas.List.Elements.{All-append, All-cons, All-drop, All-from_get_or, All-head, All-nil, All-tail}
use Rattle.std.proofs.lemmas.Option.{slice_get-get_or}
use Rattle.lrpar_grammar.specs.Grammar.{Grammar, GrammarSymbol, IsDeclaredSymbol, IsWellFormed, Nonterminal, Terminal, end_token, rule_of, rules_len, symbols_of}
use Rattle.lrpar_grammar.specs.Tree.{Tree, Forest, Leaf, Branch, Nil, Cons, leaves, forest_leaves}
use Rattle.lrpar_table_rows.specs.Table.{Table}
use Rattle.lrpar_table_build.proofs.ReachedLemmas.{symbol_listed}
use Rattle.lrpar_table_sentences.specs.Texts.{AreTreesOf, IsTreeOf}
use Rattle.lrpar_parse_completion.specs.Completing.{IsCompletion, IsTail, AtStart, Opened, Moved}

module _ (g : Grammar) (well : IsWellFormed g) where
  abbrev IsListed : GrammarSymbol → Type 0
  IsListed s = IsDeclaredSymbol (rules_len g) (end_token g) s

  abbrev IsBelowEnd : ℕ → Type 0
  IsBelowEnd t = t < end_token g

  symbols_listed : (p : ℕ) → All IsListed (symbols_of g p)
  symbols_listed p =
      let symbols = symbols_of g p in
      All-from_get_or IsListed symbols (Terminal 0)
      (λ i low. symbol_listed g well p i (get_or symbols i (Terminal 0)) (slice_get-get_or symbols i (Terminal 0) low))

  -- the leaves of trees of such symbols
  mutual
    leaves_listed : (tree : Tree ℕ) (s : GrammarSymbol) → IsTreeOf g s tree → IsListed s → All IsBelowEnd (leaves tree)
    leaves_listed (Leaf x) (Terminal t) fits listed = All-cons IsBelowEnd x [] (subst IsBelowEnd (sym fits) listed) (All-nil IsBelowEnd)
    leaves_listed (Leaf x) (Nonterminal r) fits listed = absurd fits
    leaves_listed (Branch p children) (Terminal t) fits listed = absurd fits
    leaves_listed (Branch p children) (Nonterminal r) fits listed = all_leaves_listed children (symbols_of g p) fits.2 (symbols_listed p)

    all_leaves_listed : (trees : Forest ℕ) (symbols : List GrammarSymbol) → AreTreesOf g symbols trees → All IsListed symbols
        → All IsBelowEnd (forest_leaves trees)
    all_leaves_listed Nil symbols fit listed = All-nil IsBelowEnd
    all_leaves_listed (Cons t ts) [] fit listed = absurd fit
    all_leaves_listed (Cons t ts) (s ∷ ss) fit listed =
        All-append IsBelowEnd (leaves t) (forest_leaves ts) (leaves_listed t s fit.0 (All-head IsListed s ss listed))
        (all_leaves_listed ts ss fit.1 (All-tail IsListed s ss listed))

  module _ (table : Table) where
    tail_listed : (st : List ℕ) (p k : ℕ) (tail : List ℕ) → IsTail g table st p k tail → All IsBelowEnd tail
    tail_listed _ _ _ _ AtStart = All-nil IsBelowEnd
    tail_listed _ _ _ _ (Opened st p q j w trees tail known waits shortest after) =
        let rest = subst (All IsListed) waits (All-drop IsListed j (symbols_of g q) (symbols_listed q)) in
        All-append IsBelowEnd (forest_leaves trees) tail
        (all_leaves_listed trees w shortest.fit (All-tail IsListed (Nonterminal (rule_of g p)) w rest)) (tail_listed st q j tail after)
    tail_listed _ _ _ _ (Moved st s next p k x tail top at goes after) = tail_listed st p k tail after

    pub completion_listed : (st tokens : List ℕ) → IsCompletion g table st tokens → All IsBelowEnd tokens
    completion_listed st tokens is =
        let rest = All-drop IsListed is.dot (symbols_of g is.prod) (symbols_listed is.prod) in
        let first = all_leaves_listed is.trees (drop is.dot (symbols_of g is.prod)) is.rest.fit rest in
        subst (All IsBelowEnd) (sym is.all)
        (All-append IsBelowEnd (forest_leaves is.trees) is.tail first (tail_listed st is.prod is.dot is.tail is.after))
