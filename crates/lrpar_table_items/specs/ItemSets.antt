-- Sets of LR(1) items, their closure and their gotos, as in Aho and Ullman, 'The Theory of Parsing, Translation, and Compiling'.
-- A set is a predicate: the items that are in it.
use Rattle.std.specs.Prelude.{◌≡◌, ◌<◌, ◌+◌, ℕ, List, [], ◌∷◌, Some, drop, slice_get}
use Rattle.lrpar_grammar.specs.Grammar.{Grammar, GrammarSymbol, Nonterminal, end_token, prods_len, rule_of, start_prod, symbols_of}
use Rattle.lrpar_table_rows.specs.Graph.{ItemOf, item_at}
use Rattle.lrpar_table_first.specs.First.{IsFirst}

-- the closure adds item y for item x, `A: v . B w  {t}`: each item `B: . u  {b}`, for a production of B and a token b of First(w, t)
pub record Adds (g : Grammar) (x y : ItemOf) : Type 0 where
  pub rule : ℕ
  pub rest : List GrammarSymbol
  pub before : drop x.dot (symbols_of g x.prod) ≡ Nonterminal rule ∷ rest
  pub known : y.prod < prods_len g
  pub of_rule : rule_of g y.prod ≡ rule
  pub fresh : y.dot ≡ 0
  pub first : IsFirst g x.token rest y.token

-- the closure of a set of items: the least set that has them, and all items that each of its items adds
pub data IsInClosure (g : Grammar) (items : ItemOf → Type 0) : ItemOf → Type 0 where
  Own : (x : ItemOf) → items x → IsInClosure g items x
  Added : (x y : ItemOf) → IsInClosure g items x → Adds g x y → IsInClosure g items y

-- an advanced item `A: v X . w  {t}`: `A: v . X w  {t}` is in the set
abbrev pub IsAdvanced : Grammar → (ItemOf → Type 0) → GrammarSymbol → ItemOf → Type 0
IsAdvanced g items s y =
    (x : ItemOf) × items x × (slice_get (symbols_of g x.prod) x.dot ≡ Some s) × (y ≡ item_at x.prod (x.dot + 1) x.token)

-- the goto of a set by a symbol: the closure of its items with this symbol after the dot, each advanced by one
abbrev pub IsInNext : Grammar → (ItemOf → Type 0) → GrammarSymbol → ItemOf → Type 0
IsInNext g items s = IsInClosure g (IsAdvanced g items s)

-- the start item `^: . S  {end}`
abbrev pub IsStartItem : Grammar → ItemOf → Type 0
IsStartItem g x = x ≡ item_at (start_prod g) 0 (end_token g)

-- the set that a path of symbols reaches, the path's last symbol first: from the closure of the start item, by one goto for each
-- symbol
abbrev pub IsReachedBy : Grammar → List GrammarSymbol → ItemOf → Type 0
IsReachedBy g [] = IsInClosure g (IsStartItem g)
IsReachedBy g (s ∷ path) = IsInNext g (IsReachedBy g path) s
