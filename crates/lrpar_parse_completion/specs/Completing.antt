-- The completion of a stack: tokens that, fed one after the other, lead from the stack to one that accepts. They are minimal sentences of
-- the symbols after the dots of a chain of items, from the top of the stack down to the start item. Items are written as in Safe.antt.
use Rattle.std.specs.Prelude.{◌≡◌, ◌<◌, ◌+◌, ℕ, List, [], ◌∷◌, ◌++◌, Some, drop, slice_get}
use Rattle.lrpar_grammar.specs.Grammar.{Grammar, GrammarSymbol, Nonterminal, prods_len, rule_of, start_prod, symbols_of}
use Rattle.lrpar_grammar.specs.Tree.{Forest, forest_leaves}
use Rattle.lrpar_table_rows.specs.Safe.{GoesBy}
use Rattle.lrpar_table_rows.specs.Table.{Table}
use Rattle.lrpar_table_sentences.specs.Texts.{AreShortestTrees}
use Rattle.lrpar_table_stacks.specs.Run.{Accepted, Far}
use Rattle.lrpar_table_stacks.specs.Stack.{top_of}

-- the run over the tokens, from the stack on, accepts
abbrev pub Completes : Grammar → Table → List ℕ → List ℕ → Type 0
Completes g table st tokens = (prods : List ℕ) × Far (λ (t : ℕ). t) g table tokens st 0 prods Accepted

-- What comes after production p, the first k symbols of which are the top ones of the stack
pub data IsTail (g : Grammar) (table : Table) : List ℕ → ℕ → ℕ → List ℕ → Type 0 where
  -- after the start production: nothing
  AtStart : IsTail g table (table.start ∷ []) (start_prod g) 0 []
  -- after `A: . v`, for which the item `B: u . A w` waits: a minimal sentence of w, and then what comes after B's production
  Opened : (st : List ℕ) (p q j : ℕ) (w : List GrammarSymbol) (trees : Forest ℕ) (tail : List ℕ) → p < prods_len g
      → drop j (symbols_of g q) ≡ Nonterminal (rule_of g p) ∷ w → AreShortestTrees g w trees → IsTail g table st q j tail
      → IsTail g table st p 0 (forest_leaves trees ++ tail)
  -- after `A: v X . w`: what comes after `A: v . X w`, on the stack below X
  Moved : (st : List ℕ) (s next p k : ℕ) (x : GrammarSymbol) (tail : List ℕ) → top_of st ≡ Some s → slice_get (symbols_of g p) k ≡ Some x
      → GoesBy table s x next → IsTail g table st p k tail → IsTail g table (st ++ next ∷ []) p (k + 1) tail

-- a minimal sentence of the symbols after the dot of an item of the top, and then what comes after its production
pub record IsCompletion (g : Grammar) (table : Table) (st tokens : List ℕ) : Type 0 where
  pub prod : ℕ
  pub dot : ℕ
  pub trees : Forest ℕ
  pub tail : List ℕ
  pub rest : AreShortestTrees g (drop dot (symbols_of g prod)) trees
  pub after : IsTail g table st prod dot tail
  pub all : tokens ≡ forest_leaves trees ++ tail

-- what comes after rule r, for which an item `B: u . r w` of the top waits: a minimal sentence of w, and then what comes after B's
-- production
pub record IsTailOfRule (g : Grammar) (table : Table) (st : List ℕ) (r : ℕ) (tokens : List ℕ) : Type 0 where
  pub prod : ℕ
  pub dot : ℕ
  pub more : List GrammarSymbol
  pub trees : Forest ℕ
  pub tail : List ℕ
  pub waits : drop dot (symbols_of g prod) ≡ Nonterminal r ∷ more
  pub rest : AreShortestTrees g more trees
  pub after : IsTail g table st prod dot tail
  pub all : tokens ≡ forest_leaves trees ++ tail
