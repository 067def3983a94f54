-- What a run of a complete table says about sentences and their trees, over lexemes of any type. A run begins with the start
-- state alone, at the first lexeme.
use Rattle.std.specs.Prelude.{◌≡◌, ◌<◌, ◌+◌, ◌↔◌, ℕ, List, [], ◌∷◌, ◌++◌, length, take}
use Rattle.lrpar_grammar.specs.Grammar.{Grammar, IsWellFormed, Nonterminal}
use Rattle.lrpar_grammar.specs.Sentence.{IsSentence}
use Rattle.lrpar_grammar.specs.Tree.{Tree, Fits, leaves, productions}
use Rattle.lrpar_table_rows.specs.Graph.{Graph}
use Rattle.lrpar_table_rows.specs.Safe.{IsSafe}
use Rattle.lrpar_table_rows.specs.Table.{Table, IsClosed}
use Rattle.lrpar_table_conditions.specs.Complete.{IsComplete}
use Rattle.lrpar_table_stacks.specs.Run.{Far, FarEnd, Accepted, Stopped, Stop}

-- the run from the start over these lexemes makes these reductions, and has this end
abbrev pub RunsTo : {X : Type 0} → (X → ℕ) → Grammar → Table → List X → List ℕ → FarEnd → Type 0
RunsTo token g table lexemes prods end = Far token g table lexemes (table.start ∷ []) 0 prods end

-- no sentence begins with these lexemes
abbrev pub BeginsNoSentence : {X : Type 0} → (X → ℕ) → Grammar → List X → Type 0
BeginsNoSentence {X} token g front = (rest : List X) → ¬ (IsSentence token g (front ++ rest))

-- Runs accept exactly the sentences, and each by its only tree: the run over a tree's leaves reduces its productions and accepts;
-- if the run accepts, its lexemes are a sentence; two trees with the same leaves are equal; and no sentence begins with the
-- lexemes up to and including a run's error point.
pub record AcceptsExactlySentences {X : Type 0} (token : X → ℕ) (g : Grammar) (table : Table) : Type 0 where
  pub only : (tree : Tree X) → Fits token g tree (Nonterminal g.start) → RunsTo token g table (leaves tree) (productions tree) Accepted
  pub exact : (lexemes : List X) → IsSentence token g lexemes ↔ ((prods : List ℕ) × RunsTo token g table lexemes prods Accepted)
  pub one : (tree other : Tree X) → Fits token g tree (Nonterminal g.start) → Fits token g other (Nonterminal g.start)
      → leaves tree ≡ leaves other → tree ≡ other
  pub prefix : (lexemes : List X) (prods : List ℕ) (stop : Stop) → RunsTo token g table lexemes prods (Stopped stop)
      → stop.place < length lexemes → BeginsNoSentence token g (take (stop.place + 1) lexemes)

-- over lexemes of type X, the runs of a complete table accept exactly the sentences, each by its only tree
abbrev pub CompleteTablesAcceptSentences : Type 0 → Type 0
CompleteTablesAcceptSentences X =
    (token : X → ℕ) (g : Grammar) (graph : Graph) (table : Table) → IsWellFormed g → IsClosed table → IsSafe g graph table
    → IsComplete g graph table → AcceptsExactlySentences token g table
