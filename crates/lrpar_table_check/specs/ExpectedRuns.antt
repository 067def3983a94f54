-- What may come next after lexemes of any type, and which sentences go on so. A run begins with the start state alone, at the
-- first lexeme.
use Rattle.std.specs.Prelude.{◌↔◌, ℕ, List, [], ◌∷◌, ◌++◌, take}
use Rattle.lrpar_grammar.specs.Grammar.{Grammar, IsWellFormed, end_token}
use Rattle.lrpar_grammar.specs.Sentence.{IsSentence}
use Rattle.lrpar_table_rows.specs.Graph.{Graph}
use Rattle.lrpar_table_rows.specs.Safe.{IsSafe}
use Rattle.lrpar_table_rows.specs.Table.{Table, IsClosed}
use Rattle.lrpar_table_conditions.specs.Complete.{IsComplete}
use Rattle.lrpar_table_stacks.specs.Expected.{IsExpected}
use Rattle.lrpar_table_stacks.specs.Run.{Comes}

-- the run from the start feeds the lexemes before place i, which gives this stack
abbrev pub FeedsFront : {X : Type 0} → (X → ℕ) → Grammar → Table → List X → ℕ → List ℕ → Type 0
FeedsFront token g table lexemes i st = (prods : List ℕ) × Comes token g table lexemes (table.start ∷ []) 0 prods st i

-- the end token may come next only if the lexemes that were fed are a sentence
abbrev pub EndsAtSentences : {X : Type 0} → (X → ℕ) → Grammar → Table → Type 0
EndsAtSentences {X} token g table =
    (lexemes : List X) (i : ℕ) (st : List ℕ) → FeedsFront token g table lexemes i st → IsExpected g table st (end_token g)
    → IsSentence token g (take i lexemes)

-- After lexemes that were fed, each token with which some sentence goes on may come next; and the end token if and only if they
-- are a sentence.
pub record ExpectsSentences {X : Type 0} (token : X → ℕ) (g : Grammar) (table : Table) : Type 0 where
  pub next : (lexemes : List X) (i : ℕ) (st : List ℕ) → FeedsFront token g table lexemes i st
      → (x : X) (rest : List X) → IsSentence token g (take i lexemes ++ x ∷ rest) → IsExpected g table st (token x)
  pub end : (lexemes : List X) (i : ℕ) (st : List ℕ) → FeedsFront token g table lexemes i st
      → IsExpected g table st (end_token g) ↔ IsSentence token g (take i lexemes)

-- over lexemes of type X, the end token may come next in a run of a checked table only if the lexemes that were fed are a sentence
abbrev pub CheckedTablesEndAtSentences : Type 0 → Type 0
CheckedTablesEndAtSentences X =
    (token : X → ℕ) (g : Grammar) (graph : Graph) (table : Table) → IsWellFormed g → IsClosed table → IsSafe g graph table
    → EndsAtSentences token g table

-- over lexemes of type X, the runs of a complete checked table expect exactly the tokens with which some sentence goes on
abbrev pub CompleteTablesExpectSentences : Type 0 → Type 0
CompleteTablesExpectSentences X =
    (token : X → ℕ) (g : Grammar) (graph : Graph) (table : Table) → IsWellFormed g → IsClosed table → IsSafe g graph table
    → IsComplete g graph table → ExpectsSentences token g table
