-- What runs without repairs feed, expect and refuse, by the sentences of a grammar, over a viable table of it. The table may have been
-- built of the grammar, by precedences or not, its item sets may be merged, or it may come from another tool. This is the viable
-- prefix property, also called the correct-prefix property. A run begins with the start state alone, at the first lexeme. Lexemes
-- may be of any type: only their tokens count.
use Rattle.std.specs.Prelude.{◌↔◌, ℕ, List, map, take}
use Rattle.lrpar_grammar.specs.Grammar.{Grammar, IsWellFormed}
use Rattle.lrpar_grammar.specs.Sentence.{IsSentence}
use Rattle.lrpar_table_precedence.specs.Precedence.{PrecedenceLists}
use Rattle.lrpar_table_rows.specs.Graph.{Graph}
use Rattle.lrpar_table_rows.specs.Safe.{IsSafe}
use Rattle.lrpar_table_rows.specs.Table.{Table, IsClosed}
use Rattle.lrpar_table_build.specs.Built.{IsBuilt, IsBuiltBy}
use Rattle.lrpar_table_conditions.specs.Complete.{IsComplete}
use Rattle.lrpar_table_check.specs.CompleteRuns.{RunsTo}
use Rattle.lrpar_table_stacks.specs.Expected.{IsExpected}
use Rattle.lrpar_table_check.specs.ExpectedRuns.{FeedsFront}
use Rattle.lrpar_table_stacks.specs.Run.{Stop, Stopped}
use Rattle.lrpar_table_sentences.specs.Reachable.{EachReachableHasTree}
use Rattle.lrpar_table_viable.specs.Viable.{IsViable}
use Rattle.lrpar_parse_prefixes.specs.Viable.{AreSentence, BeginSentence, CanFollow, GoWrongAt}

-- lexemes are a sentence if and only if their tokens are
abbrev pub SentencesAreOfTokens : Type 0 → Type 0
SentencesAreOfTokens X =
    (token : X → ℕ) (g : Grammar) (lexemes : List X) → IsSentence token g lexemes ↔ AreSentence g (map token lexemes)

-- The viable prefix property: a sentence begins with the lexemes that are fed; so does one with each token more that may come
-- next, or the token is the end token and the lexemes are a sentence; and a sentence begins with the lexemes before an error
-- point: no error comes too late
pub record KeepsToSentences {X : Type 0} (token : X → ℕ) (g : Grammar) (table : Table) : Type 0 where
  pub fed : (lexemes : List X) (i : ℕ) (st : List ℕ) → FeedsFront token g table lexemes i st → BeginSentence g (map token (take i lexemes))
  pub next : (lexemes : List X) (i : ℕ) (st : List ℕ) → FeedsFront token g table lexemes i st → (t : ℕ) → IsExpected g table st t
      → CanFollow g (map token (take i lexemes)) t
  pub stop : (lexemes : List X) (prods : List ℕ) (stop : Stop) → RunsTo token g table lexemes prods (Stopped stop)
      → BeginSentence g (map token (take stop.place lexemes))

-- The property in full, in which no error comes too early either: the tokens that may come next are exactly those that can; and a
-- run's error point is the place at which its lexemes go wrong: the first one with which no sentence begins, or the end
pub record FollowsSentences {X : Type 0} (token : X → ℕ) (g : Grammar) (table : Table) : Type 0 where
  pub next : (lexemes : List X) (i : ℕ) (st : List ℕ) → FeedsFront token g table lexemes i st
      → (t : ℕ) → IsExpected g table st t ↔ CanFollow g (map token (take i lexemes)) t
  pub stop : (lexemes : List X) (prods : List ℕ) (stop : Stop) → RunsTo token g table lexemes prods (Stopped stop)
      → GoWrongAt g (map token lexemes) stop.place

-- of each way to give lexemes of type X tokens, this holds over each table that was built of a grammar in which each reachable rule is
-- productive; the table may have conflicts
abbrev pub OverBuiltTables : (X : Type 0) → ((X → ℕ) → Grammar → Table → Type 0) → Type 0
OverBuiltTables X Holds =
    (token : X → ℕ) (g : Grammar) (graph : Graph) (table : Table) → IsWellFormed g → IsClosed table → IsBuilt g graph table
    → EachReachableHasTree g → Holds token g table

-- of each way to give lexemes of type X tokens, this holds over each complete table that was built of a grammar in which each reachable
-- rule is productive
abbrev pub OverCompleteBuiltTables : (X : Type 0) → ((X → ℕ) → Grammar → Table → Type 0) → Type 0
OverCompleteBuiltTables X Holds =
    (token : X → ℕ) (g : Grammar) (graph : Graph) (table : Table) → IsWellFormed g → IsClosed table → IsBuilt g graph table
    → EachReachableHasTree g → IsComplete g graph table → Holds token g table

-- over lexemes of type X, runs of a table that was built of a grammar have the viable prefix property, if each reachable rule is
-- productive; the table may have conflicts
abbrev pub BuiltTablesKeepToSentences : Type 0 → Type 0
BuiltTablesKeepToSentences X = OverBuiltTables X (λ token g table. KeepsToSentences token g table)

-- over lexemes of type X, runs of a complete table that was built of a grammar have the viable prefix property in full, if each reachable
-- rule is productive
abbrev pub CompleteBuiltTablesFollowSentences : Type 0 → Type 0
CompleteBuiltTablesFollowSentences X = OverCompleteBuiltTables X (λ token g table. FollowsSentences token g table)

-- over lexemes of type X, runs of any table that is safe and viable have the viable prefix property: its lookaheads don't count, so its
-- item sets may be merged
abbrev pub ViableTablesKeepToSentences : Type 0 → Type 0
ViableTablesKeepToSentences X =
    (token : X → ℕ) (g : Grammar) (graph : Graph) (table : Table) → IsWellFormed g → IsClosed table → IsSafe g graph table
    → IsViable g graph table → EachReachableHasTree g → KeepsToSentences token g table

-- over lexemes of type X, runs of a complete table that is safe and viable have the viable prefix property in full
abbrev pub CompleteViableTablesFollowSentences : Type 0 → Type 0
CompleteViableTablesFollowSentences X =
    (token : X → ℕ) (g : Grammar) (graph : Graph) (table : Table) → IsWellFormed g → IsClosed table → IsSafe g graph table
    → IsViable g graph table → EachReachableHasTree g → IsComplete g graph table → FollowsSentences token g table

-- a table that was built of a grammar is viable
abbrev pub BuiltTablesAreViable : Type 0
BuiltTablesAreViable = (g : Grammar) (graph : Graph) (table : Table) → IsBuilt g graph table → IsViable g graph table

-- a table that was built of a grammar, with conflicts that precedences resolve, is viable
abbrev pub TablesByPrecedenceAreViable : Type 0
TablesByPrecedenceAreViable =
    (g : Grammar) (precedences : PrecedenceLists) (graph : Graph) (table : Table) → IsBuiltBy g precedences graph table → IsViable g graph table
