-- The tokens at which the state of an error point has an action, by the sentences of a grammar, over a table that was built of it: at
-- each error point, the later ones of a run with repairs, too. And over any viable table: the tokens before each error point.
use Rattle.std.specs.Prelude.{◌≡◌, ◌≢◌, ◌↔◌, ◌+◌, ℕ, List, [], ◌∷◌, ◌++◌, Option, Some, map, take}
use Rattle.std.specs.List.{AllZip}
use Rattle.lrpar_grammar.specs.Grammar.{Grammar, IsWellFormed}
use Rattle.lrpar_grammar.specs.Sentence.{LexemeFacts}
use Rattle.lrpar_table_rows.specs.Graph.{Graph}
use Rattle.lrpar_table_rows.specs.Safe.{IsSafe}
use Rattle.lrpar_table_rows.specs.Table.{Fails, IsClosed, Table, action_of}
use Rattle.lrpar_table_build.specs.Built.{IsBuilt}
use Rattle.lrpar_table_conditions.specs.Complete.{IsComplete}
use Rattle.lrpar_table_check.specs.CompleteRuns.{RunsTo}
use Rattle.lrpar_table_check.specs.ExpectedRuns.{FeedsFront}
use Rattle.lrpar_table_stacks.specs.Run.{Stop, Stopped}
use Rattle.lrpar_table_stacks.specs.RunLaws.{KeepOffEnd}
use Rattle.lrpar_table_stacks.specs.Stack.{top_of}
use Rattle.lrpar_table_sentences.specs.Reachable.{EachReachableHasTree}
use Rattle.lrpar_parse_repair.specs.Recovery.{Point}
use Rattle.lrpar_parse_repair.specs.Repaired.{Consumes}
use Rattle.lrpar_parse_repair.specs.Sequences.{PlainDelete, PlainInsert, PlainShift, PlainStep}
use Rattle.lrpar_parse_run.specs.RepairRun.{RepairRun, RepairStop, fed_between}
use Rattle.lrpar_table_viable.specs.Viable.{IsViable}
use Rattle.lrpar_parse_prefixes.specs.Viable.{BeginSentence, CanFollow}
use Rattle.lrpar_parse_prefixes.specs.ViableLaws.{OverBuiltTables, OverCompleteBuiltTables}

-- the top of the stack has an action only at tokens that can come after these
abbrev pub ActsOnlyAsFollows : Grammar → Table → List ℕ → List ℕ → Type 0
ActsOnlyAsFollows g table st front = (s t : ℕ) → top_of st ≡ Some s → action_of table s t ≢ Fails → CanFollow g front t

-- the top of the stack has an action at exactly the tokens that can come after these
abbrev pub ActsAsFollows : Grammar → Table → List ℕ → List ℕ → Type 0
ActsAsFollows g table st front = (s t : ℕ) → top_of st ≡ Some s → (action_of table s t ≢ Fails) ↔ CanFollow g front t

-- The top of each stack to which a run without repairs feeds lexemes has actions only at tokens that can come after these lexemes. So has
-- the top of the stack of each error point, which is the one after all reductions at the lexeme there
pub record ActionsKeepToSentences {X : Type 0} (token : X → ℕ) (g : Grammar) (table : Table) : Type 0 where
  pub fed : (lexemes : List X) (i : ℕ) (st : List ℕ) → FeedsFront token g table lexemes i st
      → ActsOnlyAsFollows g table st (map token (take i lexemes))
  pub stop : (lexemes : List X) (prods : List ℕ) (stop : Stop) → RunsTo token g table lexemes prods (Stopped stop)
      → ActsOnlyAsFollows g table stop.stack (map token (take stop.place lexemes))

-- The top of each stack to which a run without repairs feeds lexemes has actions at exactly the tokens that can come after these lexemes.
-- So has the top of the stack of each error point, if no lexeme has the end token. And an error is found before any reduction: the stack
-- of an error point is the one to which the lexemes before it are fed
pub record ActionsFollowSentences {X : Type 0} (token : X → ℕ) (g : Grammar) (table : Table) : Type 0 where
  pub fed : (lexemes : List X) (i : ℕ) (st : List ℕ) → FeedsFront token g table lexemes i st
      → ActsAsFollows g table st (map token (take i lexemes))
  pub stop : (lexemes : List X) (prods : List ℕ) (stop : Stop) → KeepOffEnd token g lexemes → RunsTo token g table lexemes prods (Stopped stop)
      → ActsAsFollows g table stop.stack (map token (take stop.place lexemes))
  pub unreduced : (lexemes : List X) (prods : List ℕ) (stop : Stop) → KeepOffEnd token g lexemes
      → RunsTo token g table lexemes prods (Stopped stop) → FeedsFront token g table lexemes stop.place stop.stack

-- over a table that was built of a grammar in which each reachable rule is productive, states act only at tokens that can come next; the
-- table may have conflicts
abbrev pub BuiltActionsKeepToSentences : Type 0 → Type 0
BuiltActionsKeepToSentences X = OverBuiltTables X (λ token g table. ActionsKeepToSentences token g table)

-- over a complete table that was built of a grammar in which each reachable rule is productive, states act at exactly the tokens that can
-- come next
abbrev pub CompleteBuiltActionsFollowSentences : Type 0 → Type 0
CompleteBuiltActionsFollowSentences X = OverCompleteBuiltTables X (λ token g table. ActionsFollowSentences token g table)

-- the place to which steps lead from place i: past each lexeme that they delete or shift
abbrev pub place_after : ℕ → List PlainStep → ℕ
place_after i [] = i
place_after i (PlainInsert t ∷ steps) = place_after i steps
place_after i (PlainDelete ∷ steps) = place_after (i + 1) steps
place_after i (PlainShift ∷ steps) = place_after (i + 1) steps

-- `facts` is what is known of a lexeme
module _ {X : Type 0} (facts : X → LexemeFacts) (lexemes : List X) where
  -- The lexemes before each error point of a run, as repaired so far. At place i the run has consumed `front`. From there it consumes
  -- the lexemes up to the next error point. If a sequence is listed there, it then consumes what the first one inserts and shifts.
  pub data AreFronts : List X → ℕ → List RepairStop → List (List X) → Type 0 where
    -- there is no further error point
    none_left : (front : List X) (i : ℕ) → AreFronts front i [] []
    -- no sequence is listed at the next error point, which is the last
    last_left : (front : List X) (i : ℕ) (stop : Stop)
        → AreFronts front i (record { stop = stop; listed = [] } ∷ []) ((front ++ fed_between lexemes i stop.place) ∷ [])
    -- the first listed sequence is replayed there
    more_left : (front : List X) (i : ℕ) (stop : Stop) (first : List PlainStep) (listed : List (List PlainStep)) (recovered : List X)
        (stops : List RepairStop) (fronts : List (List X))
        → Consumes facts lexemes stop.place first recovered
        → AreFronts ((front ++ fed_between lexemes i stop.place) ++ recovered) (place_after stop.place first) stops fronts
        → AreFronts front i (record { stop = stop; listed = first ∷ listed } ∷ stops) ((front ++ fed_between lexemes i stop.place) ∷ fronts)

  -- at each error point of a run that begins at the first lexeme the claim holds, for its stack and the tokens before it, as repaired
  -- so far
  abbrev pub AtEachErrorPoint : (List ℕ → List ℕ → Type 0) → List RepairStop → Type 0
  AtEachErrorPoint Claim stops =
      (fronts : List (List X)) × AreFronts [] 0 stops fronts
      × AllZip (λ (at : RepairStop) (front : List X). Claim at.stop.stack (map (λ x. (facts x).token) front)) stops fronts

-- runs with repairs over lexemes of this kind, from the start state at the first lexeme; `allows` says which answers the recoverer may
-- give at a point, and k lexemes have to follow a repair
module _ {X : Type 0} (facts : X → LexemeFacts) (allows : Point X → List (List PlainStep) → Type 0) where
  -- the state of each error point has an action only at tokens that can come there
  abbrev pub ErrorStatesKeepToSentences : Type 0
  ErrorStatesKeepToSentences =
      (k : ℕ) (g : Grammar) (graph : Graph) (table : Table) (lexemes : List X) (stops : List RepairStop) (consumed : Option (List X)) (prods : List ℕ)
      → IsWellFormed g → IsClosed table → IsBuilt g graph table → EachReachableHasTree g
      → RepairRun facts allows k g table lexemes (table.start ∷ []) 0 stops consumed prods
      → AtEachErrorPoint facts lexemes (ActsOnlyAsFollows g table) stops

  -- the state of each error point has an action at exactly the tokens that can come there, if the table is complete and no lexeme has the
  -- end token
  abbrev pub ErrorStatesFollowSentences : Type 0
  ErrorStatesFollowSentences =
      (k : ℕ) (g : Grammar) (graph : Graph) (table : Table) (lexemes : List X) (stops : List RepairStop) (consumed : Option (List X)) (prods : List ℕ)
      → IsWellFormed g → IsClosed table → IsBuilt g graph table → EachReachableHasTree g → IsComplete g graph table
      → KeepOffEnd (λ x. (facts x).token) g lexemes
      → RepairRun facts allows k g table lexemes (table.start ∷ []) 0 stops consumed prods
      → AtEachErrorPoint facts lexemes (ActsAsFollows g table) stops

  -- over any table that is safe and viable, no error of a run comes too late: a sentence begins with the tokens before each error point,
  -- as repaired so far
  abbrev pub EachErrorComesInTime : Type 0
  EachErrorComesInTime =
      (k : ℕ) (g : Grammar) (graph : Graph) (table : Table) (lexemes : List X) (stops : List RepairStop) (consumed : Option (List X)) (prods : List ℕ)
      → IsWellFormed g → IsClosed table → IsSafe g graph table → IsViable g graph table → EachReachableHasTree g
      → RepairRun facts allows k g table lexemes (table.start ∷ []) 0 stops consumed prods
      → AtEachErrorPoint facts lexemes (λ st front. BeginSentence g front) stops
