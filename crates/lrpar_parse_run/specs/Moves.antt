-- What the stacks of a run do between two places: they settle at tokens and shift lexemes.
use Rattle.std.specs.Prelude.{◌≡◌, ◌≤◌, ◌<◌, ◌+◌, ℕ, List, [], ◌∷◌, ◌++◌, drop, length, Option, Some, None}
use Rattle.lrpar_grammar.specs.Grammar.{end_token}
use Rattle.lrpar_grammar.specs.Sentence.{LexemeFacts}
use Rattle.lrpar_table_check.specs.Checked.{Checked}
use Rattle.lrpar_table_stacks.specs.Reduction.{top_action}
use Rattle.lrpar_table_rows.specs.Table.{Accepts}
use Rattle.lrpar_parse_run.specs.Building.{Building}
use Rattle.lrpar_parse_repair.specs.Repaired.{Consumes}
use Rattle.lrpar_parse_lexemes.specs.Lexemes.{LexemeParts, start_at}
use Rattle.lrpar_parse_lexemes.specs.Views.{known}
use Rattle.lrpar_parse_run.specs.RepairRun.{fed_between}
use Rattle.lrpar_table_stacks.specs.Run.{Accepted, Far, FarEnd, Stopped}
use Rattle.lrpar_parse_repair.specs.Sequences.{PlainStep, Replays, StepsTo}
use Rattle.lrpar_parse_run.specs.Stacked.{SettlesTo, Shifts}
use Rattle.lrpar_parse_run.specs.RunStack.{Stacked}

-- the starts of the lexemes don't decrease, and the last one ends no earlier than it starts
abbrev pub StartsRise : List LexemeFacts → Type 0
StartsRise lexemes = (i : ℕ) → i < length lexemes → start_at lexemes i ≤ start_at lexemes (i + 1)

-- the starts of the stored lexemes don't decrease; `index` gives the number of a value of the storage type, and `parts` the parts of a
-- lexeme
abbrev pub RiseIn : {S X : Type 0} → (S → ℕ) → (X → LexemeParts S) → List X → Type 0
RiseIn index parts lexemes = StartsRise (known index parts lexemes)

-- the entries are in order, and none starts past this byte
abbrev pub RiseUpTo : {E : Type 0} → (List E → ℕ → Type 0) → List E → ℕ → Type 0
RiseUpTo rises entries most = (low : ℕ) × (low ≤ most) × rises entries low

-- how a run ends that goes as far as it can: it accepts, or it has an error point at a place, with this stack
abbrev pub far_end : List ℕ → Option ℕ → FarEnd
far_end settled None = Accepted
far_end settled (Some j) = Stopped (record { stack = settled; place = j })

-- the lexemes that it feeds from place i on: all, or those before the error point
abbrev pub fed_up_to : {X : Type 0} → List X → ℕ → Option ℕ → List X
fed_up_to lexemes i None = drop i lexemes
fed_up_to lexemes i (Some j) = fed_between lexemes i j

-- from the stack at place i the step can be taken
abbrev pub CanStep : {X : Type 0} → (X → LexemeFacts) → Checked → List X → List ℕ → ℕ → PlainStep → Type 0
CanStep facts d lexemes st i step =
    (prods next : List ℕ) × (j : ℕ) × StepsTo (λ x. (facts x).token) d.grammar d.table lexemes st i step prods next j

-- from the stack at place i the steps can be taken in turn
abbrev pub CanReplay : {X : Type 0} → (X → LexemeFacts) → Checked → List X → List ℕ → ℕ → List PlainStep → Type 0
CanReplay facts d lexemes st i steps =
    (prods after : List ℕ) × (j : ℕ) × Replays (λ x. (facts x).token) d.grammar d.table lexemes st i steps prods after j

module _ {X E : Type 0} (facts : X → LexemeFacts) (builds : Building X E) (d : Checked) where
  -- from the old stacks to the new ones these lexemes are shifted, these reductions are made, and the stacks settle this number of
  -- times
  pub data Moves (old : Stacked E) : List X → List ℕ → ℕ → Stacked E → Type 0 where
    -- nothing is done
    rests : Moves old [] [] 0 old
    -- the last move settles at a token
    and_settles : (xs : List X) (ps : List ℕ) (n : ℕ) (mid : Stacked E) (t : ℕ) (new : Stacked E) → Moves old xs ps n mid
        → (last : SettlesTo builds d t mid new) → Moves old xs (ps ++ last.prods) (n + 1) new
    -- the last move shifts a lexeme
    and_shifts : (xs : List X) (ps : List ℕ) (n : ℕ) (mid : Stacked E) (x : X) (new : Stacked E) → Moves old xs ps n mid
        → (last : Shifts builds d (facts x).token x mid new) → Moves old (xs ++ x ∷ []) (ps ++ last.settles.prods) (n + 1) new

  module _ (lexemes : List X) where
    -- from the old stacks at place i the replay of the steps leads to the new stacks at place j
    pub record IsReplayed (old : Stacked E) (i : ℕ) (steps : List PlainStep) (new : Stacked E) (j : ℕ) : Type 0 where
      pub prods : List ℕ
      pub recovered : List X
      pub replays : Replays (λ x. (facts x).token) d.grammar d.table lexemes old.states i steps prods new.states j
      pub consumes : Consumes facts lexemes i steps recovered
      pub moves : Moves old recovered prods (length recovered) new

    -- from the old stacks at place i the run goes as far as it can: it accepts, or it has an error point at a place
    pub record GoesFar (old : Stacked E) (i : ℕ) (stop : Option ℕ) (new : Stacked E) : Type 0 where
      pub prods : List ℕ
      pub far : Far (λ x. (facts x).token) d.grammar d.table lexemes old.states i prods (far_end new.states stop)
      pub moves : Moves old (fed_up_to lexemes i stop) prods (length (fed_up_to lexemes i stop) + 1) new
      pub accepts : stop ≡ None → top_action d.table (end_token d.grammar) new.states ≡ Accepts
