-- The search of the program, as contracts see it; `index` is the number that a storage number represents, and `parts` are those of a lexeme.
use Rattle.std.specs.Prelude.{◌≡◌, ◌≢◌, ◌<◌, ◌≤◌, ◌+◌, ◌-◌, ◌↔◌, ◌⊎◌, ◌++◌, ◌∷◌, [], ℕ, Bool, true, false, IfSome, IsTrue, List, length, map, Option, Some, None, Vec}
use Rattle.std.specs.List.{Contains}
use Rattle.std.specs.List.Sorted.{IsStrictlyIncreasing}
use Rattle.std.specs.Option.{option_map}
use Rattle.lrpar_grammar_places.specs.declared.span.TIdx.{TIdx}
use Rattle.lrpar_grammar.specs.Grammar.{end_token}
use Rattle.lrpar_table_rows.specs.Table.{Fails}
use Rattle.lrpar_table_stacks.specs.Expected.{tokens_of}
use Rattle.lrpar_table_stacks.specs.Reduction.{top_action}
use Rattle.lrpar_table_stacks.specs.Run.{token_at}
use Rattle.lrpar_table_shared_stacks.specs.SharedStacks.{Shared, stack_at}
use Rattle.lrpar_parse_lexemes.specs.Lexemes.{LexemeParts}
use Rattle.lrpar_parse_lexemes.specs.Views.{token_by}
use Rattle.lrpar_parse_repair.specs.Asked.{HaveTokens}
use Rattle.lrpar_parse_repair.specs.PlainSteps.{plain_step}
use Rattle.lrpar_parse_repair.specs.Sequences.{PlainStep, PlainShift}
use Rattle.lrpar_parse_repair.specs.declared.engine.Engine.{Engine}
use Rattle.lrpar_parse_repair.specs.declared.repair_step.RepairStep.{RepairStep}
use Rattle.lrpar_parse_cpctplus.specs.Configurations.{Configured, GoesOnFrom}
use Rattle.lrpar_parse_cpctplus.specs.Graph.{PlainEnding, PlainLink}
use Rattle.lrpar_parse_cpctplus.specs.GraphView.{AreHeld, IsHeld, configured_at, nodes_in, plain_links}
use Rattle.lrpar_parse_cpctplus.specs.Levels.{AreLevels}
use Rattle.lrpar_parse_cpctplus.specs.LinkView.{plain_ending}
use Rattle.lrpar_parse_cpctplus.specs.SearchRound.{PlainAttempt, Adds, AreAttempts, AreEndingsOf, AreOnce, CostsAtLeast, Grows, IsAmong, IsAttemptBy, IsAttemptOf, IsDeleteOf, IsDue, IsFoundBy, IsGrowing, IsInsertOf, IsNothingFound, IsPastLimit, IsReach, IsRound, IsShiftWithin, IsThis, LeadsOn, ReachesFrom}
use Rattle.lrpar_parse_cpctplus.specs.declared.graph.Configuration.{Configuration}
use Rattle.lrpar_parse_cpctplus.specs.declared.graph.Graph.{Graph}
use Rattle.lrpar_parse_cpctplus.specs.declared.search.Attempt.{Attempt}
use Rattle.lrpar_parse_cpctplus.specs.declared.link.Ending.{Ending}
use Rattle.lrpar_parse_cpctplus.specs.declared.link.Linked.{Linked}
use Rattle.lrpar_parse_cpctplus.specs.declared.search.Search.{Search}

-- steps by the numbers of their configurations
abbrev pub plain_attempt : {S : Type 0} → (S → ℕ) → Attempt S → PlainAttempt
plain_attempt index attempt = record { from = attempt.from; step = plain_step index attempt.step }

abbrev pub plain_attempts : {S : Type 0} → (S → ℕ) → List (Attempt S) → List PlainAttempt
plain_attempts index attempts = map (plain_attempt index) attempts

-- last steps, with how far a parse goes on after them
abbrev pub plain_endings : {S : Type 0} → (S → ℕ) → List (Ending S) → List PlainEnding
plain_endings index endings = map (plain_ending index) endings

-- the configurations of a graph
abbrev pub nodes_of : {S : Type 0} → Shared → Graph S → List Configured
nodes_of stacks graph = nodes_in stacks.stacks graph.configurations.keys

-- the first numbers of the graph's distances are as they should be
abbrev pub HasLevels : {S : Type 0} → Graph S → Type 0
HasLevels graph = AreLevels graph.firsts.items (length graph.configurations.keys)

-- none of the links to configurations with numbers from the first one on is a Shift
abbrev pub HasNoShifts : {S : Type 0} → (S → ℕ) → ℕ → Graph S → Type 0
HasNoShifts index first graph = (link : PlainLink) → Contains (plain_links index graph.links.items) link → link.step ≡ PlainShift → link.to < first

module _ {S X : Type 0} (search : Search S X) where
  -- the configuration has a stack of the table, and its place isn't past the last lexeme
  abbrev pub IsHeldBy : Shared → Configuration → Type 0
  IsHeldBy stacks at = IsHeld search.point.now.checked.table (length search.point.now.lexemes) stacks.stacks at

  -- each configuration of the graph has a stack of the table, and its place isn't past the last lexeme
  abbrev pub AreHeldBy : Shared → Graph S → Type 0
  AreHeldBy stacks graph = AreHeld search.point.now.checked.table (length search.point.now.lexemes) stacks.stacks graph.configurations.keys

  -- the graph has no more configurations than the limit allows
  abbrev pub IsWithinLimit : Graph S → Type 0
  IsWithinLimit graph = length graph.configurations.keys ≤ search.limit

module _ {S X : Type 0} (index : S → ℕ) (search : Search S X) where
  -- these are the tokens at which the top state of the configuration's stack has an action, ascending
  pub record AreNextTokens (stacks : Shared) (at : Configuration) (tokens : List (TIdx S)) : Type 0 where
    pub exact : (t : ℕ) → Contains (tokens_of index tokens) t ↔ (top_action search.point.now.checked.table t (stack_at stacks.stacks at.stack) ≢ Fails)
    pub ascending : IsStrictlyIncreasing (tokens_of index tokens)

  -- the Inserts of those tokens that cost this much are added
  abbrev pub AddsInserts : {A : Type 0} → List (TIdx S) → ℕ → ℕ → Vec (Attempt S) A → Vec (Attempt S) A → Type 0
  AddsInserts tokens from weight old new =
      Adds (IsInsertOf search.terms.now.costs (end_token search.point.now.checked.grammar) (tokens_of index tokens) from weight)
      (plain_attempts index old.items) (plain_attempts index new.items)

module _ {S X : Type 0} (index : S → ℕ) (parts : X → LexemeParts S) (search : Search S X) where
  -- the token of the lexeme at the place; past the last one, the end token
  abbrev pub token_there : ℕ → ℕ
  token_there place = token_at (token_by index parts) search.point.now.checked.grammar search.point.now.lexemes place

  -- the engine of the error point
  pub record IsEngineOf (engine : Engine S X) : Type 0 where
    pub checked : engine.checked.now ≡ search.point.now.checked
    pub lexemes : engine.lexemes.now ≡ search.point.now.lexemes
    pub shifts : engine.shifts ≡ search.point.now.shifts
    pub tokens : HaveTokens (token_by index parts) search.point.now.checked.grammar search.point.now.lexemes

  -- the step leads to this configuration, or it can't be taken
  pub record LeadsBy (old : Shared) (at : Configuration) (step : RepairStep S) (new : Shared) (reached : Option Configuration) : Type 0 where
    pub held : IfSome reached (IsHeldBy search new)
    pub leads : LeadsOn (token_by index parts) search.point.now (configured_at old.stacks at) (plain_step index step) (option_map (configured_at new.stacks) reached)

  -- the answer says whether a parse can go on from the configuration
  abbrev pub TellsGoingOn : Shared → Configuration → Bool → Type 0
  TellsGoingOn stacks at goes_on = IsTrue goes_on ↔ GoesOnFrom (token_by index parts) search.point.now (configured_at stacks.stacks at)

  -- a parse goes on to place `far` from the configuration
  abbrev pub ReachesBy : Shared → Configuration → ℕ → Type 0
  ReachesBy stacks at far = ReachesFrom (token_by index parts) search.point.now (configured_at stacks.stacks at) far

  -- the place to which a parse goes on after the step; none if it can't go on, or the step can't be taken
  abbrev pub IsReachBy : Shared → Configuration → RepairStep S → Option ℕ → Type 0
  IsReachBy stacks at step far = IsReach (token_by index parts) search.point.now (configured_at stacks.stacks at) (plain_step index step) far

  -- the step is added with how far a parse goes on after it, or it can't go on then
  abbrev pub AddsEnding : {A : Type 0} → Shared → Configuration → Attempt S → Vec (Ending S) A → Vec (Ending S) A → Type 0
  AddsEnding stacks at attempt old new =
      (IsReachBy stacks at attempt.step None × (plain_endings index new.items ≡ plain_endings index old.items))
      ⊎ ((far : ℕ) × IsReachBy stacks at attempt.step (Some far)
      × (plain_endings index new.items ≡ plain_endings index old.items ++ record { reach = far; from = attempt.from; step = plain_step index attempt.step } ∷ []))

  -- the Delete at the place is added, if a lexeme is left there and its token costs this much
  abbrev pub AddsDelete : {A : Type 0} → ℕ → ℕ → ℕ → Vec (Attempt S) A → Vec (Attempt S) A → Type 0
  AddsDelete place from weight old new =
      Adds (IsDeleteOf (token_by index parts) search.terms.now.costs search.point.now place from weight)
      (plain_attempts index old.items) (plain_attempts index new.items)

  -- the steps of this cost are added that are tried at the configuration
  abbrev pub AddsAttemptsOf : {A : Type 0} → Shared → Configuration → ℕ → ℕ → Vec (Attempt S) A → Vec (Attempt S) A → Type 0
  AddsAttemptsOf stacks at from weight old new =
      Adds (IsAttemptOf (token_by index parts) search.terms.now.costs search.point.now (configured_at stacks.stacks at) from weight)
      (plain_attempts index old.items) (plain_attempts index new.items)

  -- all steps of this cost that are tried in a round are added
  abbrev pub AddsAttemptsAt : {A : Type 0} → Shared → Graph S → ℕ → Vec (Attempt S) A → Vec (Attempt S) A → Type 0
  AddsAttemptsAt stacks graph weight old new =
      Adds (IsAttemptBy (token_by index parts) search.terms.now.costs search.point.now (nodes_of stacks graph) graph.firsts.items (length graph.firsts.items) weight)
      (plain_attempts index old.items) (plain_attempts index new.items)

  -- these are all steps that are tried in a round
  abbrev pub AreAttemptsBy : Shared → Graph S → List (Attempt S) → Type 0
  AreAttemptsBy stacks graph attempts =
      AreAttempts (token_by index parts) search.terms.now.costs search.point.now (nodes_of stacks graph) graph.firsts.items (length graph.firsts.items)
      (plain_attempts index attempts)

  -- these are the last steps of repairs among the steps that are tried in a round
  abbrev pub AreEndingsBy : Shared → Graph S → List (Attempt S) → List (Ending S) → Type 0
  AreEndingsBy stacks graph attempts endings =
      AreEndingsOf (token_by index parts) search.point.now (nodes_of stacks graph) (plain_attempts index attempts) (plain_endings index endings)

  -- what is known at the head of a round
  pub record IsRoundBy (stacks : Shared) (graph : Graph S) : Type 0 where
    pub held : AreHeldBy search stacks graph
    pub known : IsRound (token_by index parts) search.terms.now.costs search.point.now (nodes_of stacks graph) graph.firsts.items (plain_links index graph.links.items)

  -- after round c no sequence that works costs c or less
  abbrev pub IsNextLeast : ℕ → Type 0
  IsNextLeast c = CostsAtLeast (token_by index parts) search.terms.now.costs search.point.now (c + 1)

  -- the graph while a level is added, within the limit
  pub record IsGrowingBy (stacks : Shared) (graph : Graph S) (first : ℕ) : Type 0 where
    pub held : AreHeldBy search stacks graph
    pub known : IsGrowing (token_by index parts) search.terms.now.costs search.point.now first (length graph.firsts.items - 1) (nodes_of stacks graph)
        (plain_links index graph.links.items)
    pub within : IsWithinLimit search graph
    pub least : IsNextLeast (length graph.firsts.items - 1)

  -- the step is to be added to the graph
  abbrev pub IsDueBy : Shared → Graph S → ℕ → ℕ → RepairStep S → Type 0
  IsDueBy stacks graph first from step =
      IsDue (token_by index parts) search.terms.now.costs search.point.now first (length graph.firsts.items - 1) (nodes_of stacks graph) (plain_links index graph.links.items)
      from (plain_step index step)

  -- the steps are to be added to the graph, each once
  pub record AreDueBy (stacks : Shared) (graph : Graph S) (first : ℕ) (attempts : List (Attempt S)) : Type 0 where
    pub each : (x : PlainAttempt) → Contains (plain_attempts index attempts) x
        → IsDue (token_by index parts) search.terms.now.costs search.point.now first (length graph.firsts.items - 1) (nodes_of stacks graph)
        (plain_links index graph.links.items) x.from x.step
    pub once : AreOnce (plain_attempts index attempts)

  -- by the steps that have `Done` one graph has become another one, with as many distances
  pub record GrowsBy (first : ℕ) (Done : ℕ → PlainStep → Type 0) (stacks : Shared) (graph : Graph S) (new_stacks : Shared) (new_graph : Graph S) : Type 0 where
    pub held : AreHeldBy search new_stacks new_graph
    pub firsts : new_graph.firsts ≡ graph.firsts
    pub grown : Grows (token_by index parts) search.terms.now.costs search.point.now first (length graph.firsts.items - 1) Done
        (nodes_of stacks graph) (plain_links index graph.links.items) (nodes_of new_stacks new_graph) (plain_links index new_graph.links.items)

  -- by this step one graph has become another one, with as many distances
  abbrev pub GrowsByStep : ℕ → ℕ → RepairStep S → Shared → Graph S → Shared → Graph S → Type 0
  GrowsByStep first from step stacks graph new_stacks new_graph = GrowsBy first (IsThis from (plain_step index step)) stacks graph new_stacks new_graph

  -- there are more configurations than may be kept
  pub record ExceedsBy (stacks : Shared) (graph : Graph S) : Type 0 where
    pub held : AreHeldBy search stacks graph
    pub past : IsPastLimit (token_by index parts) search.terms.now.costs search.point.now search.limit (nodes_of stacks graph)

  -- by the steps that have `Done` one graph has become another one, within the limit; or there are more configurations than may be kept
  abbrev pub GrowsOrExceeds : ℕ → (ℕ → PlainStep → Type 0) → Shared → Graph S → Shared → Graph S → Bool → Type 0
  GrowsOrExceeds first Done stacks graph new_stacks new_graph true = GrowsBy first Done stacks graph new_stacks new_graph × IsWithinLimit search new_graph
  GrowsOrExceeds first Done stacks graph new_stacks new_graph false = ExceedsBy new_stacks new_graph × (new_graph.firsts ≡ graph.firsts)

  -- by these steps one graph has become another one, within the limit; or there are more configurations than may be kept
  abbrev pub GrowsByAttempts : ℕ → List (Attempt S) → Shared → Graph S → Shared → Graph S → Bool → Type 0
  GrowsByAttempts first attempts stacks graph new_stacks new_graph =
      GrowsOrExceeds first (IsAmong (plain_attempts index attempts)) stacks graph new_stacks new_graph

  -- by the Shifts from configurations with numbers from the first one on, one graph has become another one, within the limit; or there are
  -- more configurations than may be kept
  abbrev pub GrowsByShifts : ℕ → Shared → Graph S → Shared → Graph S → Bool → Type 0
  GrowsByShifts first stacks graph new_stacks new_graph =
      GrowsOrExceeds first (IsShiftWithin first (length new_graph.configurations.keys)) stacks graph new_stacks new_graph

  -- the next round begins, within the limit; or there are more configurations than may be kept
  pub record IsNextRound (stacks : Shared) (graph : Graph S) (new_stacks : Shared) (new_graph : Graph S) : Type 0 where
    pub round : IsRoundBy new_stacks new_graph
    pub next : length new_graph.firsts.items ≡ length graph.firsts.items + 1
    pub within : IsWithinLimit search new_graph
    pub stay : (more : List Configured) × (nodes_of new_stacks new_graph ≡ nodes_of stacks graph ++ more)

  abbrev pub IsAddedLevel : Shared → Graph S → Shared → Graph S → Bool → Type 0
  IsAddedLevel stacks graph new_stacks new_graph true = IsNextRound stacks graph new_stacks new_graph
  IsAddedLevel stacks graph new_stacks new_graph false = ExceedsBy new_stacks new_graph

  -- nothing is found
  abbrev pub IsNotFound : Type 0
  IsNotFound = IsNothingFound (token_by index parts) search.terms.now.costs search.point.now search.limit

  -- these last steps are found with the graph, or nothing is found
  abbrev pub IsSearchResult : {A : Type 0} → Shared → Graph S → Option (Vec (Ending S) A) → Type 0
  IsSearchResult stacks graph None = IsNotFound
  IsSearchResult stacks graph (Some endings) =
      IsFoundBy (token_by index parts) search.terms.now.costs search.point.now search.limit (nodes_of stacks graph)
      (plain_links index graph.links.items) (plain_endings index endings.items)

  -- how many configurations are found, the links between them, and the last steps
  pub record IsFoundWith (linked : Linked S) : Type 0 where
    pub nodes : List Configured
    pub count : linked.len ≡ length nodes
    pub found : IsFoundBy (token_by index parts) search.terms.now.costs search.point.now search.limit nodes
        (plain_links index linked.links.items) (plain_endings index linked.endings.items)

  -- what is found
  abbrev pub IsFoundIn : Option (Linked S) → Type 0
  IsFoundIn None = IsNotFound
  IsFoundIn (Some linked) = IsFoundWith linked
