-- The rounds of a search. At the head of round c it has the configurations that are nearer than c, by numbers, those of lesser distance
-- first, and the links between them. It lists the steps other than Shifts that make c together with the distance of where they begin, and
-- tries them. If a parse can go on after one, c is the least cost of a repair. If not, where they lead is added, and where Shifts lead.
use Rattle.std.specs.Prelude.{◌≡◌, ◌≢◌, ◌<◌, ◌≤◌, ◌+◌, ◌↔◌, ◌⊎◌, ◌++◌, ℕ, List, length, slice_get, Option, Some, None}
use Rattle.std.specs.List.{Contains}
use Rattle.lrpar_grammar.specs.Grammar.{end_token}
use Rattle.lrpar_table_rows.specs.Table.{Fails}
use Rattle.lrpar_table_stacks.specs.Reduction.{top_action}
use Rattle.lrpar_table_stacks.specs.Run.{token_at}
use Rattle.lrpar_parse_repair.specs.Asked.{Asked}
use Rattle.lrpar_parse_repair.specs.Sequences.{PlainStep, PlainInsert, PlainDelete, PlainShift}
use Rattle.lrpar_parse_cpctplus.specs.AnyForm.{WorksAt}
use Rattle.lrpar_parse_cpctplus.specs.Cheapest.{AreAtMost, IsLeastCost, cost_of}
use Rattle.lrpar_parse_cpctplus.specs.Configurations.{Configured, GoesOnFrom, IsDistance, IsEdge, IsNearer, edge_cost, root_of}
use Rattle.lrpar_parse_cpctplus.specs.Costs.{token_cost}
use Rattle.lrpar_parse_cpctplus.specs.Graph.{PlainEnding, PlainLink, AreEndings, HaveEndings, IsGraph, IsLinkAmong}
use Rattle.lrpar_parse_cpctplus.specs.Levels.{AreLevels, IsAt, first_of}
use Rattle.lrpar_parse_cpctplus.specs.Reaching.{Reaches}

-- a step from a configuration, by its number
pub record PlainAttempt : Type 0 where
  pub from : ℕ
  pub step : PlainStep

-- no two numbers have the same
abbrev pub AreOnce : {A : Type 0} → List A → Type 0
AreOnce {A} xs = (i j : ℕ) (x : A) → slice_get xs i ≡ Some x → slice_get xs j ≡ Some x → i ≡ j

-- each element of the first list is in the other one
abbrev pub AreAllIn : {A : Type 0} → List A → List A → Type 0
AreAllIn {A} xs all = (x : A) → Contains xs x → Contains all x

-- the elements that have P were appended, each once
pub record Adds {A : Type 0} (P : A → Type 0) (old new : List A) : Type 0 where
  pub more : List A
  pub is : new ≡ old ++ more
  pub exact : (x : A) → Contains more x ↔ P x
  pub once : AreOnce more

-- what tokens cost, each once
pub record AreWeights (costs weights : List ℕ) : Type 0 where
  pub some : (t : ℕ) → Contains weights (token_cost costs t)
  pub once : AreOnce weights

-- an Insert of one of these tokens, below the end token, that costs this much
abbrev pub IsInsertOf : List ℕ → ℕ → List ℕ → ℕ → ℕ → PlainAttempt → Type 0
IsInsertOf costs end tokens from weight x =
    (x.from ≡ from) × ((t : ℕ) × (x.step ≡ PlainInsert t) × Contains tokens t × (t < end) × (token_cost costs t ≡ weight))

-- a Delete of the lexeme at the place, if one is left there and its token costs this much
abbrev pub IsDeleteOf : {X : Type 0} → (X → ℕ) → List ℕ → Asked X → ℕ → ℕ → ℕ → PlainAttempt → Type 0
IsDeleteOf token costs at place from weight x =
    (x.from ≡ from) × (x.step ≡ PlainDelete) × (place < length at.lexemes)
    × (token_cost costs (token_at token at.checked.grammar at.lexemes place) ≡ weight)

module _ {X : Type 0} (token : X → ℕ) (at : Asked X) where
  -- A step that is tried at u: an Insert of a token at which the top state has an action, or a Delete of a lexeme that is left.
  abbrev pub IsTried : Configured → PlainStep → Type 0
  IsTried u (PlainInsert t) = (t < end_token at.checked.grammar) × (top_action at.checked.table t u.stack ≢ Fails)
  IsTried u PlainDelete = u.place < length at.lexemes
  IsTried u PlainShift = ⊥

  -- the step leads to this configuration, or it can't be taken
  abbrev pub LeadsOn : Configured → PlainStep → Option Configured → Type 0
  LeadsOn u step None = (v : Configured) → ¬ (IsEdge token at u step v)
  LeadsOn u step (Some v) = IsEdge token at u step v

  -- a parse goes on to place `far` from v
  abbrev pub ReachesFrom : Configured → ℕ → Type 0
  ReachesFrom v far = Reaches token at.checked.grammar at.checked.table at.lexemes (at.place + 250) v.stack v.place far

  -- the step leads to where a parse can go on, and it goes on to place `far`
  pub record EndsAt (u : Configured) (step : PlainStep) (far : ℕ) : Type 0 where
    pub head : Configured
    pub edge : IsEdge token at u step head
    pub goes_on : GoesOnFrom token at head
    pub reach : ReachesFrom head far

  -- the place to which a parse goes on after the step; none if it can't go on, or the step can't be taken
  abbrev pub IsReach : Configured → PlainStep → Option ℕ → Type 0
  IsReach u step None = (v : Configured) → IsEdge token at u step v → ¬ (GoesOnFrom token at v)
  IsReach u step (Some far) = EndsAt u step far

  -- the last step of repairs is one of these steps, and a parse can go on after it
  abbrev pub IsEndingOf : List Configured → List PlainAttempt → PlainEnding → Type 0
  IsEndingOf nodes attempts ending =
      Contains attempts (record { from = ending.from; step = ending.step })
      × ((u : Configured) × (slice_get nodes ending.from ≡ Some u) × EndsAt u ending.step ending.reach)

  -- the last steps of repairs among these steps, each once
  pub record AreEndingsOf (nodes : List Configured) (attempts : List PlainAttempt) (endings : List PlainEnding) : Type 0 where
    pub each : (ending : PlainEnding) → Contains endings ending → IsEndingOf nodes attempts ending
    pub all : (x : PlainAttempt) (u v : Configured) → Contains attempts x → slice_get nodes x.from ≡ Some u → IsEdge token at u x.step v
        → GoesOnFrom token at v → (far : ℕ) × Contains endings (record { reach = far; from = x.from; step = x.step })
    pub once : AreOnce endings

  -- the link is a step between two of the configurations
  abbrev pub IsStepAmong : List Configured → PlainLink → Type 0
  IsStepAmong nodes link =
      (u v : Configured) × (slice_get nodes link.from ≡ Some u) × (slice_get nodes link.to ≡ Some v) × IsEdge token at u link.step v

module _ {X : Type 0} (token : X → ℕ) (costs : List ℕ) (at : Asked X) where
  -- a step of this cost that is tried at u, which has the number `from`
  abbrev pub IsAttemptOf : Configured → ℕ → ℕ → PlainAttempt → Type 0
  IsAttemptOf u from weight x = (x.from ≡ from) × IsTried token at u x.step × (edge_cost token costs at u x.step ≡ weight)

  -- a step of this cost that is tried at a configuration whose number is in this range
  abbrev pub IsAttemptWithin : List Configured → ℕ → ℕ → ℕ → PlainAttempt → Type 0
  IsAttemptWithin nodes first next weight x =
      (first ≤ x.from) × (x.from < next)
      × ((u : Configured) × (slice_get nodes x.from ≡ Some u) × IsTried token at u x.step × (edge_cost token costs at u x.step ≡ weight))

  -- a step of this cost that is tried at a configuration whose distance makes c with the cost
  abbrev pub IsAttemptBy : List Configured → List ℕ → ℕ → ℕ → PlainAttempt → Type 0
  IsAttemptBy nodes firsts c weight x =
      (d : ℕ) × (d + weight ≡ c) × IsAttemptWithin nodes (first_of firsts (length nodes) d) (first_of firsts (length nodes) (d + 1)) weight x

  -- a step that is tried, and makes c together with the distance of where it begins
  abbrev pub IsAttemptAt : List Configured → List ℕ → ℕ → PlainAttempt → Type 0
  IsAttemptAt nodes firsts c x =
      (u : Configured) × (slice_get nodes x.from ≡ Some u) × IsTried token at u x.step
      × ((d : ℕ) × IsAt firsts (length nodes) d x.from × (d + edge_cost token costs at u x.step ≡ c))

  -- these are the steps that are tried in round c, each once
  pub record AreAttempts (nodes : List Configured) (firsts : List ℕ) (c : ℕ) (attempts : List PlainAttempt) : Type 0 where
    pub exact : (x : PlainAttempt) → Contains attempts x ↔ IsAttemptAt nodes firsts c x
    pub once : AreOnce attempts

  -- no sequence that works costs less than c
  abbrev pub CostsAtLeast : ℕ → Type 0
  CostsAtLeast c = (steps : List PlainStep) → WorksAt token at steps → c ≤ cost_of token costs at steps

  -- What is known at the head of a round, whose cost is the number of distances.
  pub record IsRound (nodes : List Configured) (firsts : List ℕ) (links : List PlainLink) : Type 0 where
    pub levels : AreLevels firsts (length nodes)
    pub root : slice_get nodes 0 ≡ Some (root_of at)
    pub once : AreOnce nodes
    pub each : (d n : ℕ) (v : Configured) → IsAt firsts (length nodes) d n → slice_get nodes n ≡ Some v → IsDistance token costs at v d
    pub all : (v : Configured) → IsNearer token costs at (length firsts) v → (n : ℕ) × (slice_get nodes n ≡ Some v)
    pub least : CostsAtLeast (length firsts)
    pub linked : (link : PlainLink) → Contains links link ↔ IsLinkAmong token costs at (length firsts) nodes link
    pub links_once : AreOnce links

  -- The graph while what is at distance c is added: all that is nearer is there, and numbers from the first one on are at distance c.
  pub record IsGrowing (first c : ℕ) (nodes : List Configured) (links : List PlainLink) : Type 0 where
    pub once : AreOnce nodes
    pub links_once : AreOnce links
    pub start : first ≤ length nodes
    pub nearer : (v : Configured) → IsNearer token costs at c v → (n : ℕ) × (slice_get nodes n ≡ Some v)
    pub lower : (n : ℕ) (v : Configured) → slice_get nodes n ≡ Some v → IsNearer token costs at (c + 1) v
    pub level : (n : ℕ) (v : Configured) → first ≤ n → slice_get nodes n ≡ Some v → IsDistance token costs at v c

  -- a step that makes c together with the distance of where it begins, and that no link to what is at distance c has yet
  pub record IsDue (first c : ℕ) (nodes : List Configured) (links : List PlainLink) (from : ℕ) (step : PlainStep) : Type 0 where
    pub tail : Configured
    pub at_from : slice_get nodes from ≡ Some tail
    pub distance : ℕ
    pub far : IsDistance token costs at tail distance
    pub sum : distance + edge_cost token costs at tail step ≡ c
    pub fresh : (link : PlainLink) → Contains links link → link.from ≡ from → link.step ≡ step → link.to < first

  -- By the steps that have `Done` the graph has grown: where they lead was added, with the links to what is at distance c.
  pub record Grows (first c : ℕ) (Done : ℕ → PlainStep → Type 0) (nodes : List Configured) (links : List PlainLink)
      (new_nodes : List Configured) (new_links : List PlainLink) : Type 0 where
    pub growing : IsGrowing first c new_nodes new_links
    pub nodes_stay : (more : List Configured) × (new_nodes ≡ nodes ++ more)
    pub inner : (from : ℕ) (step : PlainStep) → Done from step → from < length new_nodes
    pub reached : (from : ℕ) (step : PlainStep) (u v : Configured) → Done from step → slice_get new_nodes from ≡ Some u → IsEdge token at u step v
        → (n : ℕ) × (slice_get new_nodes n ≡ Some v)
    pub links_stay : (link : PlainLink) → Contains links link → Contains new_links link
    pub links_from : (link : PlainLink) → Contains new_links link
        → Contains links link ⊎ ((first ≤ link.to) × Done link.from link.step × IsStepAmong token at new_nodes link)
    pub links_done : (link : PlainLink) → first ≤ link.to → Done link.from link.step → IsStepAmong token at new_nodes link → Contains new_links link

  -- more configurations than may be kept are nearer than a number, and no sequence that works costs less
  pub record IsPastLimit (limit : ℕ) (nodes : List Configured) : Type 0 where
    pub bound : ℕ
    pub least : CostsAtLeast bound
    pub once : AreOnce nodes
    pub nearer : (n : ℕ) (v : Configured) → slice_get nodes n ≡ Some v → IsNearer token costs at bound v
    pub more : limit < length nodes

  -- nothing is found: at no least cost of a repair the limit allows to keep all that is nearer
  abbrev pub IsNothingFound : ℕ → Type 0
  IsNothingFound limit = (c : ℕ) → IsLeastCost token costs at c → ¬ (AreAtMost limit (IsNearer token costs at c))

  -- what is found: the graph of all that is nearer than the least cost of a repair, within the limit, and the last steps at that cost
  pub record IsFoundBy (limit : ℕ) (nodes : List Configured) (links : List PlainLink) (endings : List PlainEnding) : Type 0 where
    pub cost : ℕ
    pub least : IsLeastCost token costs at cost
    pub graph : IsGraph token costs at cost nodes links
    pub lasts : AreEndings token costs at cost nodes endings
    pub measured : HaveEndings token costs at cost nodes endings
    pub within : length nodes ≤ limit

-- the step from the configuration with this number is this one
abbrev pub IsThis : ℕ → PlainStep → ℕ → PlainStep → Type 0
IsThis from step other other_step = (other ≡ from) × (other_step ≡ step)

-- the step from the configuration with this number is among these steps
abbrev pub IsAmong : List PlainAttempt → ℕ → PlainStep → Type 0
IsAmong attempts from step = Contains attempts (record { from = from; step = step })

-- the step is a Shift from a configuration with a number in this range
abbrev pub IsShiftWithin : ℕ → ℕ → ℕ → PlainStep → Type 0
IsShiftWithin first next from step = (first ≤ from) × (from < next) × (step ≡ PlainShift)
