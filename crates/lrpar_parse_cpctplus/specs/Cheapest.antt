-- The repair sequences of least cost at an error point, after Diekmann and Tratt, 'Don't Panic! Better, Fewer, Syntax Errors for LR
-- Parsers'. A configuration is a stack and a place among the lexemes.
use Rattle.std.specs.Prelude.{◌≡◌, ◌≤◌, ℕ, List, length}
use Rattle.std.specs.List.{Contains}
use Rattle.lrpar_grammar.specs.Grammar.{end_token}
use Rattle.lrpar_parse_repair.specs.Asked.{Asked}
use Rattle.lrpar_parse_repair.specs.Sequences.{PlainStep, Replays, Works}
use Rattle.lrpar_parse_cpctplus.specs.Costs.{steps_cost}
use Rattle.lrpar_parse_cpctplus.specs.Forms.{IsPrinted}

-- at most n things have P
abbrev pub AreAtMost : {A : Type 0} → ℕ → (A → Type 0) → Type 0
AreAtMost {A} n P = (xs : List A) × ((x : A) → P x → Contains xs x) × (length xs ≤ n)

module _ {X : Type 0} (token : X → ℕ) (at : Asked X) where
  -- from the configuration at the error point the steps can be taken in turn, and lead to the stack `after` at place j
  abbrev pub LeadsTo : List PlainStep → List ℕ → ℕ → Type 0
  LeadsTo steps after j = (prods : List ℕ) × Replays token at.checked.grammar at.checked.table at.lexemes at.stack at.place steps prods after j

  -- a repair: a well-formed sequence without a Shift at its end that works at the error point
  pub record IsRepair (steps : List PlainStep) : Type 0 where
    pub printed : IsPrinted (end_token at.checked.grammar) steps
    pub works : Works token at.checked.grammar at.checked.table at.lexemes at.shifts at.stack at.place steps

module _ {X : Type 0} (token : X → ℕ) (costs : List ℕ) (at : Asked X) where
  -- what a sequence costs at the error point
  abbrev pub cost_of : List PlainStep → ℕ
  cost_of steps = steps_cost token at.checked.grammar at.lexemes costs at.place steps

  -- a repair that costs c
  abbrev pub RepairsAt : ℕ → List PlainStep → Type 0
  RepairsAt c steps = IsRepair token at steps × (cost_of steps ≡ c)

  -- c is the least that a repair costs
  pub record IsLeastCost (c : ℕ) : Type 0 where
    pub some : (steps : List PlainStep) × RepairsAt c steps
    pub none : (steps : List PlainStep) → IsRepair token at steps → c ≤ cost_of steps
