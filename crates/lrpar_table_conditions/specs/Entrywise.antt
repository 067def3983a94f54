-- The safety conditions of a state, entry by entry. A condition that isn't named requires nothing of an entry.
use Rattle.std.specs.Prelude.{◌≡◌, ◌≢◌, ◌<◌, ℕ}
use Rattle.lrpar_grammar.specs.Grammar.{Grammar, Nonterminal, Terminal, end_token, prod_len, prods_len, start_prod}
use Rattle.lrpar_table_rows.specs.Graph.{Graph, HasCore}
use Rattle.lrpar_table_rows.specs.Safe.{CoresFollow}
use Rattle.lrpar_table_rows.specs.Table.{Table, TableAction, ShiftTo, ReduceBy, Accepts, Fails}
use Rattle.lrpar_table_rows.specs.declared.condition.SafetyCondition.{SafetyCondition}
use Rattle.lrpar_table_rows.specs.declared.condition.SafetyCondition.TheVariants.{S3, S4, S5, S7, S8}

-- what a condition requires of state s if s shifts token t to state next
abbrev pub ShiftHolds : Grammar → Graph → Table → SafetyCondition → ℕ → ℕ → ℕ → Type 0
ShiftHolds g graph table S3 s t next = t ≢ end_token g
ShiftHolds g graph table S4 s t next = CoresFollow g graph s (Terminal t) next
ShiftHolds g graph table S8 s t next = next ≢ table.start
ShiftHolds g graph table _ s t next = Unit {0}

-- what a condition requires of state s if s reduces by p
abbrev pub ReduceHolds : Grammar → Graph → SafetyCondition → ℕ → ℕ → Type 0
ReduceHolds g graph S5 s p = (p ≢ start_prod g) × HasCore graph s p (prod_len g p)
ReduceHolds g graph _ s p = Unit {0}

-- what a condition requires of state s if s accepts at token t
abbrev pub AcceptHolds : Grammar → Graph → SafetyCondition → ℕ → ℕ → Type 0
AcceptHolds g graph S7 s t = (t ≡ end_token g) × HasCore graph s (start_prod g) 1
AcceptHolds g graph _ s t = Unit {0}

-- what a condition requires of state s if s has this action at token t
abbrev pub ActionHolds : Grammar → Graph → Table → SafetyCondition → ℕ → ℕ → TableAction → Type 0
ActionHolds g graph table condition s t (ShiftTo next) = ShiftHolds g graph table condition s t next
ActionHolds g graph table condition s t (ReduceBy p) = ReduceHolds g graph condition s p
ActionHolds g graph table condition s t Accepts = AcceptHolds g graph condition s t
ActionHolds g graph table condition s t Fails = Unit {0}

-- what a condition requires of state s if s has a goto to state next by rule r
abbrev pub GotoHolds : Grammar → Graph → Table → SafetyCondition → ℕ → ℕ → ℕ → Type 0
GotoHolds g graph table S4 s r next = CoresFollow g graph s (Nonterminal r) next
GotoHolds g graph table S8 s r next = next ≢ table.start
GotoHolds g graph table _ s r next = Unit {0}

-- if the action is a reduction, it is by a production of the grammar
abbrev pub IsInRange : Grammar → TableAction → Type 0
IsInRange g (ShiftTo next) = Unit {0}
IsInRange g (ReduceBy p) = p < prods_len g
IsInRange g Accepts = Unit {0}
IsInRange g Fails = Unit {0}
