-- When a table is complete: each state has the closure of its items, and the actions and gotos that its items call for. These
-- are the conditions of Jourdan, Pottier and Leroy, 'Validating LR(1) parsers', by which a run accepts each sentence, with its
-- only tree. The conditions speak of states alone, not of runs. Items are written as in Safe.antt.
use Rattle.std.specs.Prelude.{◌≡◌, ◌≢◌, ◌<◌, ◌+◌, ℕ, List, ◌∷◌, Some, drop, slice_get}
use Rattle.lrpar_grammar.specs.Grammar.{Grammar, GrammarSymbol, Nonterminal, Terminal, end_token, prod_len, prods_len, rule_of, start_prod, symbols_of}
use Rattle.lrpar_table_first.specs.First.{IsFirst}
use Rattle.lrpar_table_rows.specs.Graph.{Graph, HasItem}
use Rattle.lrpar_table_rows.specs.Safe.{GoesBy}
use Rattle.lrpar_table_rows.specs.Table.{Table, ReduceBy, Accepts, action_of, states_len}
use Rattle.lrpar_table_conditions.specs.Completeness.{condition_number}
use Rattle.lrpar_table_conditions.specs.declared.completeness_fault.CompleteFault.{CompleteFault}
use Rattle.lrpar_table_conditions.specs.declared.completeness_fault.CompleteFault.TheVariants.{Condition, Memory}
use Rattle.lrpar_table_conditions.specs.declared.completeness.CompletenessCondition.{CompletenessCondition}
use Rattle.lrpar_table_conditions.specs.declared.completeness.CompletenessCondition.TheVariants.{C1, C2, C3, C4, C5}

-- C1: the start state has the start item `^: . S  {end}`
abbrev pub HasStartItem : Grammar → Graph → Table → ℕ → Type 0
HasStartItem g graph table s = s ≡ table.start → HasItem graph s (start_prod g) 0 (end_token g)

-- C2, closure, for an item `A: v . B w  {t}` of s: s has `B: . u  {b}` for each production of B and each b of First(w, t)
abbrev pub ClosesItem : Grammar → Graph → ℕ → ℕ → ℕ → ℕ → Type 0
ClosesItem g graph s p k t =
    (r : ℕ) (w : List GrammarSymbol) → drop k (symbols_of g p) ≡ Nonterminal r ∷ w
    → (q b : ℕ) → q < prods_len g → rule_of g q ≡ r → IsFirst g t w b → HasItem graph s q 0 b

-- for an item `A: v . X w  {t}`: s goes by X to a state that has `A: v X . w  {t}`
abbrev pub StepsOn : Graph → Table → ℕ → GrammarSymbol → ℕ → ℕ → ℕ → Type 0
StepsOn graph table s x p k t = (next : ℕ) × GoesBy table s x next × HasItem graph next p (k + 1) t

-- C3, for an item of s with a token after the dot: s shifts it to a state with the advanced item
abbrev pub ShiftsItem : Grammar → Graph → Table → ℕ → ℕ → ℕ → ℕ → Type 0
ShiftsItem g graph table s p k t = (a : ℕ) → slice_get (symbols_of g p) k ≡ Some (Terminal a) → StepsOn graph table s (Terminal a) p k t

-- C4, for an item of s with a rule after the dot: s has a goto by it to a state with the advanced item
abbrev pub CarriesItem : Grammar → Graph → Table → ℕ → ℕ → ℕ → ℕ → Type 0
CarriesItem g graph table s p k t = (r : ℕ) → slice_get (symbols_of g p) k ≡ Some (Nonterminal r) → StepsOn graph table s (Nonterminal r) p k t

-- C5, for a complete item `A: v .  {t}` of s: at lookahead t, s reduces by it; and if it is `^: S .  {t}`, s accepts
pub record EndsItem (g : Grammar) (table : Table) (s p k t : ℕ) : Type 0 where
  pub reduces : k ≡ prod_len g p → p ≢ start_prod g → action_of table s t ≡ ReduceBy p
  pub accepts : k ≡ prod_len g p → p ≡ start_prod g → action_of table s t ≡ Accepts

-- this holds for each item of s
abbrev pub EachItem : Graph → ℕ → (ℕ → ℕ → ℕ → Type 0) → Type 0
EachItem graph s Holds = (p k t : ℕ) → HasItem graph s p k t → Holds p k t

-- the condition holds at state s
abbrev pub IsCompleteAt : Grammar → Graph → Table → CompletenessCondition → ℕ → Type 0
IsCompleteAt g graph table C1 s = HasStartItem g graph table s
IsCompleteAt g graph table C2 s = EachItem graph s (ClosesItem g graph s)
IsCompleteAt g graph table C3 s = EachItem graph s (ShiftsItem g graph table s)
IsCompleteAt g graph table C4 s = EachItem graph s (CarriesItem g graph table s)
IsCompleteAt g graph table C5 s = EachItem graph s (EndsItem g table s)

-- the table is complete: each condition holds at each state
pub record IsComplete (g : Grammar) (graph : Graph) (table : Table) : Type 0 where
  pub each : (condition : CompletenessCondition) (s : ℕ) → s < states_len table → IsCompleteAt g graph table condition s

-- the condition fails at state s, and at no state before it
pub record FailsFirstAt (g : Grammar) (graph : Graph) (table : Table) (condition : CompletenessCondition) (s : ℕ) : Type 0 where
  pub within : s < states_len table
  pub fails : ¬ (IsCompleteAt g graph table condition s)
  pub earlier : (r : ℕ) → r < s → IsCompleteAt g graph table condition r

-- the condition fails first at state s, and each condition before it, by number, holds at each state
pub record IsFirstFault (g : Grammar) (graph : Graph) (table : Table) (condition : CompletenessCondition) (s : ℕ) : Type 0 where
  pub conditions : (earlier : CompletenessCondition) → condition_number earlier < condition_number condition
      → (r : ℕ) → r < states_len table → IsCompleteAt g graph table earlier r
  pub state : FailsFirstAt g graph table condition s

-- the fault names the first condition that fails, at the first state at which it fails; `Memory` says nothing of the table
abbrev pub IsCompleteFault : Grammar → Graph → Table → CompleteFault → Type 0
IsCompleteFault g graph table (Condition condition s) = IsFirstFault g graph table condition s
IsCompleteFault g graph table Memory = Unit {0}
