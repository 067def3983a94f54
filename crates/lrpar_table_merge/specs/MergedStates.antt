-- States of merged item sets, and the transitions of code as those of a specification.
use Rattle.std.specs.Prelude.{ℕ, List, Option, length, map, nat_eq}
use Rattle.std.specs.Map.{lookup}
use Rattle.lrpar_grammar.specs.Grammar.{Grammar, GrammarSymbol, Nonterminal, Terminal}
use Rattle.lrpar_table_items.specs.States.{AreStateRows, StateOf, sets_at, state_at}
use Rattle.lrpar_table_merge.specs.Distinct.{AreDistinct}
use Rattle.lrpar_table_merge.specs.Held.{TransitionsOf}
use Rattle.lrpar_table_merge.specs.Merged.{Along, AreMerged}
use Rattle.lrpar_table_merge.specs.declared.held.Transitions.{Transitions}

-- the transitions that a value of code represents
abbrev pub transitions_of : Transitions → TransitionsOf
transitions_of transitions = record { rules = transitions.rules.items; tokens = transitions.tokens.items }

-- the transitions of all states
abbrev pub all_transitions : List Transitions → List TransitionsOf
all_transitions all = map transitions_of all

-- where state s goes by the symbol, as its rows say
abbrev pub steps_of_states : List StateOf → ℕ → GrammarSymbol → Option ℕ
steps_of_states states s (Nonterminal r) = lookup (nat_eq r) (state_at states s).gotos
steps_of_states states s (Terminal t) = lookup (nat_eq t) (state_at states s).shifts

-- the states' item sets are merged ones, no two of which have the same items, and their transitions go along their rows
pub record AreMergedStates (g : Grammar) (states : List StateOf) : Type 0 where
  pub rows : AreStateRows g states
  pub merged : AreMerged g (length states) (sets_at states) (Along (steps_of_states states))
  pub distinct : AreDistinct (length states) (sets_at states)
