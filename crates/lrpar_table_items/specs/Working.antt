-- Data for building states: FIRST sets and scratch space for closures, and the kernels of all symbols.
use Rattle.std.specs.Prelude.{◌≡◌, ◌<◌, ◌+◌, ◌||◌, ◌↔◌, ℕ, Bool, false, List, length, map, slice_set}
use Rattle.std.specs.Bool.{OnFalse, OnTrue}
use Rattle.std.specs.declared.vec.Vec.{Vec}
use Rattle.lrpar_grammar.specs.Grammar.{Grammar, Nonterminal, Terminal, rules_len, tokens_len}
use Rattle.lrpar_grammar.specs.Tokens.{has}
use Rattle.lrpar_table_first.specs.FirstRows.{AreFirsts, HaveRoom, dummy_lookahead, row_at, rows_of, total_missing}
use Rattle.lrpar_table_items.specs.Brought.{AreBroughtFrom, HasIn, IsBrought, IsSpreadOf, Keeps}
use Rattle.lrpar_table_items.specs.Cores.{core_set}
use Rattle.lrpar_table_items.specs.Next.{AreNext, kernel_rows}
use Rattle.lrpar_table_items.specs.declared.sets.Sets.{Sets}
use Rattle.lrpar_table_items.specs.declared.successors.Successors.{Successors}

-- FIRST sets, and scratch space for closures, of the right sizes
pub record AreSets (g : Grammar) (sets : Sets) : Type 0 where
  pub firsts : AreFirsts g (rows_of sets.firsts.items)
  pub room : HaveRoom g (rows_of sets.brought.items)
  pub waits : length sets.waits.items ≡ rules_len g
  pub front : length sets.front ≡ dummy_lookahead g + 1
  pub fresh : length sets.fresh ≡ dummy_lookahead g + 1

-- the lookaheads that are brought to each rule
abbrev pub brought_rows : Sets → List (List Bool)
brought_rows sets = rows_of sets.brought.items

-- rule n doesn't wait to pass its lookaheads on
abbrev pub Rests : Sets → ℕ → Type 0
Rests sets n = has sets.waits.items n ≡ false

-- each rule that doesn't wait has passed its lookaheads on
abbrev pub AreSpreadButWaiting : Grammar → Sets → Type 0
AreSpreadButWaiting g sets = (n : ℕ) → Rests sets n → IsSpreadOf g (brought_rows sets) n

-- a rule that doesn't wait afterwards didn't wait before, and has the lookaheads that it had
abbrev pub KeepsResting : Sets → Sets → Type 0
KeepsResting before after = (n : ℕ) → Rests after n → Rests before n × (row_at (brought_rows after) n ≡ row_at (brought_rows before) n)

-- the lookaheads of each rule are those that the closure of the earlier ones brings to it
abbrev pub IsClosureOfBrought : Grammar → Sets → Sets → Type 0
IsClosureOfBrought g old new = (r t : ℕ) → HasIn (brought_rows new) r t ↔ IsBrought g (HasIn (brought_rows old)) r t

-- no rule waits
abbrev pub AllRest : Grammar → Sets → Type 0
AllRest g sets = (n : ℕ) → n < rules_len g → Rests sets n

-- the rules that wait are those that waited before
abbrev pub WaitAsBefore : Sets → Sets → Type 0
WaitAsBefore old new = new.waits.items ≡ old.waits.items

-- the rule was marked, if its lookaheads have grown
abbrev pub MarksIf : {A B : Type 0} → Bool → ℕ → Vec Bool A → Vec Bool B → Type 0
MarksIf grown rule old new = new.items ≡ slice_set old.items rule (has old.items rule || grown)

-- lookaheads were passed on: none is lost, and the new ones are in the closure of the old ones. The flag says whether there are new ones.
pub record HasGrown (g : Grammar) (flag : Bool) (before after : Sets) : Type 0 where
  pub kept : Keeps (brought_rows before) (brought_rows after)
  pub sound : AreBroughtFrom g (brought_rows before) (brought_rows after)
  pub grown : OnTrue flag (total_missing (brought_rows after) < total_missing (brought_rows before))
  pub same : OnFalse flag (brought_rows after ≡ brought_rows before)

-- a kernel for each rule and one for each token: those to which the cores go by these symbols
pub record AreSuccessors {S : Type 0} (index : S → ℕ) (g : Grammar) (successors : Successors S) : Type 0 where
  pub rules_len : length successors.rules.items ≡ rules_len g
  pub tokens_len : length successors.tokens.items ≡ tokens_len g
  pub rules : AreNext g (map (core_set index) successors.items.items) Nonterminal (kernel_rows index successors.rules.items)
  pub tokens : AreNext g (map (core_set index) successors.items.items) Terminal (kernel_rows index successors.tokens.items)
