-- The stack of a run, as plain lists, bottom first: its states, and entries that represent the trees between them. Three relations
-- say what a parse builds. `leaf x e`: entry e may represent lexeme x. `node p before es e`: e may represent a node of production p
-- whose children have the entries es, and which has `before` to its left. `suits s e`: e may be an entry of symbol s.
use Rattle.std.specs.Prelude.{◌≡◌, ◌-◌, ℕ, List, [], ◌∷◌, ◌++◌, length, reverse, slice_get, take, drop, Option, Some, None, Vec}
use Rattle.std.specs.List.{AllZip, last_or}
use Rattle.lrpar_grammar_places.specs.declared.span.StIdx.{StIdx}
use Rattle.lrpar_grammar.specs.Grammar.{Grammar, GrammarSymbol, Nonterminal, rule_of, prod_len}
use Rattle.lrpar_grammar.specs.Tree.{Tree, Forest, Leaf, Branch, Nil, Cons}
use Rattle.lrpar_table_rows.specs.Table.{Table}
use Rattle.lrpar_parse_run.specs.Building.{Building, IsShifted}
use Rattle.lrpar_table_stacks.specs.Path.{IsPath}
use Rattle.lrpar_table_stacks.specs.Reduction.{Reduces}
use Rattle.lrpar_table_stacks.specs.Stack.{top_of}

-- the states, and for each but the lowest the entry of the symbol that led to it
pub record Stacked (E : Type 0) : Type 0 where
  pub states : List ℕ
  pub entries : List E

-- the stacks with this state and no entry
abbrev pub begun : {E : Type 0} → ℕ → Stacked E
begun state = record { states = state ∷ []; entries = [] }

-- the stacks have this state, as it is stored, and no entry; `index` gives the number of a value of the storage type
abbrev pub HasBegun : {S E : Type 0} → (S → ℕ) → StIdx S → Stacked E → Type 0
HasBegun index state stacks = stacks ≡ begun (index state.0)

-- the state is on top
abbrev pub IsTopState : {S E : Type 0} → (S → ℕ) → Stacked E → StIdx S → Type 0
IsTopState index stacks state = top_of stacks.states ≡ Some (index state.0)

-- the state is at this height, counted from 0
abbrev pub IsStateAt : {S E : Type 0} → (S → ℕ) → Stacked E → ℕ → StIdx S → Type 0
IsStateAt index stacks at state = slice_get stacks.states at ≡ Some (index state.0)

-- the states stay
abbrev pub KeepsStates : {E : Type 0} → Stacked E → Stacked E → Type 0
KeepsStates old new = new.states ≡ old.states

-- a state is pushed, with an entry of lexeme x, whose token is t
pub record IsPushed {X E : Type 0} (builds : Building X E) (state t : ℕ) (x : X) (old new : Stacked E) : Type 0 where
  pub states : new.states ≡ old.states ++ state ∷ []
  pub entries : IsShifted builds t x old.entries new.entries

-- the n elements on top of a stack
abbrev pub on_top : {E : Type 0} → ℕ → List E → List E
on_top n stack = drop (length stack - n) stack

-- the elements below the n on top of a stack
abbrev pub below_top : {E : Type 0} → ℕ → List E → List E
below_top n stack = take (length stack - n) stack

-- the n elements on top are popped
abbrev pub Pops : {E Z : Type 0} → ℕ → Vec E Z → Vec E Z → Type 0
Pops n old new = new.items ≡ below_top n old.items

-- the n elements on top are reversed
abbrev pub TurnsTop : {E Z : Type 0} → ℕ → Vec E Z → Vec E Z → Type 0
TurnsTop n old new = new.items ≡ below_top n old.items ++ reverse (on_top n old.items)

-- each element of the list is made of one of the n on top, place by place; `makes` says what may be made of an element
abbrev pub AreOfTop : {E V Y Z : Type 0} → (E → V → Type 0) → ℕ → Vec E Y → Vec V Z → Type 0
AreOfTop makes n entries made = AllZip makes (on_top n entries.items) made.items

-- the entries that a reduction by p leaves
abbrev pub kept_by : {E : Type 0} → Grammar → ℕ → List E → List E
kept_by g p entries = below_top (prod_len g p) entries

-- the entries that a reduction by p pops
abbrev pub popped_by : {E : Type 0} → Grammar → ℕ → List E → List E
popped_by g p entries = on_top (prod_len g p) entries

module _ {X E : Type 0} (leaf : X → E → Type 0) (node : ℕ → Option E → List E → E → Type 0) where
  -- the entry represents the tree, with `before` to its left
  abbrev mutual
    pub Represents : Option E → Tree X → E → Type 0
    Represents before (Leaf x) e = leaf x e
    Represents before (Branch p children) e = (es : List E) × AllRepresent before children es × node p before es e

    -- the entries represent trees side by side, one each
    pub AllRepresent : Option E → Forest X → List E → Type 0
    AllRepresent before Nil [] = Unit {0}
    AllRepresent before Nil (e ∷ es) = ⊥
    AllRepresent before (Cons t ts) [] = ⊥
    AllRepresent before (Cons t ts) (e ∷ es) = Represents before t e × AllRepresent (Some e) ts es

-- symbols lead from state to state, and for each symbol there is an entry that suits it
pub record IsRunStack {E : Type 0} (suits : GrammarSymbol → E → Type 0) (table : Table) (stack : Stacked E) : Type 0 where
  pub symbols : List GrammarSymbol
  pub path : IsPath table symbols stack.states
  pub suit : AllZip suits symbols stack.entries

-- at token t the stacks reduce by production p: the states do, and the entries of its symbols are replaced by that of a node of p over
-- them
pub record ReducesTo {E : Type 0} (node : ℕ → Option E → List E → E → Type 0) (suits : GrammarSymbol → E → Type 0) (g : Grammar) (table : Table) (t : ℕ) (old : Stacked E) (p : ℕ) (new : Stacked E) : Type 0 where
  pub of_states : Reduces g table t old.states p new.states
  pub entry : E
  pub made : node p (last_or None (kept_by g p old.entries)) (popped_by g p old.entries) entry
  pub suit : suits (Nonterminal (rule_of g p)) entry
  pub of_entries : new.entries ≡ kept_by g p old.entries ++ entry ∷ []

-- at token t the stacks reduce by these productions, in this order
abbrev pub ReducesAllTo : {E : Type 0} → (ℕ → Option E → List E → E → Type 0) → (GrammarSymbol → E → Type 0) → Grammar → Table → ℕ → Stacked E → List ℕ → Stacked E → Type 0
ReducesAllTo node suits g table t old [] new = old ≡ new
ReducesAllTo {E} node suits g table t old (p ∷ prods) new =
    (next : Stacked E) × ReducesTo node suits g table t old p next × ReducesAllTo node suits g table t next prods new
