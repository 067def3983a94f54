-- The stacks of a run during reductions, each of which also builds an entry.
use Rattle.std.specs.Prelude.{◌≡◌, ◌<◌, ◌≤◌, ℕ, List, [], ◌∷◌, ◌++◌, length, None}
use Rattle.std.specs.List.{AllZip, last_or}
use Rattle.lrpar_grammar.specs.Grammar.{Grammar, Nonterminal, prod_len, rule_of, start_prod, symbols_of}
use Rattle.lrpar_table_stacks.specs.Path.{NeverSticks}
use Rattle.lrpar_table_rows.specs.Table.{Table}
use Rattle.lrpar_table_stacks.specs.declared.state_stack.Reduction.{Reduction}
use Rattle.lrpar_parse_run.specs.Building.{Building}
use Rattle.lrpar_parse_run.specs.RunStack.{IsRunStack, Stacked, below_top, on_top}

-- a grammar, a builder, the stacks, and the name of the borrow of the stacks
pub record Built (B E : Type 0) : Type 0 where
  pub grammar : Grammar
  pub build : B
  pub stack : Stacked E
  pub lender : ℕ

-- all but the stacks is unchanged
pub record KeepsRest {B E : Type 0} (old new : Built B E) : Type 0 where
  pub grammar : new.grammar ≡ old.grammar
  pub build : new.build ≡ old.build
  pub lender : new.lender ≡ old.lender

-- The builder can make an entry of production p from the n top entries: it can build for the grammar; the production isn't the start
-- production; the entries are those of its n symbols, and suit them; and all entries are in order.
pub record CanReduce {X E : Type 0} (builds : Building X E) (g : Grammar) (p n : ℕ) (entries : List E) : Type 0 where
  pub can : builds.can_build g
  pub listed : p < start_prod g
  pub count : n ≡ prod_len g p
  pub deep : n ≤ length entries
  pub suit : AllZip builds.suits (symbols_of g p) (on_top n entries)
  pub rises : (start : ℕ) × builds.rises entries start

-- the entry is one of a node of production p over the n top entries
abbrev pub IsNode : {X E : Type 0} → Building X E → Grammar → ℕ → ℕ → List E → E → Type 0
IsNode builds g p n entries entry = builds.node g p (last_or None (below_top n entries)) (on_top n entries) entry

-- the n top entries are replaced by an entry of production p, of rule r, which is built from them
pub record IsBuiltOf {X E : Type 0} (builds : Building X E) (g : Grammar) (p r n : ℕ) (old new : List E) : Type 0 where
  pub entry : E
  pub made : IsNode builds g p n old entry
  pub suit : builds.suits (Nonterminal r) entry
  pub of_entries : new ≡ below_top n old ++ entry ∷ []

-- the states after the reduction; `index` gives the number of a value of the storage type
abbrev pub reduced_by : {S : Type 0} → (S → ℕ) → Reduction S → List ℕ → List ℕ
reduced_by index by states = below_top by.symbols states ++ index by.next.0 ∷ []

-- the top entries are replaced by the entry of the reduction, which is built from them
abbrev pub IsReducedBy : {S X E : Type 0} → (S → ℕ) → Building X E → Grammar → Reduction S → List E → List E → Type 0
IsReducedBy index builds g by old new = IsBuiltOf builds g (index by.prod.0) (rule_of g (index by.prod.0)) by.symbols old new

-- `builds` says what a builder builds
module _ {B X E : Type 0} (builds : B → Building X E) where
  -- the entries are reduced by production p, of rule r with n symbols, and nothing else changes
  pub record Builds (old : Built B E) (p r n : ℕ) (new : Built B E) : Type 0 where
    pub same : KeepsRest old new
    pub of_entries : IsBuiltOf (builds old.build) old.grammar p r n old.stack.entries new.stack.entries

  -- the grammar is this one, and the builder can build for it; runs over the table never stick; and the stacks are those of a run, with
  -- their entries in order
  pub record SuitsRun (g : Grammar) (table : Table) (s : Built B E) : Type 0 where
    pub grammar : s.grammar ≡ g
    pub can : (builds s.build).can_build g
    pub runs : NeverSticks g table
    pub run_stack : IsRunStack (builds s.build).suits table s.stack
    pub rising : (start : ℕ) × (builds s.build).rises s.stack.entries start

  -- an entry of production p, of rule r with n symbols, can be built from the top entries
  pub record CanBuild (s : Built B E) (p r n : ℕ) : Type 0 where
    pub rule : r ≡ rule_of s.grammar p
    pub of_top : CanReduce (builds s.build) s.grammar p n s.stack.entries
