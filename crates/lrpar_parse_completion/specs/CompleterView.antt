-- The completer of stacks, as contracts see it. `index` is the number that a storage number represents.
use Rattle.std.specs.Prelude.{◌<◌, ◌≤◌, ℕ, Bool, List, IfSome, IsTrue, IsSome, IsSomeAnd, Option, Vec}
use Rattle.std.below.core.specs.declared.int.usize.TheConstants.{MAX}
use Rattle.lrpar_grammar_places.specs.declared.span.PIdx.{PIdx}
use Rattle.lrpar_grammar_places.specs.declared.span.StIdx.{StIdx}
use Rattle.lrpar_grammar_places.specs.declared.span.TIdx.{TIdx}
use Rattle.lrpar_grammar.specs.Grammar.{prod_len, prods_len, rule_of}
use Rattle.lrpar_table_rows.specs.Graph.{graph_len}
use Rattle.lrpar_table_sentences.specs.Choices.{AreShortest}
use Rattle.lrpar_table_stacks.specs.Expected.{tokens_of}
use Rattle.lrpar_table_stacks.specs.Stack.{IsStack, states_of}
use Rattle.lrpar_parse_completion.specs.Completing.{IsCompletion}
use Rattle.lrpar_parse_completion.specs.Opening.{CanComplete, IsBegun, IsKernelCore, IsOpenedBy, MustOpen}
use Rattle.lrpar_parse_completion.specs.declared.completer.Completer.{Completer}

-- the completer's minimal sentences are those of the grammar's rules
abbrev pub KnowsShortest : {S : Type 0} → Completer S → Type 0
KnowsShortest completer = AreShortest completer.data.now.grammar MAX completer.shortest.now

module _ {S : Type 0} (index : S → ℕ) (completer : Completer S) where
  -- the state is the table's
  abbrev pub HasState : StIdx S → Type 0
  HasState state = index state.0 < graph_len completer.data.now.graph

  -- the production is the grammar's
  abbrev pub HasProd : PIdx S → Type 0
  HasProd prod = index prod.0 < prods_len completer.data.now.grammar

  -- the core is that of an item with a symbol before its dot, or of an item of the start production
  abbrev pub HasBegun : PIdx S → ℕ → Type 0
  HasBegun prod dot = IsBegun completer.data.now.grammar (index prod.0) dot

  -- the core is the grammar's; if the table can complete, it is that of a kernel item of the state, or of an item of the start production
  pub record IsKernelOf (state : StIdx S) (core : PIdx S × ℕ) : Type 0 where
    pub prod : HasProd core.0
    pub dot : core.1 ≤ prod_len completer.data.now.grammar (index core.0.0)
    pub kernel : CanComplete completer.data.now
        → IsKernelCore completer.data.now.grammar completer.data.now.graph (index state.0) (index core.0.0) core.1

  -- what was found is the core of an item by which the state opens the production, and the tokens were appended; there is one, if the
  -- state must open the production
  pub record IsOpening {A : Type 0} (state : StIdx S) (prod : PIdx S) (old new : Vec (TIdx S) A) (found : Option (PIdx S × ℕ)) : Type 0 where
    pub opened : IfSome found (λ core. IsOpenedBy completer.data.now.grammar completer.data.now.graph completer.data.now.table (index state.0)
        (rule_of completer.data.now.grammar (index prod.0)) (tokens_of index old.items) (tokens_of index new.items) (index core.0.0) core.1)
    pub some : MustOpen completer.data.now (index state.0) (index prod.0) → IsSome found

  -- if the table can complete and the stack is the table's, tokens are found, and they complete the stack
  abbrev pub CompletesStack : {A : Type 0} → List (StIdx S) → Option (Vec (TIdx S) A) → Type 0
  CompletesStack stack found = CanComplete completer.data.now → IsStack completer.data.now.table (states_of index stack)
      → IsSomeAnd found (λ tokens. IsCompletion completer.data.now.grammar completer.data.now.table (states_of index stack) (tokens_of index tokens.items))

  -- if the table can complete and the stack is the table's, these tokens are found, and they complete the stack
  abbrev pub FindsCompletion : {A : Type 0} → List (StIdx S) → Vec (TIdx S) A → Bool → Type 0
  FindsCompletion stack tokens found = CanComplete completer.data.now → IsStack completer.data.now.table (states_of index stack)
      → IsTrue found × IsCompletion completer.data.now.grammar completer.data.now.table (states_of index stack) (tokens_of index tokens.items)
