-- How the completion of a stack is made: the kernel item of its top, and the item of a lower state by which a production was opened.
use Rattle.std.specs.Prelude.{◌≡◌, ◌≢◌, ◌<◌, ◌≤◌, ◌+◌, ◌⊎◌, ℕ, Bool, IsTrue, List, ◌++◌, Vec, drop, map}
use Rattle.lrpar_grammar_places.specs.declared.span.Symbol.{Symbol}
use Rattle.lrpar_grammar_places.specs.declared.span.TIdx.{TIdx}
use Rattle.lrpar_grammar.specs.Grammar.{Grammar, GrammarSymbol, prod_len, prods_len, start_prod, symbols_of}
use Rattle.lrpar_grammar.specs.Symbols.{symbol_of}
use Rattle.lrpar_grammar.specs.Tree.{Forest, forest_leaves}
use Rattle.lrpar_table_rows.specs.Graph.{Graph, HasCore}
use Rattle.lrpar_table_rows.specs.Table.{Table}
use Rattle.lrpar_table_check.specs.Checked.{Checked}
use Rattle.lrpar_table_conditions.specs.Complete.{IsComplete}
use Rattle.lrpar_table_sentences.specs.AccessLens.{IsWalk}
use Rattle.lrpar_table_sentences.specs.Reachable.{EachReachableHasTree}
use Rattle.lrpar_table_sentences.specs.Texts.{AreShortestTrees, HaveTrees}
use Rattle.lrpar_table_stacks.specs.Expected.{tokens_of}
use Rattle.lrpar_table_viable.specs.Viable.{IsViable}
use Rattle.lrpar_parse_completion.specs.Completing.{IsTail, IsTailOfRule}
use Rattle.lrpar_parse_completion.specs.Waiting.{IsOwnCore}
use Rattle.lrpar_parse_completion.specs.declared.waiting.Link.{Link}

-- the table is viable and complete, and its grammar's reachable rules are productive
pub record CanComplete (d : Checked) : Type 0 where
  pub viable : IsViable d.grammar d.graph d.table
  pub complete : IsComplete d.grammar d.graph d.table
  pub productive : EachReachableHasTree d.grammar

-- by some symbols, the table goes from its start to state s
abbrev pub IsWalkedTo : Table → ℕ → Type 0
IsWalkedTo table s = (path : List GrammarSymbol) × IsWalk table s path

-- the tokens of a minimal sentence of the symbols were appended
abbrev pub ArePushed : Grammar → List GrammarSymbol → List ℕ → List ℕ → Type 0
ArePushed g symbols old new = (trees : Forest ℕ) × AreShortestTrees g symbols trees × (new ≡ old ++ forest_leaves trees)

-- whether the tokens of a minimal sentence of the symbols were appended; they were, if the symbols have trees
pub record IsPushed (g : Grammar) (symbols : List GrammarSymbol) (old new : List ℕ) (answer : Bool) : Type 0 where
  pub pushed : IsTrue answer → ArePushed g symbols old new
  pub some : HaveTrees g symbols → IsTrue answer

-- the symbols are those of the code; or they are those after the link's rule
abbrev pub IsRestPushed : {S A : Type 0} → (S → ℕ) → Grammar → List (Symbol S) → Vec (TIdx S) A → Vec (TIdx S) A → Bool → Type 0
IsRestPushed index g symbols old new answer =
    IsPushed g (map (symbol_of index) symbols) (tokens_of index old.items) (tokens_of index new.items) answer

abbrev pub IsAfterPushed : {S A : Type 0} → (S → ℕ) → Grammar → Link S → Vec (TIdx S) A → Vec (TIdx S) A → Bool → Type 0
IsAfterPushed index g link old new answer =
    IsPushed g (drop (link.dot + 1) (symbols_of g (index link.prod.0))) (tokens_of index old.items) (tokens_of index new.items) answer

-- the core is that of an item with a symbol before its dot, or of an item of the start production
abbrev pub IsBegun : Grammar → ℕ → ℕ → Type 0
IsBegun g p k = (0 < k) ⊎ (p ≡ start_prod g)

-- the core of a kernel item of state s, or of an item of the start production
pub record IsKernelCore (g : Grammar) (graph : Graph) (s p k : ℕ) : Type 0 where
  pub core : HasCore graph s p k
  pub begun : IsBegun g p k

-- the table can complete, goes to state s, and has there an item that begins production p, which isn't the start production
pub record MustOpen (d : Checked) (s p : ℕ) : Type 0 where
  pub can : CanComplete d
  pub walked : IsWalkedTo d.table s
  pub core : HasCore d.graph s p 0
  pub other : p ≢ start_prod d.grammar

-- state s has this core of its own; and what was appended and what comes after its production are what comes after rule r
pub record IsOpenedBy (g : Grammar) (graph : Graph) (table : Table) (s r : ℕ) (old new : List ℕ) (p k : ℕ) : Type 0 where
  pub own : IsOwnCore g graph table s p k
  pub known : p < prods_len g
  pub dot : k ≤ prod_len g p
  pub pushed : List ℕ
  pub more : new ≡ old ++ pushed
  pub tail : (st rest : List ℕ) → IsTail g table st p k rest → IsTailOfRule g table st r (pushed ++ rest)
