-- Trees that respect precedences.
use Rattle.std.specs.Prelude.{◌≡◌, ◌≢◌, ℕ, All, List, [], ◌∷◌, Some}
use Rattle.lrpar_grammar.specs.Grammar.{Grammar, IsWellFormed, Nonterminal}
use Rattle.lrpar_grammar.specs.Sentence.{LexemeFacts}
use Rattle.lrpar_grammar.specs.Tree.{Tree, Forest, Leaf, Branch, Nil, Cons, leaves, productions, Fits}
use Rattle.lrpar_table_precedence.specs.Precedence.{PrecedenceLists, resolution_of}
use Rattle.lrpar_table_precedence.specs.declared.precedence.Resolution.TheVariants.{Error}
use Rattle.lrpar_table_rows.specs.Graph.{Graph}
use Rattle.lrpar_table_rows.specs.Table.{IsClosed, ResolvedOf, Table}
use Rattle.lrpar_table_build.specs.BuilderLaws.{lists_in}
use Rattle.lrpar_table_build.specs.Built.{IsBuiltBy}
use Rattle.lrpar_table_build.specs.KeptApart.{BeginsWithItsRule, EndsInItsRule, ReducesOrFails, ShiftsOrFails}
use Rattle.lrpar_table_sentences.specs.Reachable.{EachReachableHasTree}
use Rattle.lrpar_table_check.specs.CompleteRuns.{RunsTo}
use Rattle.lrpar_table_stacks.specs.Run.{Accepted}
use Rattle.lrpar_table_stacks.specs.RunLaws.{KeepOffEnd}
use Rattle.lrpar_parse_repair.specs.Recovery.{Point}
use Rattle.lrpar_parse_repair.specs.Sequences.{PlainStep}
use Rattle.lrpar_parse_run.specs.RepairRun.{RepairRun, RepairStop}

-- the root of the tree is a node of production q
abbrev pub IsNodeOf : {X : Type 0} → ℕ → Tree X → Type 0
IsNodeOf q (Leaf x) = ⊥
IsNodeOf q (Branch p children) = p ≡ q

-- the first of the trees is a node of production q
abbrev pub BeginsWithNode : {X : Type 0} → ℕ → Forest X → Type 0
BeginsWithNode q Nil = ⊥
BeginsWithNode q (Cons t ts) = IsNodeOf q t

-- the last of the trees is a node of production q
abbrev pub EndsWithNode : {X : Type 0} → ℕ → Forest X → Type 0
EndsWithNode q Nil = ⊥
EndsWithNode q (Cons t Nil) = IsNodeOf q t
EndsWithNode q (Cons t (Cons u us)) = EndsWithNode q (Cons u us)

-- what holds of each node of a tree, and of a list of trees: of its production and its children
abbrev mutual
  pub EachNode : {X : Type 0} → (ℕ → Forest X → Type 0) → Tree X → Type 0
  EachNode Holds (Leaf x) = Unit {0}
  EachNode Holds (Branch p children) = Holds p children × EachNodeIn Holds children

  pub EachNodeIn : {X : Type 0} → (ℕ → Forest X → Type 0) → Forest X → Type 0
  EachNodeIn Holds Nil = Unit {0}
  EachNodeIn Holds (Cons t ts) = EachNode Holds t × EachNodeIn Holds ts

-- no node of p has a node of q as its last child
abbrev pub HasNoneLast : {X : Type 0} → ℕ → ℕ → Tree X → Type 0
HasNoneLast p q tree = EachNode (λ n children. n ≡ p → ¬ (EndsWithNode q children)) tree

-- no node of q has a node of p as its first child
abbrev pub HasNoneFirst : {X : Type 0} → ℕ → ℕ → Tree X → Type 0
HasNoneFirst p q tree = EachNode (λ n children. n ≡ q → ¬ (BeginsWithNode p children)) tree

-- the tree of a run without errors over these lexemes: they are its leaves, and the reductions of the run are its productions
pub record IsTreeOfRun {X : Type 0} (token : X → ℕ) (g : Grammar) (table : Table) (lexemes : List X) (tree : Tree X) : Type 0 where
  pub prods : List ℕ
  pub run : RunsTo token g table lexemes prods Accepted
  pub fits : Fits token g tree (Nonterminal g.start)
  pub leaves_are : leaves tree ≡ lexemes
  pub productions_are : productions tree ≡ prods

-- the tree of a run with repairs: what the run consumed are its leaves, and the reductions are its productions
pub record IsTreeOfRepairRun {X : Type 0} (facts : X → LexemeFacts) (allows : Point X → List (List PlainStep) → Type 0) (k : ℕ) (g : Grammar) (table : Table) (lexemes : List X) (tree : Tree X) : Type 0 where
  pub found : List RepairStop
  pub consumed : List X
  pub prods : List ℕ
  pub run : RepairRun facts allows k g table lexemes (table.start ∷ []) 0 found (Some consumed) prods
  pub fits : Fits (λ x. (facts x).token) g tree (Nonterminal g.start)
  pub leaves_are : leaves tree ≡ consumed
  pub productions_are : productions tree ≡ prods

-- what p against b says of nodes of p and q: if it says reduce or error, and no reduce/reduce conflict is listed, no node of q is the
-- last child of one of p; if it says shift or error, no node of p is the first child of one of q
pub record Respects {X : Type 0} (precedences : PrecedenceLists) (table : Table) (p q b : ℕ) (tree : Tree X) : Type 0 where
  pub last : ReducesOrFails (resolution_of precedences p b) → (lists_in table.conflicts).reduce_reduce ≡ [] → HasNoneLast p q tree
  pub first : ShiftsOrFails (resolution_of precedences p b) → HasNoneFirst p q tree

-- over lexemes of type X and a table that is built by precedences, the trees of runs without errors respect the precedences
abbrev pub TreesRespectPrecedences : Type 0 → Type 0
TreesRespectPrecedences X =
    (token : X → ℕ) (precedences : PrecedenceLists) (g : Grammar) (graph : Graph) (table : Table) → IsWellFormed g → IsClosed table
    → IsBuiltBy g precedences graph table → (lexemes : List X) (tree : Tree X) → IsTreeOfRun token g table lexemes tree
    → (p q r b : ℕ) → EndsInItsRule g p r → BeginsWithItsRule g q r b → Respects precedences table p q b tree

-- no conflict was resolved to an error
abbrev pub NoneIsError : List ResolvedOf → Type 0
NoneIsError resolved = All (λ x. x.by ≢ Error) resolved

-- What p against b says of nodes of p and q in the tree of any run, also of one with repairs: of last children the same. Of first
-- children the same, if no conflict was resolved to an error, each reachable rule is productive, and no lexeme has the end token: then
-- an error is found before any reduction.
pub record RespectsRepaired {X : Type 0} (token : X → ℕ) (precedences : PrecedenceLists) (g : Grammar) (table : Table) (lexemes : List X) (p q b : ℕ) (tree : Tree X) : Type 0 where
  pub last : ReducesOrFails (resolution_of precedences p b) → (lists_in table.conflicts).reduce_reduce ≡ [] → HasNoneLast p q tree
  pub first : ShiftsOrFails (resolution_of precedences p b) → NoneIsError table.resolved → EachReachableHasTree g → KeepOffEnd token g lexemes
      → HasNoneFirst p q tree

-- the trees of any runs respect the precedences; `allows` says which answers the recoverer may give at an error point
abbrev pub RepairedTreesRespectPrecedences : {X : Type 0} → (X → LexemeFacts) → (Point X → List (List PlainStep) → Type 0) → Type 0
RepairedTreesRespectPrecedences {X} facts allows =
    (k : ℕ) (precedences : PrecedenceLists) (g : Grammar) (graph : Graph) (table : Table) → IsWellFormed g → IsClosed table
    → IsBuiltBy g precedences graph table → (lexemes : List X) (tree : Tree X) → IsTreeOfRepairRun facts allows k g table lexemes tree
    → (p q r b : ℕ) → EndsInItsRule g p r → BeginsWithItsRule g q r b
    → RespectsRepaired (λ x. (facts x).token) precedences g table lexemes p q b tree
