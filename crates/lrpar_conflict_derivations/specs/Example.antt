-- Counterexamples of conflicts: an access string of the conflict's state, and two derivations that go on from there.
use Rattle.std.specs.Prelude.{◌≡◌, ◌≢◌, ◌≤◌, ◌↔◌, ◌⊎◌, ℕ, Bool, IsTrue, List, Option, length}
use Rattle.lrpar_grammar.specs.Grammar.{Grammar, GrammarSymbol}
use Rattle.lrpar_grammar.specs.Tree.{Forest, Tree, forest_leaves, leaves}
use Rattle.lrpar_table_rows.specs.Graph.{Graph}
use Rattle.lrpar_table_rows.specs.Table.{Table}
use Rattle.lrpar_table_first.specs.FirstRows.{AreFirsts}
use Rattle.lrpar_table_sentences.specs.Choices.{AreShortest, ChoiceOf}
use Rattle.lrpar_table_sentences.specs.Moves.{MoveOf, forest_moves}
use Rattle.lrpar_table_sentences.specs.Reachable.{EachReachableHasTree, IsFirstUnproductive}
use Rattle.lrpar_table_sentences.specs.Texts.{AreTreesOf}
use Rattle.lrpar_table_sentences.specs.AccessStrings.{AreAccessStrings, IsPathTo, StepOf, AccessOf, symbols_in}
use Rattle.lrpar_conflict_derivations.specs.Completion.{IsAccessPath}
use Rattle.lrpar_conflict_derivations.specs.Derivation.{IsDerivation}
use Rattle.lrpar_conflict_derivations.specs.Texts.{tokens_in}
use Rattle.lrpar_conflict_derivations.specs.declared.fault.ExampleFault.{ExampleFault}
use Rattle.lrpar_conflict_derivations.specs.declared.fault.ExampleFault.TheVariants.{Unproductive, Memory}

-- what a counterexample says
pub record ExampleOf : Type 0 where
  pub before : List ℕ
  pub first : List MoveOf
  pub second : List MoveOf
  pub ambiguous : Bool
  pub shortest : Bool
  pub bound : ℕ
  pub tried : ℕ
  pub complete : Bool

-- the counterexample, with what a search for a unifying one has tried, and whether that is all that it came to
abbrev pub after_search : ExampleOf → ℕ → Bool → ExampleOf
after_search x tried complete =
    record { before = x.before; first = x.first; second = x.second; ambiguous = x.ambiguous; shortest = x.shortest; bound = x.bound; tried = tried; complete = complete }

-- both derivations have one text; or the search for two that have has tried as much as the bound allows, or all that it came to
abbrev pub HasSearched : ℕ → ExampleOf → Type 0
HasSearched bound x = (IsTrue x.ambiguous) ⊎ ((x.tried ≡ bound) ⊎ (IsTrue x.complete))

-- a counterexample with the tokens of these first moves, these two derivations, this flag and this bound. It is called ambiguous if and only if both have one text
pub record IsMadeOf (front one other : List MoveOf) (flag : Bool) (most : ℕ) (x : ExampleOf) : Type 0 where
  pub before : x.before ≡ tokens_in front
  pub first : x.first ≡ one
  pub second : x.second ≡ other
  pub ambiguous : IsTrue x.ambiguous ↔ (tokens_in one ≡ tokens_in other)
  pub shortest : x.shortest ≡ flag
  pub bound : x.bound ≡ most

-- the text is an access string of state s: the symbols lead there, and these trees fit them and have its tokens
pub record IsTextTo (g : Grammar) (graph : Graph) (s : ℕ) (text : List ℕ) (symbols : List GrammarSymbol) (trees : Forest ℕ) : Type 0 where
  pub leads : IsPathTo g graph s symbols
  pub fit : AreTreesOf g symbols trees
  pub tokens : forest_leaves trees ≡ text

-- no access string of state s has fewer tokens
abbrev pub IsLeastTo : Grammar → Graph → ℕ → List ℕ → Type 0
IsLeastTo g graph s text =
    (path : List GrammarSymbol) (others : Forest ℕ) → IsPathTo g graph s path → AreTreesOf g path others → length text ≤ length (forest_leaves others)

-- A counterexample of a conflict in state s at a token: an access string of s, and two derivations of trees of the start rule, which have
-- made the same trees of that string. One goes on with one move, the other with the other. It is called ambiguous if and only if both
-- derivations have one text (a unifying counterexample); they are two trees in any case. The access string is called a shortest one if and
-- only if none is shorter; it is one, unless both derivations have one text
pub record IsExample (g : Grammar) (graph : Graph) (s token : ℕ) (one other : MoveOf) (x : ExampleOf) : Type 0 where
  pub symbols : List GrammarSymbol
  pub trees : Forest ℕ
  pub before : IsTextTo g graph s x.before symbols trees
  pub shortest : IsTrue x.shortest ↔ IsLeastTo g graph s x.before
  pub unless : (IsTrue x.shortest) ⊎ (IsTrue x.ambiguous)
  pub tree : Tree ℕ
  pub first : IsDerivation g x.before token trees one x.first tree
  pub other_tree : Tree ℕ
  pub second : IsDerivation g x.before token trees other x.second other_tree
  pub different : tree ≢ other_tree
  pub ambiguous : IsTrue x.ambiguous ↔ (leaves tree ≡ leaves other_tree)

-- what counterexamples are made of: FIRST sets of rules, minimal sentences, and the shortest access paths of states
pub record ExamplesOf : Type 0 where
  pub firsts : List (List Bool)
  pub shortest : List (Option ChoiceOf)
  pub access : List (Option AccessOf)

-- the parts of counterexamples are those of a table that was built of a grammar whose reachable rules are productive; numbers of tokens
-- are exact up to `most`
pub record AreExamplesFor (g : Grammar) (graph : Graph) (table : Table) (most : ℕ) (x : ExamplesOf) : Type 0 where
  pub firsts : AreFirsts g x.firsts
  pub shortest : AreShortest g most x.shortest
  pub access : AreAccessStrings g graph table most x.access
  pub each : EachReachableHasTree g

-- a refusal names the first rule that is reachable and not productive
abbrev pub IsFault : {S : Type 0} → (S → ℕ) → Grammar → ExampleFault S → Type 0
IsFault index g (Unproductive r) = IsFirstUnproductive g (index r.0)
IsFault index g Memory = Unit {0}

-- the steps of an access path of state s, and moves of trees of its symbols
pub record IsFront (g : Grammar) (graph : Graph) (s : ℕ) (steps : List StepOf) (moves : List MoveOf) : Type 0 where
  pub access_path : IsAccessPath g graph steps s
  pub trees : Forest ℕ
  pub text : IsTextTo g graph s (forest_leaves trees) (symbols_in steps) trees
  pub moves_are : moves ≡ forest_moves trees

-- the steps of an access path of state s, and moves of trees of its symbols, whose text is a shortest access string
pub record IsShortestFront (g : Grammar) (graph : Graph) (s : ℕ) (steps : List StepOf) (moves : List MoveOf) : Type 0 where
  pub front : IsFront g graph s steps moves
  pub least : IsLeastTo g graph s (tokens_in moves)
