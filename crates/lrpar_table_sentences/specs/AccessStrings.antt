-- Access strings of the states of a built table: paths of symbols from the start, with trees that fit the symbols.
use Rattle.std.specs.Prelude.{◌≡◌, ◌<◌, ◌≤◌, ℕ, List, [], ◌∷◌, ◌++◌, Option, Some, None, drop, length, map, min, option_map, reverse, slice_index_or, take}
use Rattle.std.specs.declared.vec.Vec.{Vec}
use Rattle.std.below.core.specs.declared.int.usize.TheConstants.{MAX}
use Rattle.lrpar_grammar_places.specs.declared.span.StIdx.{StIdx}
use Rattle.lrpar_grammar.specs.Grammar.{Grammar, GrammarSymbol}
use Rattle.lrpar_grammar.specs.Symbols.{symbol_of}
use Rattle.lrpar_grammar.specs.Tree.{Forest}
use Rattle.lrpar_table_rows.specs.Graph.{Graph, graph_len}
use Rattle.lrpar_table_rows.specs.Safe.{GoesBy}
use Rattle.lrpar_table_rows.specs.Table.{Table}
use Rattle.lrpar_table_items.specs.Canonical.{AreSame, sets_of}
use Rattle.lrpar_table_items.specs.ItemSets.{IsReachedBy}
use Rattle.lrpar_table_sentences.specs.Texts.{AreTreesOf, IsShortestLen, forest_width}
use Rattle.lrpar_table_sentences.specs.declared.transitions.Step.{Step}
use Rattle.lrpar_table_sentences.specs.declared.transitions.Access.{Access}

-- a step: the state that it goes from, and the symbol that it goes by
pub record StepOf : Type 0 where
  pub from : ℕ
  pub symbol : GrammarSymbol

-- a number of tokens, and the last step, if there is one
pub record AccessOf : Type 0 where
  pub len : ℕ
  pub last : Option StepOf

-- steps as they are stored, with numbers for their states and symbols
abbrev pub step_of : {S : Type 0} → (S → ℕ) → Step S → StepOf
step_of index x = record { from = index x.from.0; symbol = symbol_of index x.symbol }

abbrev pub steps_of : {S : Type 0} → (S → ℕ) → List (Step S) → List StepOf
steps_of index steps = map (step_of index) steps

abbrev pub access_of : {S : Type 0} → (S → ℕ) → Access S → AccessOf
access_of index x = record { len = x.len; last = option_map (step_of index) x.last }

abbrev pub accesses_of : {S : Type 0} → (S → ℕ) → List (Option (Access S)) → List (Option AccessOf)
accesses_of index accesses = map (option_map (access_of index)) accesses

-- the symbols of steps
abbrev pub symbols_in : List StepOf → List GrammarSymbol
symbols_in steps = map (λ step. step.symbol) steps

-- by these symbols, in order, the item sets go from the start to the set of state s
abbrev pub IsPathTo : Grammar → Graph → ℕ → List GrammarSymbol → Type 0
IsPathTo g graph s symbols = AreSame (sets_of graph s) (IsReachedBy g (reverse symbols))

-- by these steps, in order, the table goes from state s to state last
abbrev pub StepsLead : Table → ℕ → List StepOf → ℕ → Type 0
StepsLead table s [] last = s ≡ last
StepsLead table s (step ∷ steps) last = (step.from ≡ s) × ((next : ℕ) × GoesBy table s step.symbol next × StepsLead table next steps last)

-- the least number of tokens that trees of the symbols of any path to state s have, capped at `most`
pub record IsShortestAccess (g : Grammar) (graph : Graph) (most s len : ℕ) : Type 0 where
  pub some : (symbols : List GrammarSymbol) × (trees : Forest ℕ) × IsPathTo g graph s symbols × AreTreesOf g symbols trees
      × (min (forest_width trees) most ≡ len)
  pub least : (symbols : List GrammarSymbol) (trees : Forest ℕ) → IsPathTo g graph s symbols → AreTreesOf g symbols trees
      → len ≤ forest_width trees

-- the least number of tokens that trees of the symbols of any path to state s have, capped at `most`; none if no path has trees of all its
-- symbols
abbrev pub IsShortestAccessIfAny : Grammar → Graph → ℕ → ℕ → Option ℕ → Type 0
IsShortestAccessIfAny g graph most s None = (symbols : List GrammarSymbol) (trees : Forest ℕ) → IsPathTo g graph s symbols → ¬ (AreTreesOf g symbols trees)
IsShortestAccessIfAny g graph most s (Some len) = IsShortestAccess g graph most s len

-- steps of the table from the start to state s, by a path whose symbols have trees with as few tokens as any path's have
pub record IsShortestPath (g : Grammar) (graph : Graph) (table : Table) (most s : ℕ) (steps : List StepOf) : Type 0 where
  pub lead : StepsLead table table.start steps s
  pub path : IsPathTo g graph s (symbols_in steps)
  pub len : ℕ
  pub own : IsShortestLen g most (symbols_in steps) len
  pub least : IsShortestAccess g graph most s len

-- what is kept of state s; out of range, nothing
abbrev pub access_at : List (Option AccessOf) → ℕ → Option AccessOf
access_at accesses s = slice_index_or accesses s None

-- the length that is kept of a state of the code, if one is
abbrev pub len_kept : {S : Type 0} → (S → ℕ) → List (Option AccessOf) → StIdx S → Option ℕ
len_kept index accesses s = option_map (λ access. access.len) (access_at accesses (index s.0))

-- the last step of what is kept, if there is one
abbrev pub last_of : Option AccessOf → Option StepOf
last_of (Some access) = access.last
last_of None = None

-- the last steps that are kept lead back by these steps, the last one first, to a state without one
abbrev pub GoBack : List (Option AccessOf) → ℕ → List StepOf → Type 0
GoBack accesses s [] = (len : ℕ) × (access_at accesses s ≡ Some (record { len = len; last = None }))
GoBack accesses s (step ∷ steps) = (len : ℕ) × (access_at accesses s ≡ Some (record { len = len; last = Some step })) × GoBack accesses step.from steps

-- for each state the length of a minimal access string is kept, and the last step of one
pub record AreAccessStrings (g : Grammar) (graph : Graph) (table : Table) (most : ℕ) (accesses : List (Option AccessOf)) : Type 0 where
  pub states : length accesses ≡ graph_len graph
  pub lens : (s : ℕ) → s < graph_len graph → IsShortestAccessIfAny g graph most s (option_map (λ access. access.len) (access_at accesses s))
  pub paths : (s : ℕ) (access : AccessOf) → access_at accesses s ≡ Some access
      → (back : List StepOf) × GoBack accesses s back × IsShortestPath g graph table most s (reverse back)

-- in each built table whose access strings these are, this is the least number of tokens that lead to the state, if any do
abbrev pub IsLenTo : {S : Type 0} → (S → ℕ) → List (Option AccessOf) → StIdx S → Option ℕ → Type 0
IsLenTo index accesses s len =
    (g : Grammar) (graph : Graph) (table : Table) → AreAccessStrings g graph table MAX accesses
    → index s.0 < graph_len graph → IsShortestAccessIfAny g graph MAX (index s.0) len

-- in each built table whose access strings these are, the steps of a path to the state are appended, if there is one
abbrev pub AppendsPath : {S A : Type 0} → (S → ℕ) → List (Option AccessOf) → StIdx S → Vec (Step S) A → Vec (Step S) A → Type 0
AppendsPath index accesses s old new =
    (g : Grammar) (graph : Graph) (table : Table) → AreAccessStrings g graph table MAX accesses
    → (access : AccessOf) → access_at accesses (index s.0) ≡ Some access
    → (steps : List StepOf) × IsShortestPath g graph table MAX (index s.0) steps
    × (steps_of index new.items ≡ steps_of index old.items ++ steps)

-- what the code keeps of states are access strings, with numbers of tokens capped at `usize::MAX`
abbrev pub AreAccesses : {S : Type 0} → (S → ℕ) → Grammar → Graph → Table → List (Option (Access S)) → Type 0
AreAccesses index g graph table accesses = AreAccessStrings g graph table MAX (accesses_of index accesses)

-- this is what the code keeps of the state; out of range, nothing
abbrev pub IsAccessTo : {S : Type 0} → (S → ℕ) → List (Option (Access S)) → StIdx S → Option (Access S) → Type 0
IsAccessTo index accesses s found = option_map (access_of index) found ≡ access_at (accesses_of index accesses) (index s.0)

-- this is the last step that the code keeps of the state, if there is one
abbrev pub IsLastStepTo : {S : Type 0} → (S → ℕ) → List (Option (Access S)) → StIdx S → Option (Step S) → Type 0
IsLastStepTo index accesses s step = option_map (step_of index) step ≡ last_of (access_at (accesses_of index accesses) (index s.0))

-- the order of a list is reversed from a place on
abbrev pub ReversesFrom : {X : Type 0} → ℕ → List X → List X → Type 0
ReversesFrom from old new = new ≡ take from old ++ reverse (drop from old)

-- the steps that lead back from the state are appended
abbrev pub AppendsBack : {S A : Type 0} → (S → ℕ) → List (Option (Access S)) → StIdx S → Vec (Step S) A → Vec (Step S) A → Type 0
AppendsBack index accesses s old new =
    (back : List StepOf) → GoBack (accesses_of index accesses) (index s.0) back
    → steps_of index new.items ≡ steps_of index old.items ++ back
