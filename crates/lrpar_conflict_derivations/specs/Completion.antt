-- How a derivation is completed from an item of a state: from the item up to one that waits for its rule, and so on up to the start.
use Rattle.std.specs.Prelude.{◌≡◌, ◌≢◌, ◌<◌, ◌≤◌, ◌+◌, ◌⊎◌, ℕ, Bool, IsTrue, List, Option, ◌∷◌, ◌++◌, drop, length, map, slice_index_or, take}
use Rattle.lrpar_grammar.specs.Grammar.{Grammar, GrammarSymbol, Nonterminal, prods_len, rule_of, start_prod, symbols_of}
use Rattle.lrpar_grammar.specs.Tree.{Forest, Tree, forest_leaves, leaves}
use Rattle.lrpar_table_rows.specs.Graph.{Graph, HasItem}
use Rattle.lrpar_table_first.specs.FirstRows.{AreFirsts}
use Rattle.lrpar_table_items.specs.Canonical.{IsCanonical}
use Rattle.lrpar_table_sentences.specs.Choices.{AreShortest, ChoiceOf}
use Rattle.lrpar_table_sentences.specs.Moves.{MoveOf, Makes, forest_moves, moves_of}
use Rattle.lrpar_table_sentences.specs.Reachable.{EachReachableHasTree, IsReachableRule}
use Rattle.lrpar_table_sentences.specs.Texts.{AreTreesOf, IsTreeOf}
use Rattle.lrpar_table_sentences.specs.AccessStrings.{IsPathTo, StepOf, symbols_in}
use Rattle.lrpar_conflict_derivations.specs.ClosureLinks.{IsOwnStep, LinkOf, link_at}
use Rattle.lrpar_conflict_derivations.specs.Derivation.{IsNext}
use Rattle.lrpar_conflict_derivations.specs.declared.completion.Up.{Up}

-- derivations can be completed: the item sets are the canonical collection of a grammar whose reachable rules are productive, and its FIRST
-- sets and minimal sentences are there; numbers of tokens are exact up to `most`
pub record CanComplete (g : Grammar) (graph : Graph) (most : ℕ) (rows : List (List Bool)) (choices : List (Option ChoiceOf)) : Type 0 where
  pub firsts : AreFirsts g rows
  pub shortest : AreShortest g most choices
  pub each : EachReachableHasTree g
  pub canonical : IsCanonical g graph

-- a tree of the start rule begins with these trees, then come those of the rest, and these moves complete it, with this text
pub record IsFinished (g : Grammar) (trees rest : Forest ℕ) (later : List MoveOf) (text : List ℕ) (tree : Tree ℕ) : Type 0 where
  pub fits : IsTreeOf g (Nonterminal g.start) tree
  pub moves : moves_of tree ≡ forest_moves trees ++ (forest_moves rest ++ later)
  pub tokens : leaves tree ≡ forest_leaves trees ++ (forest_leaves rest ++ text)

-- after any trees of the symbols `front`, and any of production p's symbols after the first k, these moves complete a tree of the start
-- rule, with this text
abbrev pub Finishes : Grammar → List GrammarSymbol → ℕ → ℕ → List MoveOf → List ℕ → Type 0
Finishes g front p k later text =
    (trees rest : Forest ℕ) → AreTreesOf g front trees → AreTreesOf g (drop k (symbols_of g p)) rest
    → (tree : Tree ℕ) × IsFinished g trees rest later text tree

-- if the token is asked for, it comes next
abbrev pub IsNextIf : Grammar → ℕ → Bool → List ℕ → Type 0
IsNextIf g token asked text = IsTrue asked → IsNext g token text

-- these moves complete a tree from a production and a dot; if the token is asked for, it comes next in their text
abbrev pub FinishesWith : Grammar → ℕ → Bool → List GrammarSymbol → ℕ → ℕ → List MoveOf → Type 0
FinishesWith g token asked front p k later = (text : List ℕ) × Finishes g front p k later text × IsNextIf g token asked text

-- a place on the path up: the symbols before it, a production and its dot, and whether the token is asked for
pub record PathItem : Type 0 where
  pub front : List GrammarSymbol
  pub prod : ℕ
  pub dot : ℕ
  pub asked : Bool

-- moves that complete a tree from the place
abbrev pub FinishesAt : Grammar → ℕ → PathItem → List MoveOf → Type 0
FinishesAt g token place later = FinishesWith g token place.asked place.front place.prod place.dot later

-- the moves lead from one place up to another: after them, whatever completes a tree from there completes it from here
abbrev pub LeadsUp : Grammar → ℕ → PathItem → List MoveOf → PathItem → Type 0
LeadsUp g token from moves to = (later : List MoveOf) → FinishesAt g token to later → FinishesAt g token from (moves ++ later)

-- the place with the dot of production p at k
abbrev pub path_item : List GrammarSymbol → ℕ → ℕ → Bool → PathItem
path_item front p k asked = record { front = front; prod = p; dot = k; asked = asked }

-- Moves of trees of the symbols after a link's rule were appended. If the token is asked for, the trees begin with it; or they have no
-- tokens, and it is asked for further up
pub record HasRest (g : Grammar) (token : ℕ) (x : LinkOf) (old new : List MoveOf) : Type 0 where
  pub trees : Forest ℕ
  pub fit : AreTreesOf g (drop (x.dot + 1) (symbols_of g x.prod)) trees
  pub moves : new ≡ old ++ forest_moves trees
  pub ahead : (text : List ℕ) → IsNextIf g token x.further text → IsNextIf g token x.asked (forest_leaves trees ++ text)

-- a link up: its production is one of a reachable rule; and with the dot at the front, unless it is the start production, it has an earlier
-- link of its rule
pub record IsUpLink (g : Grammar) (token : ℕ) (links : List LinkOf) (i : ℕ) : Type 0 where
  pub step : IsOwnStep g token (link_at links i)
  pub known : (link_at links i).prod < prods_len g
  pub reached : IsReachableRule g (rule_of g (link_at links i).prod)
  pub above : let x = link_at links i in x.dot ≡ 0 → x.prod ≢ start_prod g
      → (x.above < i) × ((link_at links x.above).rule ≡ rule_of g x.prod) × ((link_at links x.above).asked ≡ x.further)

-- each link leads up: its production is one of a reachable rule, and an item with the dot at the front has an earlier link of its rule
abbrev pub AreUpLinks : Grammar → ℕ → List LinkOf → Type 0
AreUpLinks g token links = (i : ℕ) → i < length links → IsUpLink g token links i

-- the kernel item above an item with its dot at the front: a production, its dot, and whether the token is asked for there
pub record UpOf : Type 0 where
  pub prod : ℕ
  pub dot : ℕ
  pub asked : Bool

-- a kernel item as it is stored, with a number for its production
abbrev pub up_of : {S : Type 0} → (S → ℕ) → Up S → UpOf
up_of index up = record { prod = index up.prod.0; dot = up.dot; asked = up.asked }

-- moves were appended that lead from production p, with its dot at the front, up to this kernel item, whatever comes before; the first one
-- reduces p
pub record LeadsToKernel (g : Grammar) (token p : ℕ) (asked : Bool) (old new : List MoveOf) (up : UpOf) : Type 0 where
  pub more : List MoveOf
  pub moves : new ≡ old ++ Makes p ∷ more
  pub leads : (front : List GrammarSymbol) → LeadsUp g token (path_item front p 0 asked) (Makes p ∷ more) (path_item front up.prod up.dot up.asked)

-- a link comes from this item, and it is the topmost one
pub record EndsLink (g : Grammar) (links : List LinkOf) (up : UpOf) : Type 0 where
  pub number : ℕ
  pub within : number < length links
  pub prod : (link_at links number).prod ≡ up.prod
  pub dot : (link_at links number).dot ≡ up.dot
  pub further : (link_at links number).further ≡ up.asked
  pub begun : (0 < up.dot) ⊎ (up.prod ≡ start_prod g)

-- the state before step i, or the last one
abbrev pub state_before : List StepOf → ℕ → ℕ → ℕ
state_before steps last i = slice_index_or (map (λ (x : StepOf). x.from) steps) i last

-- each state of the access path is reached by the symbols before it
abbrev pub IsAccessPath : Grammar → Graph → List StepOf → ℕ → Type 0
IsAccessPath g graph steps last = (i : ℕ) → i ≤ length steps → IsPathTo g graph (state_before steps last i) (take i (symbols_in steps))

-- the state has an item of this core; if the token is asked for, with it as lookahead
abbrev pub HasItemFor : Graph → ℕ → ℕ → ℕ → ℕ → Bool → Type 0
HasItemFor graph s token p k asked = (t : ℕ) × HasItem graph s p k t × (IsTrue asked → t ≡ token)

-- moves were appended that complete a tree from production p with its dot at k; the first one reduces p, unless it is the start production
pub record HasFinished (g : Grammar) (token : ℕ) (front : List GrammarSymbol) (p k : ℕ) (asked : Bool) (old new : List MoveOf) : Type 0 where
  pub later : List MoveOf
  pub moves : new ≡ old ++ later
  pub finishes : FinishesAt g token (path_item front p k asked) later
  pub reduces : p ≢ start_prod g → (rest : List MoveOf) × (later ≡ Makes p ∷ rest)
