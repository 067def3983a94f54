-- The facts of this crate, said of values as the code has them: states, tokens and productions by their indexes, and lists of moves, of steps
-- and of links.
use Rattle.std.specs.Prelude.{◌≡◌, ◌≢◌, ◌<◌, ◌≤◌, ◌++◌, ◌&&◌, ◌⊎◌, ℕ, Bool, false, IfSome, List, [], ◌∷◌, MatchOption, Option, Some, length, map, nat_lt, slice_get}
use Rattle.std.specs.declared.vec.Vec.{Vec}
use Rattle.lrpar_grammar_places.specs.declared.span.PIdx.{PIdx}
use Rattle.lrpar_grammar_places.specs.declared.span.RIdx.{RIdx}
use Rattle.lrpar_grammar_places.specs.declared.span.StIdx.{StIdx}
use Rattle.lrpar_grammar_places.specs.declared.span.Symbol.{Symbol}
use Rattle.lrpar_grammar_places.specs.declared.span.TIdx.{TIdx}
use Rattle.lrpar_grammar.specs.declared.token_set.TokenSet.{TokenSet}
use Rattle.lrpar_grammar.specs.Grammar.{Grammar, GrammarSymbol, Terminal, prod_len, prods_len, rule_of, rules_len, start_prod, symbols_of}
use Rattle.lrpar_grammar.specs.Symbols.{symbol_of}
use Rattle.lrpar_grammar.specs.Tokens.{has}
use Rattle.lrpar_grammar.specs.Tree.{Forest}
use Rattle.lrpar_table_rows.specs.Graph.{Graph, HasCore, graph_len}
use Rattle.lrpar_table_rows.specs.Safe.{GoesBy}
use Rattle.lrpar_table_rows.specs.Table.{Table}
use Rattle.lrpar_table_first.specs.FirstRows.{dummy_lookahead, rows_of}
use Rattle.lrpar_table_items.specs.Canonical.{HasAfterDot, sets_of}
use Rattle.lrpar_table_build.specs.Built.{IsBuilt}
use Rattle.lrpar_table_sentences.specs.Choices.{AreShortest}
use Rattle.lrpar_table_sentences.specs.Moves.{MoveOf, Makes, forest_moves, move_of, moves_in}
use Rattle.lrpar_table_sentences.specs.Reachable.{IsReachableRule}
use Rattle.lrpar_table_sentences.specs.Texts.{AreTreesOf}
use Rattle.lrpar_table_sentences.specs.AccessStrings.{StepOf, StepsLead, steps_of, symbols_in}
use Rattle.lrpar_table_sentences.specs.declared.moves.Move.{Move}
use Rattle.lrpar_table_sentences.specs.declared.transitions.Step.{Step}
use Rattle.lrpar_conflict_derivations.specs.ClosureLinks.{AreKernelItemsNoted, AreLinked, AreLinks, AreMarks, AreNoted, AreNotedOf, ArePut, HasLink, IsAsked, IsKernelItem, IsKernelLink, IsLinkBelow, IsNotedCore, IsOwnStep, IsPutMarked, IsStep, LinkOf, LinkRule, link_at, link_of, links_of}
use Rattle.lrpar_conflict_derivations.specs.Completion.{AreUpLinks, EndsLink, HasFinished, HasItemFor, HasRest, IsAccessPath, LeadsToKernel, state_before, up_of}
use Rattle.lrpar_conflict_derivations.specs.Conflict.{CallsFor, IsConflict, IsExampleOf, conflict_of}
use Rattle.lrpar_conflict_derivations.specs.Derivation.{Derives}
use Rattle.lrpar_conflict_derivations.specs.Example.{ExampleOf, IsExample, IsFront, IsMadeOf, IsShortestFront}
use Rattle.lrpar_conflict_derivations.specs.Replay.{Replays}
use Rattle.lrpar_conflict_derivations.specs.Texts.{BeginsBy, ShiftsFirst, token_numbers, tokens_in}
use Rattle.lrpar_conflict_derivations.specs.declared.closure_links.Found.{Found}
use Rattle.lrpar_conflict_derivations.specs.declared.closure_links.Link.{Link}
use Rattle.lrpar_conflict_derivations.specs.declared.completion.Up.{Up}
use Rattle.lrpar_conflict_derivations.specs.declared.context.Context.{Context}
use Rattle.lrpar_conflict_derivations.specs.declared.examples.Front.{Front}
use Rattle.lrpar_conflict_derivations.specs.declared.configurations.Conflict.{Conflict}

-- the token is one of the grammar
abbrev pub IsTokenOf : {S : Type 0} → (S → ℕ) → Grammar → TIdx S → Type 0
IsTokenOf index g token = index token.0 < dummy_lookahead g

-- the state is one of the graph
abbrev pub IsStateOf : {S : Type 0} → (S → ℕ) → Graph → StIdx S → Type 0
IsStateOf index graph state = index state.0 < graph_len graph

-- the symbol is the token
abbrev pub IsToken : {S : Type 0} → (S → ℕ) → Symbol S → TIdx S → Type 0
IsToken index symbol token = symbol_of index symbol ≡ Terminal (index token.0)

-- the symbols are the same
abbrev pub IsSameSymbol : {S : Type 0} → (S → ℕ) → Symbol S → Symbol S → Type 0
IsSameSymbol index one other = symbol_of index one ≡ symbol_of index other

-- the moves are the same
abbrev pub IsSameMove : {S : Type 0} → (S → ℕ) → Move S → Move S → Type 0
IsSameMove index one other = move_of index one ≡ move_of index other

-- the two derivations go on with two moves
abbrev pub HasTwoMoves : {S : Type 0} → (S → ℕ) → Conflict S → Type 0
HasTwoMoves index conflict = move_of index conflict.one ≢ move_of index conflict.other

-- whether the set has the token; the dummy lookahead is none
abbrev pub has_token : TokenSet → ℕ → ℕ → Bool
has_token set token dummy = nat_lt token dummy && has set token

-- the tokens that moves shift
abbrev pub text_of : {S : Type 0} → (S → ℕ) → List (Move S) → List ℕ
text_of index moves = tokens_in (moves_in index moves)

-- both lists of moves shift the same tokens
abbrev pub HaveOneText : {S : Type 0} → (S → ℕ) → List (Move S) → List (Move S) → Type 0
HaveOneText index first second = text_of index first ≡ text_of index second

-- both lists of moves shift the same number of tokens
abbrev pub HaveAsMany : {S : Type 0} → (S → ℕ) → List (Move S) → List (Move S) → Type 0
HaveAsMany index one other = length (text_of index one) ≡ length (text_of index other)

-- the moves are those of one list, and then those of another
abbrev pub AreJoined : {S A : Type 0} → (S → ℕ) → List (Move S) → List (Move S) → Vec (Move S) A → Type 0
AreJoined index front moves = λ all. moves_in index all.items ≡ moves_in index front ++ moves_in index moves

-- the counterexample is made of these moves
abbrev pub IsExampleBy : {S : Type 0} → (S → ℕ) → List (Move S) → List (Move S) → List (Move S) → Bool → ℕ → ExampleOf → Type 0
IsExampleBy index front first second shortest bound = IsMadeOf (moves_in index front) (moves_in index first) (moves_in index second) shortest bound

-- the symbols are the same
abbrev pub AreSameSymbols : {S : Type 0} → (S → ℕ) → List (Symbol S) → List (Symbol S) → Type 0
AreSameSymbols index one other = map (symbol_of index) one ≡ map (symbol_of index) other

-- this symbol is the only one
abbrev pub IsAlone : {S : Type 0} → (S → ℕ) → Symbol S → List (Symbol S) → Type 0
IsAlone index symbol symbols = map (symbol_of index) symbols ≡ symbol_of index symbol ∷ []

-- the tokens are the same
abbrev pub AreSameTokens : {S : Type 0} → (S → ℕ) → List (TIdx S) → List (TIdx S) → Type 0
AreSameTokens index one other = token_numbers index one ≡ token_numbers index other

-- the tokens are those that the moves shift
abbrev pub AreTokensOf : {S A : Type 0} → (S → ℕ) → List (Move S) → Vec (TIdx S) A → Type 0
AreTokensOf index moves = λ tokens. token_numbers index tokens.items ≡ text_of index moves

-- the moves begin with this one
abbrev pub BeginBy : {S : Type 0} → (S → ℕ) → Move S → List (Move S) → Type 0
BeginBy index next moves = BeginsBy (move_of index next) (moves_in index moves)

-- the token is the first that the moves shift
abbrev pub ShiftFirst : {S : Type 0} → (S → ℕ) → TIdx S → List (Move S) → Type 0
ShiftFirst index token moves = ShiftsFirst (index token.0) (moves_in index moves)

-- what the search uses has minimal sentences; numbers of tokens are exact up to `most`
abbrev pub HasSentences : {S : Type 0} → ℕ → Context S → Type 0
HasSentences most context = AreShortest context.grm.now most context.shortest.now

-- the search's table and item sets were built of its grammar
abbrev pub IsBuiltIn : {S : Type 0} → Context S → Type 0
IsBuiltIn context = IsBuilt context.grm.now context.graph.now context.table.now

-- items of the conflict's state call for both moves at the token
abbrev pub IsConflictIn : {S : Type 0} → (S → ℕ) → Context S → Conflict S → Type 0
IsConflictIn index context conflict = IsConflict context.grm.now context.graph.now (conflict_of index conflict)

-- moves of trees of the symbols were appended
abbrev pub AppendsTrees : {S : Type 0} → (S → ℕ) → Grammar → List (Symbol S) → List (Move S) → List (Move S) → Type 0
AppendsTrees index g symbols old new =
    (trees : Forest ℕ) × AreTreesOf g (map (symbol_of index) symbols) trees × (moves_in index new ≡ moves_in index old ++ forest_moves trees)

-- the symbols are those of the steps
abbrev pub AreSymbolsOf : {S A : Type 0} → (S → ℕ) → List (Step S) → Vec (Symbol S) A → Type 0
AreSymbolsOf index steps = λ symbols. map (symbol_of index) symbols.items ≡ symbols_in (steps_of index steps)

-- a move was replayed over a stack of symbols
abbrev pub ReplaysMove : {S : Type 0} → (S → ℕ) → Grammar → Move S → List (Symbol S) → List (Symbol S) → Type 0
ReplaysMove index g step old new = Replays g (move_of index step) (map (symbol_of index) old) (map (symbol_of index) new)

-- the reduction of a production was replayed over a stack of symbols
abbrev pub ReplaysReduction : {S : Type 0} → (S → ℕ) → Grammar → PIdx S → List (Symbol S) → List (Symbol S) → Type 0
ReplaysReduction index g prod old new = Replays g (Makes (index prod.0)) (map (symbol_of index) old) (map (symbol_of index) new)

-- by the symbol the table goes from one state to the other
abbrev pub Goes : {S : Type 0} → (S → ℕ) → Table → StIdx S → GrammarSymbol → StIdx S → Type 0
Goes index table state symbol next = GoesBy table (index state.0) symbol (index next.0)

-- the steps lead from the table's start to the state
abbrev pub LeadFromStart : {S : Type 0} → (S → ℕ) → Table → List (Step S) → StIdx S → Type 0
LeadFromStart index table steps last = StepsLead table table.start (steps_of index steps) (index last.0)

-- the steps are an access path of the state
abbrev pub AreAccessPath : {S : Type 0} → (S → ℕ) → Grammar → Graph → List (Step S) → StIdx S → Type 0
AreAccessPath index g graph steps last = IsAccessPath g graph (steps_of index steps) (index last.0)

-- the steps are an access path of the state, and the moves those of trees of its symbols
abbrev pub AreMovesTo : {S : Type 0} → (S → ℕ) → Grammar → Graph → StIdx S → List (Step S) → List (Move S) → Type 0
AreMovesTo index g graph state steps moves = IsFront g graph (index state.0) (steps_of index steps) (moves_in index moves)

-- no moves, or those of trees of the symbols of the steps, which are an access path of the state
abbrev pub FindsMovesTo : {S A : Type 0} → (S → ℕ) → Context S → StIdx S → List (Step S) → Option (Vec (Move S) A) → Type 0
FindsMovesTo index context state steps = λ found.
    IfSome found (λ moves. AreMovesTo index context.grm.now context.graph.now state steps moves.items)

-- the front's steps are an access path of the state, and its moves those of trees of its symbols; their text is a shortest access string
abbrev pub IsFrontTo : {S : Type 0} → (S → ℕ) → Grammar → Graph → StIdx S → Front S → Type 0
IsFrontTo index g graph state front =
    IsShortestFront g graph (index state.0) (steps_of index front.steps.items) (moves_in index front.moves.items)

-- the front leads to the conflict's state, and its text is a shortest access string
abbrev pub IsFrontIn : {S : Type 0} → (S → ℕ) → Context S → Conflict S → Front S → Type 0
IsFrontIn index context conflict front = IsFrontTo index context.grm.now context.graph.now conflict.state front

-- a counterexample of the conflict, in each state to which the first moves lead, and the others by a shortest access path
abbrev pub IsExampleAfter : {S : Type 0} → (S → ℕ) → Grammar → Conflict S → List (Move S) → List (Move S) → ExampleOf → Type 0
IsExampleAfter index g conflict front short x =
    (graph : Graph) (s : ℕ) (steps short_steps : List StepOf) → IsFront g graph s steps (moves_in index front)
    → IsShortestFront g graph s short_steps (moves_in index short)
    → IsExample g graph s (index conflict.token.0) (move_of index conflict.one) (move_of index conflict.other) x

-- none, or a counterexample of the conflict by `IsExampleAfter`, with this bound
abbrev pub FindsExampleAfter : {S : Type 0} → (S → ℕ) → Grammar → Conflict S → List (Move S) → List (Move S) → ℕ → Option ExampleOf → Type 0
FindsExampleAfter index g conflict front short bound = λ found.
    IfSome found (λ x. IsExampleAfter index g conflict front short x × (x.bound ≡ bound))

-- none, or a counterexample of the conflict with this bound
abbrev pub FindsExampleOf : {S : Type 0} → (S → ℕ) → Grammar → Graph → Conflict S → ℕ → Option ExampleOf → Type 0
FindsExampleOf index g graph conflict bound = λ found.
    IfSome found (λ x. IsExampleOf g graph (conflict_of index conflict) x × (x.bound ≡ bound))

-- none, or a counterexample of the conflict with this bound, for the grammar and the item sets of the search
abbrev pub FindsExample : {S : Type 0} → (S → ℕ) → Context S → Conflict S → ℕ → Option ExampleOf → Type 0
FindsExample index context conflict bound = FindsExampleOf index context.grm.now context.graph.now conflict bound

-- the token comes after the core's dot
abbrev pub IsCoreBefore : {S : Type 0} → (S → ℕ) → Grammar → PIdx S × ℕ → TIdx S → Type 0
IsCoreBefore index g core token = slice_get (symbols_of g (index core.0.0)) core.1 ≡ Some (Terminal (index token.0))

-- an item of the state has the token after its dot
abbrev pub HasCoreBefore : {S : Type 0} → (S → ℕ) → Grammar → Graph → StIdx S → TIdx S → Type 0
HasCoreBefore index g graph state token = HasAfterDot g (sets_of graph) (index state.0) (Terminal (index token.0))

-- a core of the state with the token after its dot; none if there is none
abbrev pub FindsCoreBefore : {S : Type 0} → (S → ℕ) → Grammar → Graph → StIdx S → TIdx S → Option (PIdx S × ℕ) → Type 0
FindsCoreBefore index g graph state token found =
    MatchOption found (¬ (HasCoreBefore index g graph state token))
    (λ core. HasCore graph (index state.0) (index core.0.0) core.1 × IsCoreBefore index g core token)

-- an item of the state calls for the move at the token
abbrev pub IsCalledFor : {S : Type 0} → (S → ℕ) → Grammar → Graph → StIdx S → TIdx S → Move S → Type 0
IsCalledFor index g graph state token next = CallsFor g graph (index state.0) (index token.0) (move_of index next)

-- a derivation that begins with moves of trees of the steps' symbols goes on with this move, at the token
abbrev pub DerivesBy : {S : Type 0} → (S → ℕ) → Grammar → List (Step S) → List (Move S) → TIdx S → Move S → List (Move S) → Type 0
DerivesBy index g steps front token next moves =
    Derives g (steps_of index steps) (index token.0) (moves_in index front) (move_of index next) (moves_in index moves)

-- no moves, or a derivation that begins with moves of trees of any steps' symbols and goes on with this move, at the token
abbrev pub FindsDerivation : {S A : Type 0} → (S → ℕ) → Grammar → List (Move S) → TIdx S → Move S → Option (Vec (Move S) A) → Type 0
FindsDerivation index g front token next = λ found.
    IfSome found (λ moves. (steps : List StepOf) → Derives g steps (index token.0) (moves_in index front) (move_of index next) (moves_in index moves.items))

-- a derivation that begins with the moves of this front goes on with this move, at the token
abbrev pub GoesOnBy : {S A : Type 0} → (S → ℕ) → Grammar → Front S → TIdx S → Move S → Vec (Move S) A → Type 0
GoesOnBy index g front token next moves = DerivesBy index g front.steps.items front.moves.items token next moves.items

-- an item of the state is of the core; if the token is asked for, with it as lookahead
abbrev pub HasItemWith : {S : Type 0} → (S → ℕ) → Graph → StIdx S → TIdx S → PIdx S × ℕ → Bool → Type 0
HasItemWith index graph state token core asked = HasItemFor graph (index state.0) (index token.0) (index core.0.0) core.1 asked

-- this is the core of an item of the state, with whether the token is asked for
abbrev pub IsItemWith : {S : Type 0} → (S → ℕ) → Graph → StIdx S → TIdx S → (PIdx S × ℕ) × Bool → Type 0
IsItemWith index graph state token = λ begun. HasItemWith index graph state token begun.0 begun.1

-- moves were appended after which a derivation goes on from the item: whatever completes it then derives by this move, at the token
abbrev pub BeginsNext : {S : Type 0} → (S → ℕ) → Grammar → TIdx S → Move S → List (Move S) → List (Move S) → (PIdx S × ℕ) × Bool → Type 0
BeginsNext index g token next old new = λ begun.
    (steps : List StepOf) (all : List MoveOf)
    → HasFinished g (index token.0) (symbols_in steps) (index begun.0.0.0) begun.0.1 begun.1 (moves_in index new) all
    → Derives g steps (index token.0) (moves_in index old) (move_of index next) all

-- moves were appended that complete a tree from the item, after trees of the steps' symbols
abbrev pub Completes : {S : Type 0} → (S → ℕ) → Grammar → List (Step S) → PIdx S × ℕ → Bool → TIdx S → List (Move S) → List (Move S) → Type 0
Completes index g steps item asked token old new =
    HasFinished g (index token.0) (symbols_in (steps_of index steps)) (index item.0.0) item.1 asked (moves_in index old) (moves_in index new)

-- the link is one of the rule after its dot
abbrev pub IsStepLink : {S : Type 0} → (S → ℕ) → Grammar → TIdx S → Link S → Type 0
IsStepLink index g token link = IsOwnStep g (index token.0) (link_of index link)

-- the production's rule is reachable
abbrev pub HasReachableRule : {S : Type 0} → (S → ℕ) → Grammar → PIdx S → Type 0
HasReachableRule index g prod = IsReachableRule g (rule_of g (index prod.0))

-- the links lead up to kernel items
abbrev pub LeadUp : {S : Type 0} → (S → ℕ) → Grammar → TIdx S → List (Link S) → Type 0
LeadUp index g token links = AreUpLinks g (index token.0) (links_of index links)

-- one of the links is of the production's rule
abbrev pub HasLinkOf : {S : Type 0} → (S → ℕ) → Grammar → List (Link S) → PIdx S → Bool → Type 0
HasLinkOf index g links prod asked = HasLink (links_of index links) asked (rule_of g (index prod.0))

-- one of the links comes from this item, and is a topmost one
abbrev pub IsTopOf : {S : Type 0} → (S → ℕ) → Grammar → List (Link S) → Up S → Type 0
IsTopOf index g links up = EndsLink g (links_of index links) (up_of index up)

-- the state before this step, or the last one
abbrev pub IsStateBefore : {S : Type 0} → (S → ℕ) → List (Step S) → StIdx S → ℕ → StIdx S → Type 0
IsStateBefore index steps last place state = index state.0 ≡ state_before (steps_of index steps) (index last.0) place

-- moves of trees of the symbols after the link's rule were appended
abbrev pub AppendsRest : {S : Type 0} → (S → ℕ) → Grammar → TIdx S → Link S → List (Move S) → List (Move S) → Type 0
AppendsRest index g token link old new = HasRest g (index token.0) (link_of index link) (moves_in index old) (moves_in index new)

-- moves were appended that lead from the production, with its dot at the front, up to the kernel item
abbrev pub AppendsWayUp : {S : Type 0} → (S → ℕ) → Grammar → TIdx S → PIdx S → Bool → List (Move S) → List (Move S) → Up S → Type 0
AppendsWayUp index g token prod asked old new up =
    LeadsToKernel g (index token.0) (index prod.0) asked (moves_in index old) (moves_in index new) (up_of index up)

-- this is a kernel item of the state
abbrev pub EndsInKernel : {S : Type 0} → (S → ℕ) → Grammar → Graph → StIdx S → TIdx S → Up S → Type 0
EndsInKernel index g graph state token up = IsKernelItem g (sets_of graph (index state.0)) (index token.0) (index up.prod.0) up.dot up.asked

-- the number of a link of the rule; none if there is none
abbrev pub FindsLink : {S : Type 0} → (S → ℕ) → List (Link S) → RIdx S → Bool → Option ℕ → Type 0
FindsLink index links rule asked found =
    MatchOption found (¬ (HasLink (links_of index links) asked (index rule.0)))
    (λ i. (i < length links) × ((link_at (links_of index links) i).rule ≡ index rule.0) × ((link_at (links_of index links) i).asked ≡ asked))

-- these are links of the state
abbrev pub AreLinksOf : {S : Type 0} → (S → ℕ) → Grammar → Graph → StIdx S → TIdx S → List (Link S) → Type 0
AreLinksOf index g graph state token links = AreLinks g (sets_of graph (index state.0)) (index token.0) (links_of index links)

-- the state's items of the rule with the dot at the front have a link of the rule
abbrev pub LinkItemsOf : {S : Type 0} → (S → ℕ) → Grammar → Graph → StIdx S → TIdx S → RIdx S → Bool → List (Link S) → Type 0
LinkItemsOf index g graph state token rule asked links =
    LinkRule g (sets_of graph (index state.0)) (index token.0) (links_of index links) (index rule.0) asked

-- the token is asked for in the state
abbrev pub AsksFor : {S : Type 0} → (S → ℕ) → Grammar → List TokenSet → Graph → StIdx S → TIdx S → Type 0
AsksFor index g firsts graph state token = IsAsked g (rows_of firsts) graph (index state.0) (index token.0)

-- the core is one of the grammar
abbrev pub IsCoreOf : {S : Type 0} → (S → ℕ) → Grammar → PIdx S × ℕ → Type 0
IsCoreOf index g core = (index core.0.0 < prods_len g) × (core.1 ≤ prod_len g (index core.0.0))

-- the core is one of the state's kernel
abbrev pub IsKernelCore : {S : Type 0} → (S → ℕ) → Grammar → Graph → StIdx S → PIdx S × ℕ → Type 0
IsKernelCore index g graph state core =
    HasCore graph (index state.0) (index core.0.0) core.1 × ((0 < core.1) ⊎ (index core.0.0 ≡ start_prod g))

-- the links that were found
abbrev pub links_in : {S : Type 0} → (S → ℕ) → Found S → List LinkOf
links_in index found = links_of index found.links.items

-- no links were found
abbrev pub HasNoLinks : {S : Type 0} → (S → ℕ) → Found S → Type 0
HasNoLinks index = λ found. links_in index found ≡ []

-- a link with this number was found
abbrev pub HasLinkAt : {S : Type 0} → Found S → ℕ → Type 0
HasLinkAt found at = at < length found.links.items

-- there are marks for this number of rules
abbrev pub HasRoom : {A : Type 0} → ℕ → Vec Bool A → Type 0
HasRoom rules = λ marks. length marks.items ≡ rules

-- no mark is set
abbrev pub HasNoMarks : {A : Type 0} → Vec Bool A → Type 0
HasNoMarks marks = (r : ℕ) → has marks.items r ≡ false

-- one of the marks is for the link's rule
abbrev pub HasMarkForLink : {S A : Type 0} → (S → ℕ) → Vec Bool A → Link S → Type 0
HasMarkForLink index marks link = index link.rule.0 < length marks.items

-- of this number of rules those with links are marked
abbrev pub AreMarkedOf : {S : Type 0} → (S → ℕ) → ℕ → Found S → Type 0
AreMarkedOf index rules found = AreMarks rules (links_in index found) found.any.items found.asked.items

-- of the grammar's rules those with links are marked
abbrev pub AreMarked : {S : Type 0} → (S → ℕ) → Grammar → Found S → Type 0
AreMarked index g found = AreMarkedOf index (rules_len g) found

-- the rules with links are marked
abbrev pub HasMarks : {S : Type 0} → (S → ℕ) → Found S → Type 0
HasMarks index found = AreMarkedOf index (length found.any.items) found

-- the rules with links are still marked
abbrev pub KeepsMarks : {S : Type 0} → (S → ℕ) → Found S → Found S → Type 0
KeepsMarks index old new = AreMarkedOf index (length old.any.items) new

-- there is a mark for the rule
abbrev pub HasMarkFor : {S : Type 0} → (S → ℕ) → Found S → RIdx S → Type 0
HasMarkFor index found rule = index rule.0 < length found.any.items

-- this link was appended, or none
abbrev pub PutsLink : {S : Type 0} → (S → ℕ) → Link S → Found S → Found S → Type 0
PutsLink index link old new = ArePut (λ x. x ≡ link_of index link) (links_in index old) (links_in index new)

-- each rule that is marked has a link, for any lookahead or for the token
abbrev pub HaveLinks : {S : Type 0} → (S → ℕ) → List (Link S) → List Bool → Bool → Type 0
HaveLinks index links marks asked = AreLinked (links_of index links) marks asked

-- this link was appended, or none, and its rule is marked
abbrev pub PutsMarked : {S : Type 0} → (S → ℕ) → Link S → List (Link S) → List (Link S) → List Bool → List Bool → Type 0
PutsMarked index link old new before after = IsPutMarked (link_of index link) (links_of index old) (links_of index new) before after

-- there is a link of the rule
abbrev pub IsLinked : {S : Type 0} → (S → ℕ) → Found S → RIdx S → Bool → Type 0
IsLinked index found rule asked = HasLink (links_in index found) asked (index rule.0)

-- links of the rule after the core's dot were appended
abbrev pub PutsSteps : {S : Type 0} → (S → ℕ) → Grammar → TIdx S → PIdx S × ℕ → Bool → ℕ → Found S → Found S → Type 0
PutsSteps index g token core further above old new =
    ArePut (IsStep g (index token.0) (index core.0.0) core.1 further above) (links_in index old) (links_in index new)

-- the rule after the core's dot has its links
abbrev pub NotesCore : {S : Type 0} → (S → ℕ) → Grammar → TIdx S → PIdx S × ℕ → Bool → Found S → Type 0
NotesCore index g token core further found = AreNoted g (index token.0) (links_in index found) (index core.0.0) core.1 further

-- links from items of the link's rule were appended, which is the one with this number
abbrev pub PutsBelow : {S : Type 0} → (S → ℕ) → Grammar → TIdx S → ℕ → Link S → Found S → Found S → Type 0
PutsBelow index g token at link old new =
    ArePut (IsLinkBelow g (index token.0) at (index link.rule.0) link.asked) (links_in index old) (links_in index new)

-- the rules after the front dots of the link's rule's productions have their links
abbrev pub NotesBelow : {S : Type 0} → (S → ℕ) → Grammar → TIdx S → Link S → Found S → Type 0
NotesBelow index g token link found = AreNotedOf g (index token.0) (links_in index found) (index link.rule.0) link.asked

-- links from kernel items of the state were appended
abbrev pub PutsFromKernel : {S : Type 0} → (S → ℕ) → Grammar → Graph → StIdx S → TIdx S → Found S → Found S → Type 0
PutsFromKernel index g graph state token old new =
    ArePut (IsKernelLink g (sets_of graph (index state.0)) (index token.0)) (links_in index old) (links_in index new)

-- the rule after the dot of this kernel item has its links
abbrev pub NotesKernelCore : {S : Type 0} → (S → ℕ) → Grammar → Graph → StIdx S → TIdx S → PIdx S × ℕ → Found S → Type 0
NotesKernelCore index g graph state token core found =
    IsNotedCore g (sets_of graph (index state.0)) (index token.0) (links_in index found) (index core.0.0) core.1

-- the rule after the dot of each kernel item has its links
abbrev pub NotesKernel : {S : Type 0} → (S → ℕ) → Grammar → Graph → StIdx S → TIdx S → Found S → Type 0
NotesKernel index g graph state token found = AreKernelItemsNoted g (sets_of graph (index state.0)) (index token.0) (links_in index found)
