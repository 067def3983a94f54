-- A shortest access path of a state and minimal sentences of its symbols are a shortest access string.
use Rattle.std.proofs.Common.{◌≡◌, ◌<◌, ◌≤◌, ◌∙◌, refl, sym, ap, subst, inl, inr, arith, ℕ, List, [], ◌∷◌, ◌++◌, All, None, Option, Some, length, map, min, option_map, reverse, slice_get, take}
use Rattle.std.proofs.lemmas.Bool.{cases_lt}
use Rattle.std.proofs.lemmas.List.{get_or_past, length-map, reverse-append, reverse-reverse, take_all}
use Rattle.std.proofs.lemmas.List.Elements.{All-append, All-cons, All-head, All-nil, All-tail}
use Rattle.lrpar_grammar.specs.Grammar.{Grammar, GrammarSymbol, IsWellFormed, Nonterminal, Terminal, rule_of, symbols_of}
use Rattle.lrpar_grammar.specs.Tree.{Forest, forest_leaves}
use Rattle.lrpar_table_rows.specs.Graph.{Graph, ItemOf, graph_len}
use Rattle.lrpar_table_rows.specs.Table.{IsClosed, Table}
use Rattle.lrpar_table_build.specs.Built.{IsBuilt}
use Rattle.lrpar_table_items.specs.Canonical.{AreSame, sets_of}
use Rattle.lrpar_table_items.specs.ItemSets.{IsAdvanced, IsReachedBy}
use Rattle.lrpar_table_build.proofs.ReachedLemmas.{closure_each, known_by_symbol}
use Rattle.lrpar_table_sentences.specs.Moves.{MoveOf, forest_moves, move_of, moves_in}
use Rattle.lrpar_table_sentences.specs.Reachable.{IsReachableRule, IsReachableSymbol, OnRight}
use Rattle.lrpar_table_sentences.specs.Texts.{AreShortestTrees, AreTreesOf, HaveTrees, forest_width}
use Rattle.lrpar_table_sentences.specs.AccessStrings.{AreAccessStrings, IsPathTo, IsShortestPath, IsShortestAccessIfAny, StepOf, StepsLead, AccessOf, steps_of, symbols_in, access_at}
use Rattle.lrpar_table_sentences.specs.declared.moves.Move.{Move}
use Rattle.lrpar_table_sentences.specs.declared.transitions.Step.{Step}
use Rattle.lrpar_conflict_derivations.specs.Completion.{IsAccessPath, state_before}
use Rattle.lrpar_conflict_derivations.specs.Example.{AreExamplesFor, ExamplesOf, IsFront, IsShortestFront}
use Rattle.lrpar_conflict_derivations.proofs.PathLemmas.{state_reached}
use Rattle.lrpar_table_sentences.proofs.AfterLemmas.{contains_at, have_trees, item_reached}
use Rattle.lrpar_conflict_derivations.proofs.TextLemmas.{tokens_of_trees, tokens_short}
use Rattle.lrpar_conflict_derivations.specs.Texts.{tokens_in}

-- what holds of each of a list holds of each of the list reversed
All-reverse : {X : Type 0} (P : X → Type 0) (xs : List X) → All P xs → All P (reverse xs)
All-reverse P [] all = All-nil P
All-reverse {X} P (x ∷ xs) all =
    let turned = All-append P (reverse xs) (x ∷ []) (All-reverse P xs (All-tail P x xs all)) (All-cons P x [] (All-head P x xs all) (All-nil P)) in
    subst (λ (ys : List X). All P ys) (sym (reverse-append (x ∷ []) xs)) turned

module _ (g : Grammar) (well : IsWellFormed g) where
  -- a symbol after a dot of a reachable rule is reachable
  symbol_reached : (q j : ℕ) (s : GrammarSymbol) → slice_get (symbols_of g q) j ≡ Some s → IsReachableRule g (rule_of g q) → IsReachableSymbol g s
  symbol_reached q j (Terminal t) at reached = tt
  symbol_reached q j (Nonterminal r) at reached =
      OnRight q r (known_by_symbol g well q j (Nonterminal r) at) reached (contains_at (symbols_of g q) j (Nonterminal r) at)

  -- so each symbol of a path is
  path_reached : (path : List GrammarSymbol) (x : ItemOf) → IsReachedBy g path x → All (IsReachableSymbol g) path
  path_reached [] = λ x reached. All-nil (IsReachableSymbol g)
  path_reached (s ∷ path) =
      closure_each g (λ _. All (IsReachableSymbol g) (s ∷ path)) (λ x y all adds. all) (IsAdvanced g (IsReachedBy g path) s)
      (λ y from.
      All-cons (IsReachableSymbol g) s path (symbol_reached from.0.prod from.0.dot s from.2 (item_reached g well path from.0 from.1))
      (path_reached path from.0 from.1))

-- something is kept of a state to which trees lead
some_by : (g : Grammar) (graph : Graph) (most s : ℕ) (access : Option AccessOf) → IsShortestAccessIfAny g graph most s (option_map (λ x. x.len) access)
    → (symbols : List GrammarSymbol) → IsPathTo g graph s symbols → HaveTrees g symbols → (found : AccessOf) × (access ≡ Some found)
some_by g graph most s None none symbols path trees = absurd (none symbols trees.0 path trees.1)
some_by g graph most s (Some found) least symbols path trees = (found, refl)

module _ (g : Grammar) (graph : Graph) (table : Table) (well : IsWellFormed g) (built : IsBuilt g graph table) (closed : IsClosed table) (s : ℕ) where
  -- steps that lead from the start are an access path
  pub access_path_by : (steps : List StepOf) → StepsLead table table.start steps s → IsAccessPath g graph steps s
  access_path_by steps lead =
      let start : IsPathTo g graph table.start [] =
      subst (λ (n : ℕ). AreSame (sets_of graph n) (IsReachedBy g [])) (sym built.resolved.start) built.canonical.start in
      state_reached g graph table well built closed steps table.start s [] closed.start_within lead start

-- the symbols of an access path lead to its last state
pub path_leads : (g : Grammar) (graph : Graph) (s : ℕ) (steps : List StepOf) → IsAccessPath g graph steps s → IsPathTo g graph s (symbols_in steps)
path_leads g graph s steps access_path =
    let froms = map (λ (x : StepOf). x.from) steps in
    let symbols = symbols_in steps in
    let long : length froms ≡ length steps = length-map steps (λ (x : StepOf). x.from) in
    let all : length symbols ≡ length steps = length-map steps (λ (x : StepOf). x.symbol) in
    let last : state_before steps s (length steps) ≡ s = get_or_past froms (length steps) s (omega (arith, long)) in
    let whole : take (length steps) symbols ≡ symbols = take_all (length steps) symbols (omega (arith, all)) in
    subst (λ (n : ℕ). IsPathTo g graph n symbols) last
    (subst (λ (w : List GrammarSymbol). IsPathTo g graph (state_before steps s (length steps)) w) whole (access_path (length steps) (omega arith)))

-- steps that lead to the state, and moves of trees of their symbols
pub front_by : (g : Grammar) (graph : Graph) (table : Table) → IsWellFormed g → IsBuilt g graph table → IsClosed table → (s : ℕ) (steps : List StepOf)
    → StepsLead table table.start steps s → (trees : Forest ℕ) → AreTreesOf g (symbols_in steps) trees → (moves : List MoveOf) → moves ≡ forest_moves trees
    → IsFront g graph s steps moves
front_by g graph table well built closed s steps lead trees fit moves are =
    let access_path = access_path_by g graph table well built closed s steps lead in record {
      access_path = access_path;
      trees = trees;
      text = record { leads = path_leads g graph s steps access_path; fit = fit; tokens = refl };
      moves_are = are;
    }

module _ (g : Grammar) (graph : Graph) (table : Table) (most : ℕ) (well : IsWellFormed g) (built : IsBuilt g graph table) (x : ExamplesOf)
    (made : AreExamplesFor g graph table most x) (s : ℕ) (low : s < graph_len graph) where
  -- an access path of the state is kept
  some_access : (access : AccessOf) × (access_at x.access s ≡ Some access)
  some_access =
      let reached = built.canonical.reached s low in
      let path = reached.0 in
      let item = built.canonical.some s low in
      let all = path_reached g well path item.0 ((reached.1 item.0).0 item.1) in
      let trees = have_trees g made.each (reverse path) (All-reverse (IsReachableSymbol g) path all) in
      let turned : IsPathTo g graph s (reverse path) =
      subst (λ (w : List GrammarSymbol). AreSame (sets_of graph s) (IsReachedBy g w)) (sym (reverse-reverse path)) reached.1 in
      some_by g graph most s (access_at x.access s) (made.access.lens s low) (reverse path) turned trees

  module _ (closed : IsClosed table) (steps : List StepOf) (path : IsShortestPath g graph table most s steps) where
    -- its symbols have trees
    path_trees : HaveTrees g (symbols_in steps)
    path_trees = let some = path.own.some in (some.0, some.1)

    -- minimal ones have at most as many tokens as those of any other path
    no_shorter : (trees : Forest ℕ) → AreShortestTrees g (symbols_in steps) trees → forest_width trees ≤ most
        → (other : List GrammarSymbol) (others : Forest ℕ) → IsPathTo g graph s other → AreTreesOf g other others → forest_width trees ≤ forest_width others
    no_shorter trees least fits other others to fit =
        let own = path.own.some in
        let less : forest_width trees ≤ forest_width own.0 = least.least own.0 own.1 in
        let bound : path.len ≤ forest_width others = path.least.least other others to fit in
        elim (cases_lt (forest_width own.0) most) [
          | inl short ↦ let len : min (forest_width own.0) most ≡ path.len = own.2 in omega (arith, less, bound, short, len)
          | inr long ↦ let len : min (forest_width own.0) most ≡ path.len = own.2 in omega (arith, fits, bound, long, len)
        ]

    front_done : (trees : Forest ℕ) → AreShortestTrees g (symbols_in steps) trees → (moves : List MoveOf) → moves ≡ forest_moves trees → length moves ≤ most
        → IsShortestFront g graph s steps moves
    front_done trees least moves are within =
        let tokens : tokens_in moves ≡ forest_leaves trees = ap tokens_in are ∙ tokens_of_trees trees in
        let text : length (tokens_in moves) ≡ forest_width trees = ap (λ (xs : List ℕ). length xs) tokens in
        let short = tokens_short moves in
        let shorter = no_shorter trees least (omega (arith, text, short, within)) in record {
          front = front_by g graph table well built closed s steps path.lead trees least.fit moves are;
          least = λ other others to fit. let less = shorter other others to fit in omega (arith, text, less);
        }

-- the same of code: the steps that were pushed for a state, and the moves that were pushed for their symbols
module _ {S : Type 0} (index : S → ℕ) (g : Grammar) (graph : Graph) (table : Table) (most : ℕ) (well : IsWellFormed g) (built : IsBuilt g graph table)
    (x : ExamplesOf) (made : AreExamplesFor g graph table most x) (s : ℕ) (low : s < graph_len graph) (closed : IsClosed table)
    (accesses : List (Option AccessOf)) (same : accesses ≡ x.access) (first steps : List (Step S)) (fresh : first ≡ [])
    (pushes : AreAccessStrings g graph table most accesses → (access : AccessOf) → access_at accesses s ≡ Some access
    → (path : List StepOf) × IsShortestPath g graph table most s path × (steps_of index steps ≡ steps_of index first ++ path))
    (symbols : List GrammarSymbol) (are : symbols ≡ symbols_in (steps_of index steps)) where
  path_pushed : IsShortestPath g graph table most s (steps_of index steps)
  path_pushed =
      let access = some_access g graph table most well built x made s low in
      let kept : access_at accesses s ≡ Some access.0 = ap (λ (w : List (Option AccessOf)). access_at w s) same ∙ access.1 in
      let strings = subst (λ (w : List (Option AccessOf)). AreAccessStrings g graph table most w) (sym same) made.access in
      let found = pushes strings access.0 kept in
      subst (λ (xs : List StepOf). IsShortestPath g graph table most s xs) (sym (found.2 ∙ ap (λ xs. steps_of index xs ++ found.0) fresh)) found.1

  pub symbols_have_trees : HaveTrees g symbols
  symbols_have_trees = subst (HaveTrees g) (sym are) (path_trees g graph table most well built x made s low closed (steps_of index steps) path_pushed)

  pub front_pushed : (before moves : List (Move S)) → before ≡ []
      → (trees : Forest ℕ) × AreShortestTrees g symbols trees × (moves_in index moves ≡ moves_in index before ++ forest_moves trees) → length moves ≤ most
      → IsShortestFront g graph s (steps_of index steps) (moves_in index moves)
  front_pushed before moves empty pushed within =
      let least = subst (λ (w : List GrammarSymbol). AreShortestTrees g w pushed.0) are pushed.1 in
      let are_moves : moves_in index moves ≡ forest_moves pushed.0 = pushed.2 ∙ ap (λ xs. moves_in index xs ++ forest_moves pushed.0) empty in
      let long = length-map moves (move_of index) in
      front_done g graph table most well built x made s low closed (steps_of index steps) path_pushed pushed.0 least (moves_in index moves) are_moves (omega (arith, long, within))
