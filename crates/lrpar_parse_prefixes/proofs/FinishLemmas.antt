-- Each core of a state to which a path of symbols leads has a reason, by which a sentence is finished from it. Let trees fit these
-- symbols, and let other trees fit the symbols after the core's dot. The leaves of all these begin a sentence. At the core `^: . S`
-- of the start state they are a tree of the start rule. A core with its dot past 0 comes from one of the state before, which has the
-- symbol between them after its dot: its tree is the last of the path's. A core that another one adds gives a node for the rule
-- after the dot of that one, and the symbols after the rule there have trees, since each reachable rule is productive.
--
-- No lookahead is needed for this. In a safe and viable table these are all cores: a core with its dot past 0 comes from the state
-- before (S4), of which the start state has none (S2); and `^: . S` is in the start state alone, to which no transition leads (S8).
use Rattle.std.proofs.Common.{◌≡◌, ◌<◌, ◌+◌, ◌∙◌, refl, sym, ap, subst, arith, ℕ, List, [], ◌∷◌, ◌++◌, Some, drop, reverse, slice_get}
use Rattle.std.proofs.lemmas.List.{append_assoc, append-nil, reverse-append}
use Rattle.lrpar_grammar.specs.Grammar.{Grammar, GrammarSymbol, IsWellFormed, Nonterminal, rule_of, start_prod, symbols_of}
use Rattle.lrpar_grammar.specs.Tree.{Branch, Cons, Forest, Nil, forest_leaves, leaves}
use Rattle.lrpar_grammar.proofs.ForestLemmas.{joined, joined_fits, joined_leaves, split_leaves, splits}
use Rattle.lrpar_table_rows.specs.Graph.{Graph, HasCore}
use Rattle.lrpar_table_rows.specs.Safe.{GoesBy, IsSafe}
use Rattle.lrpar_table_rows.specs.Table.{Table, states_len}
use Rattle.lrpar_table_rows.specs.declared.condition.SafetyCondition.TheVariants.{S2, S4, S8}
use Rattle.lrpar_table_sentences.specs.AccessLens.{Goes, IsWalk, Starts}
use Rattle.lrpar_table_sentences.specs.Reachable.{Added, EachReachableHasTree, IsReachableRule}
use Rattle.lrpar_table_sentences.specs.Texts.{AreTreesOf, HaveTrees}
use Rattle.lrpar_table_sentences.proofs.AfterLemmas.{after_reached, drop_at_get, have_trees, rest_reached}
use Rattle.lrpar_table_viable.specs.Viable.{AddsCore, Begins, Closes, IsJustified, IsViable, Kernel}
use Rattle.lrpar_parse_prefixes.specs.Viable.{AreSentence, BeginSentence}

-- if the whole list begins a sentence, its first tokens do
pub begin_less : (g : Grammar) (front more : List ℕ) → BeginSentence g (front ++ more) → BeginSentence g front
begin_less g front more begins =
    let sentence = begins.1 in (more ++ begins.0, (sentence.0, sentence.1, sentence.2 ∙ append_assoc front more begins.0))

-- something holds of the leaves of trees of the path's symbols and then of trees of the symbols after the core's dot
abbrev pub HoldsOfTrees : Grammar → (List ℕ → Type 0) → List GrammarSymbol → ℕ → ℕ → Type 0
HoldsOfTrees g P path p k =
    (front rest : Forest ℕ) → AreTreesOf g (reverse path) front → AreTreesOf g (drop k (symbols_of g p)) rest
    → P (forest_leaves front ++ forest_leaves rest)

-- then it also holds if the dot is moved on by a symbol
pub moved_holds : (g : Grammar) (P : List ℕ → Type 0) (path : List GrammarSymbol) (s : GrammarSymbol) (p k : ℕ)
    → slice_get (symbols_of g p) k ≡ Some s → HoldsOfTrees g P path p k → HoldsOfTrees g P (s ∷ path) p (k + 1)
moved_holds g P path s p k at holds front rest fit rest_fit =
    let parts = splits (λ (t : ℕ). t) g front (reverse path) (s ∷ [])
    (subst (λ (w : List GrammarSymbol). AreTreesOf g w front) (reverse-append (s ∷ []) path) fit) in
    let after = joined parts.others rest in
    let after_fit : AreTreesOf g (drop k (symbols_of g p)) after =
    subst (λ (w : List GrammarSymbol). AreTreesOf g w after) (sym (drop_at_get (symbols_of g p) k s at))
    (joined_fits (λ (t : ℕ). t) g parts.others rest (s ∷ []) (drop (k + 1) (symbols_of g p)) parts.others_fit rest_fit) in
    let all : forest_leaves parts.first ++ forest_leaves after ≡ forest_leaves front ++ forest_leaves rest =
    ap (λ (ts : List ℕ). forest_leaves parts.first ++ ts) (joined_leaves parts.others rest)
    ∙ sym (append_assoc (forest_leaves parts.first) (forest_leaves parts.others) (forest_leaves rest))
    ∙ ap (λ (ts : List ℕ). ts ++ forest_leaves rest) (sym (split_leaves (λ (t : ℕ). t) g front (reverse path) (s ∷ []) parts)) in
    subst P all (holds parts.first after parts.first_fits after_fit)

-- trees of the path's symbols, and then trees of the symbols after the core's dot, begin a sentence
abbrev pub Finishes : Grammar → List GrammarSymbol → ℕ → ℕ → Type 0
Finishes g path p k = HoldsOfTrees g (BeginSentence g) path p k

-- a tree of the start rule is a sentence
pub start_sentence : (g : Grammar) (front rest : Forest ℕ) → AreTreesOf g [] front → AreTreesOf g (Nonterminal g.start ∷ []) rest
    → AreSentence g (forest_leaves front ++ forest_leaves rest)
start_sentence g (Cons t ts) rest fit rest_fit = absurd fit
start_sentence g Nil Nil fit rest_fit = absurd rest_fit
start_sentence g Nil (Cons t (Cons u us)) fit rest_fit = absurd rest_fit.1
start_sentence g Nil (Cons t Nil) fit rest_fit = (t, rest_fit.0, sym (append-nil (leaves t)))

module _ (g : Grammar) (well : IsWellFormed g) (each : EachReachableHasTree g) where
  start_finishes : Finishes g [] (start_prod g) 0
  start_finishes front rest fit rest_fit =
      let sentence = start_sentence g front rest fit (subst (λ (w : List GrammarSymbol). AreTreesOf g w rest) well.last_symbols rest_fit) in
      ([], subst (AreSentence g) (sym (append-nil (forest_leaves front ++ forest_leaves rest))) sentence)

  -- another core adds the core
  added_finishes : (path : List GrammarSymbol) (p k q : ℕ) (adds : AddsCore g p k q) → HaveTrees g adds.rest → Finishes g path p k → Finishes g path q 0
  added_finishes path p k q adds later finishes front rest fit rest_fit =
      let after : Forest ℕ = Cons (Branch q rest) later.0 in
      let after_fit : AreTreesOf g (drop k (symbols_of g p)) after =
      subst (λ (w : List GrammarSymbol). AreTreesOf g w after) (sym adds.before) ((adds.known, adds.of_rule, rest_fit), later.1) in
      let all = sym (append_assoc (forest_leaves front) (forest_leaves rest) (forest_leaves later.0)) in
      begin_less g (forest_leaves front ++ forest_leaves rest) (forest_leaves later.0)
      (subst (BeginSentence g) all (finishes front after fit after_fit))

  -- a core's rule is reachable, and a sentence is finished from the core
  abbrev Holds : List GrammarSymbol → ℕ → ℕ → Type 0
  Holds path p k = IsReachableRule g (rule_of g p) × Finishes g path p k

  start_holds : Holds [] (start_prod g) 0
  start_holds = (subst (IsReachableRule g) (sym well.last_rule) Added, start_finishes)

  added_holds : (path : List GrammarSymbol) (p k q : ℕ) → Holds path p k → AddsCore g p k q → Holds path q 0
  added_holds path p k q h adds =
      let reached = after_reached g well p k adds.rule adds.rest adds.before h.0 in
      let later = have_trees g each adds.rest (rest_reached g well p k (Nonterminal adds.rule) adds.rest adds.before h.0) in
      (subst (IsReachableRule g) (sym adds.of_rule) reached, added_finishes path p k q adds later h.1)

  module _ (graph : Graph) (table : Table) where
    -- this holds of each justified core of a state, if it holds of those with the dot past 0, and of `^: . S` in the start state
    justified_holds : (s : ℕ) (path : List GrammarSymbol) → ((p k : ℕ) → HasCore graph s p (k + 1) → Holds path p (k + 1))
        → (s ≡ table.start → Holds path (start_prod g) 0) → (p k : ℕ) → IsJustified g graph table s p k → Holds path p k
    justified_holds s path moved begins _ _ (Kernel p k has) = moved p k has
    justified_holds s path moved begins _ _ (Begins is has) = begins is
    justified_holds s path moved begins _ _ (Closes p k q from adds has) =
        added_holds path p k q (justified_holds s path moved begins p k from) adds

    module _ (safe : IsSafe g graph table) (viable : IsViable g graph table) where
      -- so it holds of each core of a state to which a walk leads
      pub core_holds : (s : ℕ) (path : List GrammarSymbol) → IsWalk table s path → s < states_len table → (p k : ℕ) → HasCore graph s p k → Holds path p k
      core_holds _ _ Starts within p k has =
          justified_holds table.start []
          (λ q j past. let fresh : j + 1 ≡ 0 = safe.each S2 table.start within refl q (j + 1) past in absurd (omega (arith, fresh)))
          (λ _. start_holds) p k ((viable.each table.start within).justified p k has)
      core_holds _ _ (Goes from next x path walk low goes) within p k has =
          justified_holds next (x ∷ path)
          (λ q j past.
          let before = safe.each S4 from low x next goes q j past in
          let holds = core_holds from path walk low q j before.1 in
          (holds.0, moved_holds g (BeginSentence g) path x q j before.0 holds.1))
          (λ is. absurd ((safe.each S8 from low).never_back x (subst (GoesBy table from x) is goes)))
          p k ((viable.each next within).justified p k has)
