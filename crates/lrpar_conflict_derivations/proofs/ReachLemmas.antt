-- The rules of a state's links are reachable; and if each reachable rule has a tree, the symbols after a dot have trees that begin with
-- each token with which they can.
use Rattle.std.proofs.Common.{◌≡◌, ◌<◌, ◌+◌, ◌∙◌, refl, sym, subst, inl, inr, arith, ℕ, zero, suc, List, [], ◌∷◌, ◌++◌, All, drop, length, Some, slice_get}
use Rattle.std.proofs.lemmas.List.Elements.{All-append, All-head, All-tail}
use Rattle.lrpar_grammar.specs.Grammar.{Grammar, GrammarSymbol, IsWellFormed, Nonterminal, Terminal, prods_len, rule_of, symbols_of}
use Rattle.lrpar_grammar.specs.Tree.{Forest, Branch, Cons, Leaf, Nil, forest_leaves}
use Rattle.lrpar_grammar.proofs.ForestLemmas.{split_leaves, splits}
use Rattle.lrpar_table_rows.specs.Graph.{Graph, HasCore, ItemOf, graph_len, item_at}
use Rattle.lrpar_table_first.specs.First.{IsFirst, Empty, Rule, Token}
use Rattle.lrpar_table_first.proofs.FirstLemmas.{AreBelow, AreBelow-append}
use Rattle.lrpar_table_items.specs.Canonical.{AreSame, IsCanonical}
use Rattle.lrpar_table_items.specs.ItemSets.{IsReachedBy}
use Rattle.lrpar_table_sentences.specs.Reachable.{EachReachableHasTree, IsReachableRule, IsReachableSymbol}
use Rattle.lrpar_table_sentences.specs.Texts.{AreTreesOf, BeginWith, HaveTrees}
use Rattle.lrpar_table_sentences.proofs.AfterLemmas.{after_reached, drop_at_get, have_trees, item_reached, prod_reached, rest_reached}
use Rattle.lrpar_conflict_derivations.specs.ClosureLinks.{AreLinks, LinkOf, link_at}

module _ (g : Grammar) (well : IsWellFormed g) where
  -- the production of each link is one of a reachable rule
  pub links_reached : (set : ItemOf → Type 0) (path : List GrammarSymbol) → AreSame set (IsReachedBy g path) → (token : ℕ) (links : List LinkOf)
      → AreLinks g set token links → (n i : ℕ) → i < n → i < length links → IsReachableRule g (rule_of g (link_at links i).prod)
  links_reached set path same token links are zero i low within = absurd (omega arith)
  links_reached set path same token links are (suc n) i low within =
      let x = link_at links i in
      elim (are i within).from as (λ _. IsReachableRule g (rule_of g x.prod)) [
        | inl begun ↦ item_reached g well path (item_at x.prod x.dot begun.lookahead) ((same (item_at x.prod x.dot begun.lookahead)).0 begun.item)
        | inr below ↦
            let early : x.above < length links = let less = below.2 in omega (arith, less, within) in
            let first : x.above < n = let less = below.2 in omega (arith, less, low) in
            let y = link_at links x.above in
            let ih = links_reached set path same token links are n x.above first early in
            let step = (are x.above early).step in
            subst (IsReachableRule g) below.3 (after_reached g well y.prod y.dot y.rule step.rest step.before ih)
      ]

module _ (g : Grammar) (each : EachReachableHasTree g) where
  -- trees with a node at the front, of those that fit its production's symbols and others
  node_in_front : (p : ℕ) (w : List GrammarSymbol) (trees : Forest ℕ) → p < prods_len g → AreTreesOf g (symbols_of g p ++ w) trees
      → (others : Forest ℕ) × AreTreesOf g (Nonterminal (rule_of g p) ∷ w) others × (forest_leaves others ≡ forest_leaves trees)
  node_in_front p w trees known fit =
      let parts = splits (λ (t : ℕ). t) g trees (symbols_of g p) w fit in (
        Cons (Branch p parts.first) parts.others,
        ((known, refl, parts.first_fits), parts.others_fit),
        sym (split_leaves (λ (t : ℕ). t) g trees (symbols_of g p) w parts),
      )

  module _ (well : IsWellFormed g) (dummy : ℕ) (below : (p : ℕ) → p < prods_len g → AreBelow dummy (symbols_of g p)) where
    -- symbols that can begin with a token have trees that begin with it
    pub begins_with : (w : List GrammarSymbol) (t : ℕ) → IsFirst g dummy w t → t < dummy → All (IsReachableSymbol g) w → (trees : Forest ℕ) × BeginWith g w t trees
    begins_with w t Empty low all = absurd (omega arith)
    begins_with w t (Token s v) low all =
        let rest = have_trees g each v (All-tail (IsReachableSymbol g) (Terminal s) v all) in
        (Cons (Leaf s) rest.0, record { fit = (refl, rest.1); first = (forest_leaves rest.0, refl) })
    begins_with w t (Rule p r v s known by first) low all =
        let reached : IsReachableRule g r = All-head (IsReachableSymbol g) (Nonterminal r) v all in
        let own = prod_reached g well p known (subst (IsReachableRule g) (sym by) reached) in
        let more = begins_with (symbols_of g p ++ v) s first low
        (All-append (IsReachableSymbol g) (symbols_of g p) v own (All-tail (IsReachableSymbol g) (Nonterminal r) v all)) in
        let node = node_in_front p v more.0 known more.1.fit in (
          node.0,
          record {
            fit = subst (λ (n : ℕ). AreTreesOf g (Nonterminal n ∷ v) node.0) by node.1;
            first = (more.1.first.0, node.2 ∙ more.1.first.1);
          },
        )

    -- symbols that can derive nothing have trees without tokens
    pub derives_nothing : (w : List GrammarSymbol) (m : ℕ) → IsFirst g dummy w m → m ≡ dummy → AreBelow dummy w
        → (trees : Forest ℕ) × AreTreesOf g w trees × (forest_leaves trees ≡ [])
    derives_nothing w m Empty is free = (Nil, tt, refl)
    derives_nothing w m (Token s v) is free = absurd (let low = free.0 in omega arith)
    derives_nothing w m (Rule p r v s known by first) is free =
        let more = derives_nothing (symbols_of g p ++ v) s first is (AreBelow-append dummy (symbols_of g p) v (below p known) free) in
        let node = node_in_front p v more.0 known more.1 in
        (node.0, subst (λ (n : ℕ). AreTreesOf g (Nonterminal n ∷ v) node.0) by node.1, node.2 ∙ more.2)

-- the symbols after a symbol of an item of a state have trees
pub core_rest : (g : Grammar) → IsWellFormed g → EachReachableHasTree g → (graph : Graph) → IsCanonical g graph → (s p k : ℕ) (x : GrammarSymbol)
    → s < graph_len graph → HasCore graph s p k → slice_get (symbols_of g p) k ≡ Some x → HaveTrees g (drop (k + 1) (symbols_of g p))
core_rest g well each graph canonical s p k x low has_core at =
    let item = item_at p k has_core.0 in
    let reached = canonical.reached s low in
    let rule = item_reached g well reached.0 item ((reached.1 item).0 has_core.1) in
    have_trees g each (drop (k + 1) (symbols_of g p)) (rest_reached g well p k x (drop (k + 1) (symbols_of g p)) (drop_at_get (symbols_of g p) k x at) rule)
