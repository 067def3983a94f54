-- The path up by links, from one to the one above it.
use Rattle.std.proofs.Common.{◌≡◌, ◌≢◌, ◌<◌, ◌≤◌, ◌+◌, ◌⊎◌, ◌∙◌, refl, sym, ap, subst, inl, inr, arith, ℕ, suc, Bool, List, [], ◌∷◌, ◌++◌, drop, get_or, length}
use Rattle.std.proofs.lemmas.List.{append_assoc, append-nil, length-map, map-append}
use Rattle.lrpar_grammar_places.specs.declared.span.PIdx.{PIdx}
use Rattle.lrpar_grammar.specs.Grammar.{Grammar, GrammarSymbol, IsWellFormed, Nonterminal, prods_len, rule_of, start_prod, symbols_of}
use Rattle.lrpar_table_rows.specs.Graph.{ItemOf}
use Rattle.lrpar_table_items.specs.Canonical.{AreSame}
use Rattle.lrpar_table_items.specs.ItemSets.{IsReachedBy}
use Rattle.lrpar_table_build.proofs.ReachedLemmas.{head_after, known_by_symbol}
use Rattle.lrpar_table_sentences.specs.Moves.{MoveOf, Makes, forest_moves, move_of, moves_in}
use Rattle.lrpar_table_sentences.specs.declared.moves.Move.{Move}
use Rattle.lrpar_table_sentences.specs.declared.moves.Move.TheVariants.{Make}
use Rattle.lrpar_table_sentences.specs.Reachable.{IsReachableRule}
use Rattle.lrpar_conflict_derivations.specs.Completion.{AreUpLinks, EndsLink, LeadsToKernel, HasRest, LeadsUp, UpOf, path_item}
use Rattle.lrpar_conflict_derivations.specs.ClosureLinks.{AreLinks, IsKernelItem, IsOwnStep, IsStep, LinkOf, link_at, link_of, links_of}
use Rattle.lrpar_conflict_derivations.specs.declared.closure_links.Link.{Link}
use Rattle.lrpar_table_sentences.proofs.AfterLemmas.{drop_at_get}
use Rattle.lrpar_conflict_derivations.proofs.CompletionLemmas.{up_added, up_none, up_then}
use Rattle.lrpar_conflict_derivations.proofs.LinkLemmas.{link_is}
use Rattle.lrpar_conflict_derivations.proofs.ReachLemmas.{links_reached}

-- links of a state lead up
pub up_links : (g : Grammar) → IsWellFormed g → (set : ItemOf → Type 0) (path : List GrammarSymbol) → AreSame set (IsReachedBy g path) → (token : ℕ)
    (links : List LinkOf) → AreLinks g set token links → AreUpLinks g token links
up_links g well set path same token links are i low =
    let x = link_at links i in
    let step = (are i low).step in record {
      step = step;
      known = known_by_symbol g well x.prod x.dot (Nonterminal x.rule) (head_after (symbols_of g x.prod) x.dot (Nonterminal x.rule) step.rest step.before);
      reached = links_reached g well set path same token links are (suc i) i (omega arith) low;
      above =
          λ front listed.
          elim (are i low).from [
            | inl begun ↦
                elim begun.begun [
                  | inl moved ↦ absurd (omega (arith, moved, front))
                  | inr last ↦ absurd (listed last)
                ]
            | inr below ↦ (below.2, below.3, below.4)
          ];
    }

-- and end at a kernel item
pub ends_begun : (g : Grammar) (set : ItemOf → Type 0) (token : ℕ) (links : List LinkOf) (up : UpOf) → AreLinks g set token links → EndsLink g links up
    → IsKernelItem g set token up.prod up.dot up.asked
ends_begun g set token links up are ends =
    let x = link_at links ends.number in
    let Item = IsKernelItem g set token up.prod up.dot up.asked in
    elim (are ends.number ends.within).from as (λ _. Item) [
      | inl begun ↦
          subst (λ (n : ℕ). IsKernelItem g set token n up.dot up.asked) ends.prod
          (subst (λ (n : ℕ). IsKernelItem g set token x.prod n up.asked) ends.dot
          (subst (λ (b : Bool). IsKernelItem g set token x.prod x.dot b) ends.further begun))
      | inr below ↦
          elim ends.begun as (λ _. Item) [
            | inl moved ↦ let front : up.dot ≡ 0 = sym ends.dot ∙ below.0 in absurd (omega (arith, moved, front))
            | inr last ↦ absurd (below.1 (ends.prod ∙ last))
          ]
    ]

-- moves were appended that lead from production p up to production q, with its dot at the front
pub record IsPathUp (g : Grammar) (token p : ℕ) (asked : Bool) (old new : List MoveOf) (q : ℕ) (further : Bool) : Type 0 where
  pub done : List MoveOf
  pub moves : new ≡ old ++ done
  pub leads : (front : List GrammarSymbol) → LeadsUp g token (path_item front p 0 asked) done (path_item front q 0 further)
  pub begins : ((done ≡ []) × (q ≡ p)) ⊎ ((rest : List MoveOf) × (done ≡ Makes p ∷ rest))

module _ (g : Grammar) (token p : ℕ) (asked : Bool) (old : List MoveOf) where
  pub path_none : IsPathUp g token p asked old old p asked
  path_none = record {
    done = [];
    moves = sym (append-nil old);
    leads = λ front. up_none g token (path_item front p 0 asked);
    begins = inl (refl, refl);
  }

  -- a node and trees after it lead up to the item of the link
  path_further : IsWellFormed g → (middle pushed new : List MoveOf) (q : ℕ) (further : Bool) (x : LinkOf) → IsPathUp g token p asked old middle q further
      → q < prods_len g → x.rule ≡ rule_of g q → x.asked ≡ further → IsStep g token x.prod x.dot x.further x.above x
      → pushed ≡ middle ++ Makes q ∷ [] → HasRest g token x pushed new
      → LeadsToKernel g token p asked old new (record { prod = x.prod; dot = x.dot; asked = x.further })
  path_further well middle pushed new q further x path known rule asks step push rest =
      let at = drop_at_get (symbols_of g x.prod) x.dot (Nonterminal x.rule)
      (head_after (symbols_of g x.prod) x.dot (Nonterminal x.rule) step.rest step.before) in
      let after : drop x.dot (symbols_of g x.prod) ≡ Nonterminal (rule_of g q) ∷ drop (x.dot + 1) (symbols_of g x.prod) =
      at ∙ ap (λ (n : ℕ). Nonterminal n ∷ drop (x.dot + 1) (symbols_of g x.prod)) rule in
      let added = λ (front : List GrammarSymbol).
      up_added g token well front x.prod x.dot q (drop (x.dot + 1) (symbols_of g x.prod)) rest.trees x.asked x.further after known rest.fit rest.ahead in
      let own : (front : List GrammarSymbol) → LeadsUp g token (path_item front q 0 further) (Makes q ∷ forest_moves rest.trees) (path_item front x.prod x.dot x.further) =
      λ front.
      subst (λ (b : Bool). LeadsUp g token (path_item front q 0 b) (Makes q ∷ forest_moves rest.trees) (path_item front x.prod x.dot x.further)) asks (added front) in
      let all = λ (front : List GrammarSymbol).
      up_then g token (path_item front p 0 asked) (path_item front q 0 further) (path_item front x.prod x.dot x.further) path.done (Makes q ∷ forest_moves rest.trees)
      (path.leads front) (own front) in
      let moves : new ≡ old ++ (path.done ++ Makes q ∷ forest_moves rest.trees) =
      rest.moves ∙ ap (λ ms. ms ++ forest_moves rest.trees) push ∙ append_assoc middle (Makes q ∷ []) (forest_moves rest.trees)
      ∙ ap (λ ms. ms ++ Makes q ∷ forest_moves rest.trees) path.moves ∙ append_assoc old path.done (Makes q ∷ forest_moves rest.trees) in
      elim path.begins [
        | inl first ↦
            let is : path.done ++ Makes q ∷ forest_moves rest.trees ≡ Makes p ∷ forest_moves rest.trees =
            ap (λ ms. ms ++ Makes q ∷ forest_moves rest.trees) first.0 ∙ ap (λ (n : ℕ). Makes n ∷ forest_moves rest.trees) first.1 in record {
              more = forest_moves rest.trees;
              moves = moves ∙ ap (λ ms. old ++ ms) is;
              leads =
                  λ front.
                  subst (λ (ms : List MoveOf). LeadsUp g token (path_item front p 0 asked) ms (path_item front x.prod x.dot x.further)) is (all front);
            }
        | inr later ↦
            let is : path.done ++ Makes q ∷ forest_moves rest.trees ≡ Makes p ∷ (later.0 ++ Makes q ∷ forest_moves rest.trees) =
            ap (λ ms. ms ++ Makes q ∷ forest_moves rest.trees) later.1 in record {
              more = later.0 ++ Makes q ∷ forest_moves rest.trees;
              moves = moves ∙ ap (λ ms. old ++ ms) is;
              leads =
                  λ front.
                  subst (λ (ms : List MoveOf). LeadsUp g token (path_item front p 0 asked) ms (path_item front x.prod x.dot x.further)) is (all front);
            }
      ]

  -- from there the path goes on, if the dot is at the front
  pub path_on : (new : List MoveOf) (q j : ℕ) (further : Bool) (on : Bool) → LeadsToKernel g token p asked old new (record { prod = q; dot = j; asked = further })
      → j ≡ 0 → further ≡ on → IsPathUp g token p asked old new q on
  path_on new q j further on to_kernel front same = record {
    done = Makes p ∷ to_kernel.more;
    moves = to_kernel.moves;
    leads =
        λ before.
        subst (λ (b : Bool). LeadsUp g token (path_item before p 0 asked) (Makes p ∷ to_kernel.more) (path_item before q 0 b)) same
        (subst (λ (n : ℕ). LeadsUp g token (path_item before p 0 asked) (Makes p ∷ to_kernel.more) (path_item before q n further)) front (to_kernel.leads before));
    begins = inr (to_kernel.more, refl);
  }

-- one link of those that lead up, as the code reads it
module _ {S : Type 0} (index : S → ℕ) (g : Grammar) (token : ℕ) (links : List (Link S)) (ups : AreUpLinks g token (links_of index links)) (i : ℕ)
    (low : i < length (links_of index links)) (link : Link S) (read : link ≡ get_or links i link) where
  here : link_of index link ≡ link_at (links_of index links) i
  here = link_is index links i link (let long = length-map links (link_of index) in omega (arith, long, low)) read

  pub step_here : IsOwnStep g token (link_of index link)
  step_here = subst (IsOwnStep g token) (sym here) (ups i low).step

  pub reached_here : IsReachableRule g (rule_of g (index link.prod.0))
  reached_here = subst (λ (y : LinkOf). IsReachableRule g (rule_of g y.prod)) (sym here) (ups i low).reached

  pub known_here : index link.prod.0 < prods_len g
  known_here = subst (λ (y : LinkOf). y.prod < prods_len g) (sym here) (ups i low).known

  pub ends_here : (0 < link.dot) ⊎ (index link.prod.0 ≡ start_prod g)
      → EndsLink g (links_of index links) (record { prod = index link.prod.0; dot = link.dot; asked = link.further })
  ends_here begun = record {
    number = i;
    within = low;
    prod = sym (ap (λ (y : LinkOf). y.prod) here);
    dot = sym (ap (λ (y : LinkOf). y.dot) here);
    further = sym (ap (λ (y : LinkOf). y.further) here);
    begun = begun;
  }

  pub above_here : link.dot ≤ 0 → index link.prod.0 ≢ start_prod g
      → (link.above < i) × ((link_at (links_of index links) link.above).rule ≡ rule_of g (index link.prod.0))
      × ((link_at (links_of index links) link.above).asked ≡ link.further)
  above_here front listed =
      subst (λ (y : LinkOf). (y.above < i) × ((link_at (links_of index links) y.above).rule ≡ rule_of g y.prod) × ((link_at (links_of index links) y.above).asked ≡ y.further))
      (sym here)
      ((ups i low).above (let dot = ap (λ (y : LinkOf). y.dot) here in omega (arith, front, dot)) (λ last. listed (ap (λ (y : LinkOf). y.prod) here ∙ last)))

  -- the node of a production of the link's rule, and trees of the symbols after that rule, lead up to the link's item
  pub item_here : (p : ℕ) (asked : Bool) (old middle pushed new : List (Move S)) (node : PIdx S) → IsWellFormed g
      → IsPathUp g token p asked (moves_in index old) (moves_in index middle) (index node.0) (link_at (links_of index links) i).asked
      → index node.0 < prods_len g → (link_at (links_of index links) i).rule ≡ rule_of g (index node.0) → pushed ≡ middle ++ Make node ∷ []
      → HasRest g token (link_of index link) (moves_in index pushed) (moves_in index new)
      → LeadsToKernel g token p asked (moves_in index old) (moves_in index new) (record { prod = index link.prod.0; dot = link.dot; asked = link.further })
  item_here p asked old middle pushed new node well path known rule push rest =
      path_further g token p asked (moves_in index old) well (moves_in index middle) (moves_in index pushed) (moves_in index new) (index node.0)
      (link_at (links_of index links) i).asked (link_of index link) path known (ap (λ (y : LinkOf). y.rule) here ∙ rule) (ap (λ (y : LinkOf). y.asked) here) step_here
      (ap (moves_in index) push ∙ map-append (move_of index) middle (Make node ∷ [])) rest
