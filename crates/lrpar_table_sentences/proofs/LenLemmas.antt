-- The lengths of symbols, and the trees that follow what is kept of rules.
use Rattle.std.proofs.Common.{◌≡◌, ◌<◌, ◌≤◌, ◌+◌, ◌⊎◌, ◌∙◌, refl, sym, ap, subst, inl, inr, arith, ℕ, List, [], ◌∷◌, Option, Some, None, drop, length, map, min, length-append}
use Rattle.std.specs.Option.{option_map}
use Rattle.std.proofs.lemmas.List.{drop_all, length-map}
use Rattle.lrpar_grammar_places.specs.declared.span.Symbol.{Symbol}
use Rattle.lrpar_grammar.specs.Grammar.{Grammar, GrammarSymbol, Nonterminal, Terminal, prods_len, rule_of, symbols_of}
use Rattle.lrpar_grammar.specs.Symbols.{symbol_of}
use Rattle.lrpar_grammar.specs.Tree.{Tree, Forest, Leaf, Branch, Nil, Cons, leaves, forest_leaves}
use Rattle.lrpar_table_sentences.specs.Choices.{AreRight, AreShortest, ChoiceOf, Follows, ForestFollows, choice_at}
use Rattle.lrpar_table_sentences.specs.Lens.{added, len_at, sum_of_lens}
use Rattle.lrpar_table_sentences.specs.Moves.{Makes, forest_moves, moves_of}
use Rattle.lrpar_table_sentences.specs.Texts.{AreShortestTrees, AreTreesOf, HaveTrees, IsShortestIfAny, IsShortestLen, IsTreeOf, forest_width, width}

-- no symbol is left
pub symbols_done : {S : Type 0} (index : S → ℕ) (symbols : List (Symbol S)) (i : ℕ) → length symbols ≤ i → drop i (map (symbol_of index) symbols) ≡ []
symbols_done index symbols i past = drop_all i (map (symbol_of index) symbols) (omega (arith, length-map symbols (symbol_of index), past))

-- something, or nothing
pub option_cases : {A : Type 0} (o : Option A) → (o ≡ None) ⊎ ((x : A) × (o ≡ Some x))
option_cases None = inl refl
option_cases (Some x) = inr (x, refl)

-- what a mapped value comes from
pub mapped_parts : {A B : Type 0} (f : A → B) (o : Option A) (b : B) → option_map f o ≡ Some b → (x : A) × (o ≡ Some x) × (f x ≡ b)
mapped_parts f None b is = absurd (cc)
mapped_parts f (Some x) b is = let same : f x ≡ b = cc in (x, refl, same)

pub mapped_none : {A B : Type 0} (f : A → B) (o : Option A) → option_map f o ≡ None → o ≡ None
mapped_none f None is = refl
mapped_none f (Some x) is = absurd (cc)

-- sums that stop at a number, one after the other
pub added_assoc : (most : ℕ) (a b c : Option ℕ) → added most (added most a b) c ≡ added most a (added most b c)
added_assoc most (Some a) (Some b) (Some c) =
    let same : min (min (a + b) most + c) most ≡ min (a + min (b + c) most) most = omega arith in ap (λ (n : ℕ). Some n) same
added_assoc most (Some a) (Some b) None = refl
added_assoc most (Some a) None c = refl
added_assoc most None b c = refl

-- the parts of a sum
pub added_parts : (most : ℕ) (x y : Option ℕ) (len : ℕ) → added most x y ≡ Some len
    → (a b : ℕ) × (x ≡ Some a) × (y ≡ Some b) × (min (a + b) most ≡ len)
added_parts most (Some a) (Some b) len is = let same : min (a + b) most ≡ len = cc in (a, b, refl, refl, same)
added_parts most (Some a) None len is = absurd (cc)
added_parts most None y len is = absurd (cc)

pub added_none : (most : ℕ) (x y : Option ℕ) → added most x y ≡ None → (x ≡ None) ⊎ (y ≡ None)
added_none most (Some a) (Some b) is = absurd (cc)
added_none most (Some a) None is = inr refl
added_none most None y is = inl refl

-- a length is at most the number
pub total_fits : (most : ℕ) (choices : List (Option ChoiceOf)) (ss : List GrammarSymbol) (len : ℕ) → sum_of_lens most choices ss ≡ Some len → len ≤ most
total_fits most choices [] len is = let same : 0 ≡ len = cc in omega arith
total_fits most choices (s ∷ ss) len is =
    let parts = added_parts most (len_at choices s) (sum_of_lens most choices ss) len is in
    let same = parts.4 in omega (arith, same)

added_zero : (most : ℕ) (x y : Option ℕ) → added most (Some 0) (added most x y) ≡ added most x y
added_zero most (Some a) (Some b) = let same : min (0 + min (a + b) most) most ≡ min (a + b) most = omega arith in ap (λ (n : ℕ). Some n) same
added_zero most (Some a) None = refl
added_zero most None y = refl

pub total_from_zero : (most : ℕ) (choices : List (Option ChoiceOf)) (ss : List GrammarSymbol) → added most (Some 0) (sum_of_lens most choices ss) ≡ sum_of_lens most choices ss
total_from_zero most choices [] = let same : min (0 + 0) most ≡ 0 = omega arith in ap (λ (n : ℕ). Some n) same
total_from_zero most choices (s ∷ ss) = added_zero most (len_at choices s) (sum_of_lens most choices ss)

-- a sum so far goes on with the next symbol
pub total_more : (most : ℕ) (choices : List (Option ChoiceOf)) (s : GrammarSymbol) (ss rest : List GrammarSymbol) (len more : ℕ) (all : Option ℕ)
    → rest ≡ s ∷ ss → len_at choices s ≡ Some more → added most (Some len) (sum_of_lens most choices rest) ≡ all
    → added most (Some (min (len + more) most)) (sum_of_lens most choices ss) ≡ all
total_more most choices s ss rest len more all is here before =
    added_assoc most (Some len) (Some more) (sum_of_lens most choices ss)
    ∙ ap (λ (x : Option ℕ). added most (Some len) (added most x (sum_of_lens most choices ss))) (sym here)
    ∙ ap (λ (w : List GrammarSymbol). added most (Some len) (sum_of_lens most choices w)) (sym is) ∙ before

-- and is none if the next symbol has none
pub total_stops : (most : ℕ) (choices : List (Option ChoiceOf)) (s : GrammarSymbol) (ss rest : List GrammarSymbol) (len : ℕ) (all : Option ℕ)
    → rest ≡ s ∷ ss → len_at choices s ≡ None → added most (Some len) (sum_of_lens most choices rest) ≡ all → None ≡ all
total_stops most choices s ss rest len all is none before =
    ap (λ (x : Option ℕ). added most (Some len) (added most x (sum_of_lens most choices ss))) (sym none)
    ∙ ap (λ (w : List GrammarSymbol). added most (Some len) (sum_of_lens most choices w)) (sym is) ∙ before

-- with no symbols left the sum is all
pub total_ends : (most : ℕ) (choices : List (Option ChoiceOf)) (rest : List GrammarSymbol) (len : ℕ) (all : Option ℕ)
    → rest ≡ [] → len ≤ most → added most (Some len) (sum_of_lens most choices rest) ≡ all → Some len ≡ all
total_ends most choices rest len all is low before =
    let same : len ≡ min (len + 0) most = omega arith in
    ap (λ (n : ℕ). Some n) same ∙ ap (λ (w : List GrammarSymbol). added most (Some len) (sum_of_lens most choices w)) (sym is) ∙ before

-- trees have no fewer moves than tokens
mutual
  pub moves_wide : (t : Tree ℕ) → width t ≤ length (moves_of t)
  moves_wide (Leaf x) = omega arith
  moves_wide (Branch p children) =
      let inner = forest_moves_wide children in omega (arith, inner, length-append (forest_moves children) (Makes p ∷ []))

  pub forest_moves_wide : (ts : Forest ℕ) → forest_width ts ≤ length (forest_moves ts)
  forest_moves_wide Nil = omega arith
  forest_moves_wide (Cons t ts) =
      let one = moves_wide t in
      let others = forest_moves_wide ts in
      omega (arith, one, others, length-append (leaves t) (forest_leaves ts), length-append (moves_of t) (forest_moves ts))

module _ (g : Grammar) (most : ℕ) (choices : List (Option ChoiceOf)) (right : AreRight g most choices) where
  -- a tree that follows what is kept fits
  mutual
    pub follows_fits : (t : Tree ℕ) (s : GrammarSymbol) → Follows g choices t s → IsTreeOf g s t
    follows_fits (Leaf x) (Terminal a) follows = follows
    follows_fits (Leaf x) (Nonterminal r) follows = absurd follows
    follows_fits (Branch p children) (Terminal a) follows = absurd follows
    follows_fits (Branch p children) (Nonterminal r) follows =
        let kept = mapped_parts (λ (x : ChoiceOf). x.prod) (choice_at choices r) p follows.0 in
        let own = right.own r kept.0 kept.1 in
        (subst (λ (n : ℕ). n < prods_len g) kept.2 own.0, subst (λ (n : ℕ). rule_of g n ≡ r) kept.2 own.1, forest_follows_fit children (symbols_of g p) follows.1)

    pub forest_follows_fit : (ts : Forest ℕ) (ss : List GrammarSymbol) → ForestFollows g choices ts ss → AreTreesOf g ss ts
    forest_follows_fit Nil [] follow = tt
    forest_follows_fit Nil (s ∷ ss) follow = absurd follow
    forest_follows_fit (Cons t ts) [] follow = absurd follow
    forest_follows_fit (Cons t ts) (s ∷ ss) follow = (follows_fits t s follow.0, forest_follows_fit ts ss follow.1)

  -- the tree of a symbol that has a length
  pub tree_kept : (s : GrammarSymbol) (len : ℕ) → len_at choices s ≡ Some len
      → (tree : Tree ℕ) × Follows g choices tree s × (min (width tree) most ≡ min len most)
  tree_kept (Terminal a) len is = let same : 1 ≡ len = cc in (Leaf a, refl, ap (λ n. min n most) same)
  tree_kept (Nonterminal r) len is =
      let kept = mapped_parts (λ (x : ChoiceOf). x.len) (choice_at choices r) len is in
      let one = right.trees r kept.0 kept.1 in
      let wide = one.2 in
      let same = kept.2 in
      (one.0, one.1, omega (arith, wide, same))

  -- the trees of symbols that have a length
  pub trees_kept : (ss : List GrammarSymbol) (len : ℕ) → sum_of_lens most choices ss ≡ Some len
      → (trees : Forest ℕ) × ForestFollows g choices trees ss × (min (forest_width trees) most ≡ len)
  trees_kept [] len is = let same : 0 ≡ len = cc in (Nil, tt, omega (arith, same))
  trees_kept (s ∷ ss) len is =
      let parts = added_parts most (len_at choices s) (sum_of_lens most choices ss) len is in
      let one = tree_kept s parts.0 parts.2 in
      let others = trees_kept ss parts.1 parts.3 in
      let sum = parts.4 in
      let first = one.2 in
      let rest = others.2 in
      (Cons one.0 others.0, (one.1, others.1), omega (arith, sum, first, rest, length-append (leaves one.0) (forest_leaves others.0)))

  -- no tree has fewer tokens
  pub symbol_least : (s : GrammarSymbol) (len : ℕ) (t : Tree ℕ) → len_at choices s ≡ Some len → IsTreeOf g s t → len ≤ width t
  symbol_least (Terminal a) len (Leaf x) is fit = let same : 1 ≡ len = cc in omega (arith, same)
  symbol_least (Terminal a) len (Branch p children) is fit = absurd fit
  symbol_least (Nonterminal r) len t is fit =
      let kept = mapped_parts (λ (x : ChoiceOf). x.len) (choice_at choices r) len is in
      let least = right.least r kept.0 kept.1 t fit in
      let same = kept.2 in
      omega (arith, least, same)

  pub total_least : (ss : List GrammarSymbol) (len : ℕ) (ts : Forest ℕ) → sum_of_lens most choices ss ≡ Some len → AreTreesOf g ss ts → len ≤ forest_width ts
  total_least [] len Nil is fit = let same : 0 ≡ len = cc in omega (arith, same)
  total_least [] len (Cons t ts) is fit = absurd fit
  total_least (s ∷ ss) len Nil is fit = absurd fit
  total_least (s ∷ ss) len (Cons t ts) is fit =
      let parts = added_parts most (len_at choices s) (sum_of_lens most choices ss) len is in
      let one = symbol_least s parts.0 t parts.2 fit.0 in
      let others = total_least ss parts.1 ts parts.3 fit.1 in
      let sum = parts.4 in
      omega (arith, one, others, sum, length-append (leaves t) (forest_leaves ts))

  -- so lengths are those of minimal sentences
  pub total_is_shortest : (ss : List GrammarSymbol) (len : ℕ) → sum_of_lens most choices ss ≡ Some len → IsShortestLen g most ss len
  total_is_shortest ss len is =
      let kept = trees_kept ss len is in
      record { some = (kept.0, forest_follows_fit kept.0 ss kept.1, kept.2); least = λ ts fit. total_least ss len ts is fit }

  -- a rule's length is at most the number, so that a symbol alone has that of its list
  len_low : 1 ≤ most → (s : GrammarSymbol) (len : ℕ) → len_at choices s ≡ Some len → len ≤ most
  len_low some (Terminal a) len is = let same : 1 ≡ len = cc in omega (arith, same)
  len_low some (Nonterminal r) len is =
      let kept = mapped_parts (λ (x : ChoiceOf). x.len) (choice_at choices r) len is in
      let one = right.trees r kept.0 kept.1 in
      let wide = one.2 in
      let same = kept.2 in
      omega (arith, wide, same)

  pub len_alone : 1 ≤ most → (s : GrammarSymbol) (len : ℕ) → len_at choices s ≡ Some len → sum_of_lens most choices (s ∷ []) ≡ Some len
  len_alone some s len is =
      let low : len ≤ most = len_low some s len is in
      let same : min (len + 0) most ≡ len = omega arith in
      ap (λ (x : Option ℕ). added most x (Some 0)) is ∙ ap (λ (n : ℕ). Some n) same

module _ (g : Grammar) (most : ℕ) (choices : List (Option ChoiceOf)) (shortest : AreShortest g most choices) where
  -- if there is no length there are no trees
  pub symbol_none : (s : GrammarSymbol) (t : Tree ℕ) → len_at choices s ≡ None → IsTreeOf g s t → ⊥
  symbol_none (Terminal a) t is fit = absurd (cc)
  symbol_none (Nonterminal r) t is fit = shortest.all r (mapped_none (λ (x : ChoiceOf). x.len) (choice_at choices r) is) t fit

  no_trees : (s : GrammarSymbol) (ts : Forest ℕ) → len_at choices s ≡ None → AreTreesOf g (s ∷ []) ts → ⊥
  no_trees s Nil is fit = absurd fit
  no_trees s (Cons t ts) is fit = symbol_none s t is fit.0

  pub total_none : (ss : List GrammarSymbol) (ts : Forest ℕ) → sum_of_lens most choices ss ≡ None → AreTreesOf g ss ts → ⊥
  total_none [] ts is fit = absurd (cc)
  total_none (s ∷ ss) Nil is fit = absurd fit
  total_none (s ∷ ss) (Cons t ts) is fit =
      elim (added_none most (len_at choices s) (sum_of_lens most choices ss) is) [
        | inl one ↦ symbol_none s t one fit.0
        | inr others ↦ total_none ss ts others fit.1
      ]

  -- what a length says
  pub total_is_exact : (ss : List GrammarSymbol) (len : Option ℕ) → len ≡ sum_of_lens most choices ss → IsShortestIfAny g most ss len
  total_is_exact ss None is = λ ts fit. total_none ss ts (sym is) fit
  total_is_exact ss (Some len) is = total_is_shortest g most choices shortest.right ss len (sym is)

  pub len_is_exact : 1 ≤ most → (s : GrammarSymbol) (len : Option ℕ) → len ≡ len_at choices s → IsShortestIfAny g most (s ∷ []) len
  len_is_exact some s None is = λ ts fit. no_trees s ts (sym is) fit
  len_is_exact some s (Some len) is = total_is_shortest g most choices shortest.right (s ∷ []) len (len_alone g most choices shortest.right some s len (sym is))

  -- symbols that have trees have a length
  pub have_len : (ss : List GrammarSymbol) → HaveTrees g ss → (len : ℕ) × (sum_of_lens most choices ss ≡ Some len)
  have_len ss have =
      elim (option_cases (sum_of_lens most choices ss)) [
        | inl none ↦ absurd (total_none ss have.0 none have.1)
        | inr some ↦ some
      ]

  -- trees that follow what is kept, and are no wider than the number, have minimal sentences
  pub shortest_trees : (ss : List GrammarSymbol) → HaveTrees g ss
      → (trees : Forest ℕ) × ForestFollows g choices trees ss × (forest_width trees ≤ most → AreShortestTrees g ss trees)
  shortest_trees ss have =
      let len = have_len ss have in
      let kept = trees_kept g most choices shortest.right ss len.0 len.1 in
      let wide = kept.2 in (
        kept.0,
        kept.1,
        λ low. record {
          fit = forest_follows_fit g most choices shortest.right kept.0 ss kept.1;
          least = λ others fit. let least = total_least g most choices shortest.right ss len.0 others len.1 fit in omega (arith, least, low, wide);
        },
      )
