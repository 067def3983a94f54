-- Each action of a state of a built table belongs to an item of its set, and from each item of a set a sentence goes on with the
-- item's lookahead. This strengthens FinishLemmas by the lookahead.
--
-- Let a path of symbols lead to the set, let trees fit these symbols, and let other trees fit the symbols after the item's dot. The
-- leaves of all these can be followed by the lookahead. At the start item they are a sentence, and the lookahead is the end token. An
-- item with its dot moved on has the lookahead of the one that it comes from. The lookahead of an item that another one adds is in
-- First(w, a), where w are the symbols after the rule at the dot of that one, and a is its lookahead. So there are trees of w that
-- begin with it; or there are trees of w without tokens, and it is a.
--
-- A shift at a token belongs to an item with this token after its dot: the token's leaf and trees of what comes after it finish a
-- sentence. A reduction, or the accept, belongs to a complete item with the token as lookahead.
use Rattle.std.proofs.Common.{◌≡◌, ◌≢◌, ◌<◌, ◌+◌, ◌⊎◌, ◌∙◌, inl, inr, refl, sym, ap, subst, arith, ℕ, List, [], ◌∷◌, ◌++◌, All, Some, drop, reverse, slice_get}
use Rattle.std.proofs.lemmas.Bool.{cases_lt}
use Rattle.std.proofs.lemmas.List.{append_assoc, append-nil, drop_all, reverse-reverse}
use Rattle.std.proofs.lemmas.List.Elements.{All-append, All-head, All-tail}
use Rattle.lrpar_grammar.specs.Grammar.{Grammar, GrammarSymbol, IsWellFormed, Nonterminal, Terminal, end_token, prod_len, rule_of, start_prod, symbols_of, tokens_len}
use Rattle.lrpar_grammar.specs.Tree.{Branch, Cons, Forest, Leaf, Nil, forest_leaves}
use Rattle.lrpar_grammar.proofs.ForestLemmas.{split_leaves, splits}
use Rattle.lrpar_table_rows.specs.Graph.{Graph, HasCore, ItemOf, item_at}
use Rattle.lrpar_table_rows.specs.Table.{Fails, IsClosed, Table, action_of, states_len}
use Rattle.lrpar_table_first.specs.First.{IsFirst, Empty, Rule, Token}
use Rattle.lrpar_table_items.specs.ItemSets.{Adds, IsAdvanced, IsReachedBy, IsStartItem}
use Rattle.lrpar_table_build.specs.Built.{IsBuilt}
use Rattle.lrpar_table_build.proofs.DecidedLemmas.{Accepting, Failing, Reducing, Shifting, acting}
use Rattle.lrpar_table_build.proofs.ReachedLemmas.{closure_each}
use Rattle.lrpar_table_stacks.specs.Path.{IsPath, Leads}
use Rattle.lrpar_table_stacks.specs.Stack.{top_of}
use Rattle.lrpar_table_stacks.proofs.PathLemmas.{last_of, top_is_last}
use Rattle.lrpar_table_sentences.specs.AccessLens.{IsWalk, Starts}
use Rattle.lrpar_table_sentences.specs.Reachable.{Added, EachReachableHasTree, IsReachableRule, IsReachableSymbol}
use Rattle.lrpar_table_sentences.specs.Texts.{AreTreesOf}
use Rattle.lrpar_table_sentences.proofs.AfterLemmas.{after_reached, drop_at_get, have_trees, prod_reached, rest_reached}
use Rattle.lrpar_table_sentences.proofs.WalkLemmas.{walk_path}
use Rattle.lrpar_parse_prefixes.specs.ErrorStates.{ActsOnlyAsFollows}
use Rattle.lrpar_parse_prefixes.specs.Viable.{AreSentence, BeginSentence, CanFollow}
use Rattle.lrpar_table.proofs.ViableLemmas.{built_tables_are_viable}
use Rattle.lrpar_parse_prefixes.proofs.FinishLemmas.{HoldsOfTrees, begin_less, core_holds, moved_holds, start_sentence}
use Rattle.lrpar_parse_prefixes.proofs.SpelledLemmas.{Spells, never, walks_on}

-- trees of symbols that begin with token t; or trees of them without tokens, and t is a
abbrev FirstTrees : Grammar → ℕ → List GrammarSymbol → ℕ → Type 0
FirstTrees g a w t =
    (trees : Forest ℕ) × AreTreesOf g w trees
    × (((rest : List ℕ) × (forest_leaves trees ≡ t ∷ rest)) ⊎ ((forest_leaves trees ≡ []) × (t ≡ a)))

-- what can be followed by a token begins a sentence
follow_begins : (g : Grammar) (front : List ℕ) (t : ℕ) → CanFollow g front t → BeginSentence g front
follow_begins g front t (inl begins) = begin_less g front (t ∷ []) begins
follow_begins g front t (inr ends) = ([], subst (AreSentence g) (sym (append-nil front)) ends.1)

-- a token of what begins a sentence follows what is before it
next_token : (g : Grammar) (front more : List ℕ) (t : ℕ) → BeginSentence g (front ++ t ∷ more) → CanFollow g front t
next_token g front more t begins =
    inl (begin_less g (front ++ t ∷ []) more (subst (BeginSentence g) (sym (append_assoc front (t ∷ []) more)) begins))

module _ (g : Grammar) (well : IsWellFormed g) (each : EachReachableHasTree g) where
  first_trees : (a : ℕ) (w : List GrammarSymbol) (t : ℕ) → All (IsReachableSymbol g) w → IsFirst g a w t → FirstTrees g a w t
  first_trees a w t reached Empty = (Nil, tt, inr (refl, refl))
  first_trees a w t reached (Token s v) =
      let later = have_trees g each v (All-tail (IsReachableSymbol g) (Terminal s) v reached) in
      (Cons (Leaf s) later.0, (refl, later.1), inl (forest_leaves later.0, refl))
  first_trees a w t reached (Rule p r v s known by first) =
      let rule : IsReachableRule g r = All-head (IsReachableSymbol g) (Nonterminal r) v reached in
      let own = prod_reached g well p known (subst (IsReachableRule g) (sym by) rule) in
      let all = All-append (IsReachableSymbol g) (symbols_of g p) v own (All-tail (IsReachableSymbol g) (Nonterminal r) v reached) in
      let inner = first_trees a (symbols_of g p ++ v) s all first in
      let parts = splits (λ (n : ℕ). n) g inner.0 (symbols_of g p) v inner.1 in
      let trees : Forest ℕ = Cons (Branch p parts.first) parts.others in
      let same : forest_leaves inner.0 ≡ forest_leaves trees = split_leaves (λ (n : ℕ). n) g inner.0 (symbols_of g p) v parts in (
        trees,
        ((known, by, parts.first_fits), parts.others_fit),
        subst (λ (ts : List ℕ). ((rest : List ℕ) × (ts ≡ s ∷ rest)) ⊎ ((ts ≡ []) × (s ≡ a))) same inner.2,
      )

  -- trees of the path's symbols, and then trees of the symbols after the item's dot, can be followed by its lookahead
  abbrev Looks : List GrammarSymbol → ItemOf → Type 0
  Looks path x = HoldsOfTrees g (λ ts. CanFollow g ts x.token) path x.prod x.dot

  start_looks : Looks [] (item_at (start_prod g) 0 (end_token g))
  start_looks front rest fit rest_fit =
      inr (refl, start_sentence g front rest fit (subst (λ (w : List GrammarSymbol). AreTreesOf g w rest) well.last_symbols rest_fit))

  -- another item adds the item
  added_looks : (path : List GrammarSymbol) (x y : ItemOf) (adds : Adds g x y) → FirstTrees g x.token adds.rest y.token → Looks path x → Looks path y
  added_looks path x y adds later looks front rest fit rest_fit =
      let own : AreTreesOf g (symbols_of g y.prod) rest =
      subst (λ (n : ℕ). AreTreesOf g (drop n (symbols_of g y.prod)) rest) adds.fresh rest_fit in
      let after : Forest ℕ = Cons (Branch y.prod rest) later.0 in
      let after_fit : AreTreesOf g (drop x.dot (symbols_of g x.prod)) after =
      subst (λ (w : List GrammarSymbol). AreTreesOf g w after) (sym adds.before) ((adds.known, adds.of_rule, own), later.1) in
      let both = forest_leaves front ++ forest_leaves rest in
      let can : CanFollow g (both ++ forest_leaves later.0) x.token =
      subst (λ (ts : List ℕ). CanFollow g ts x.token) (sym (append_assoc (forest_leaves front) (forest_leaves rest) (forest_leaves later.0)))
      (looks front after fit after_fit) in
      elim later.2 as (λ _. CanFollow g both y.token) [
        | inl some ↦
            next_token g both some.0 y.token
            (subst (λ (ts : List ℕ). BeginSentence g (both ++ ts)) some.1 (follow_begins g (both ++ forest_leaves later.0) x.token can))
        | inr none ↦
            let here : CanFollow g (both ++ []) x.token = subst (λ (ts : List ℕ). CanFollow g (both ++ ts) x.token) none.0 can in
            subst (CanFollow g both) (sym none.1) (subst (λ (ts : List ℕ). CanFollow g ts x.token) (append-nil both) here)
      ]

  -- an item's rule is reachable, and the item is followed by its lookahead
  abbrev Follows : List GrammarSymbol → ItemOf → Type 0
  Follows path x = IsReachableRule g (rule_of g x.prod) × Looks path x

  added_follows : (path : List GrammarSymbol) (x y : ItemOf) → Follows path x → Adds g x y → Follows path y
  added_follows path x y h adds =
      let reached = after_reached g well x.prod x.dot adds.rule adds.rest adds.before h.0 in
      let symbols = rest_reached g well x.prod x.dot (Nonterminal adds.rule) adds.rest adds.before h.0 in
      let later = first_trees x.token adds.rest y.token symbols adds.first in
      (subst (IsReachableRule g) (sym adds.of_rule) reached, added_looks path x y adds later h.1)

  item_follows : (path : List GrammarSymbol) (x : ItemOf) → IsReachedBy g path x → Follows path x
  item_follows [] =
      closure_each g (Follows []) (added_follows []) (IsStartItem g)
      (λ x is. subst (Follows []) (sym is) (subst (IsReachableRule g) (sym well.last_rule) Added, start_looks))
  item_follows (s ∷ path) =
      closure_each g (Follows (s ∷ path)) (added_follows (s ∷ path)) (IsAdvanced g (IsReachedBy g path) s)
      (λ y from.
      let before = item_follows path from.0 from.1 in
      subst (Follows (s ∷ path)) (sym from.3) (before.0, moved_holds g (λ ts. CanFollow g ts from.0.token) path s from.0.prod from.0.dot from.2 before.1))

  -- trees along the path of a complete item can be followed by its lookahead
  complete_follows : (path : List GrammarSymbol) (x : ItemOf) → IsReachedBy g path x → drop x.dot (symbols_of g x.prod) ≡ []
      → (trees : Forest ℕ) → AreTreesOf g (reverse path) trees → CanFollow g (forest_leaves trees) x.token
  complete_follows path x reached done trees fit =
      let looks = (item_follows path x reached).1 in
      subst (λ (ts : List ℕ). CanFollow g ts x.token) (append-nil (forest_leaves trees))
      (looks trees Nil fit (subst (λ (w : List GrammarSymbol). AreTreesOf g w Nil) (sym done) tt))

module _ (g : Grammar) (graph : Graph) (table : Table) (well : IsWellFormed g) (closed : IsClosed table) (built : IsBuilt g graph table)
    (each : EachReachableHasTree g) where
  -- trees of a path that leads to a state can be followed by a token that is after the dot of one of its cores
  shift_follows : (s : ℕ) (path : List GrammarSymbol) → IsWalk table s path → s < states_len table → (p k t : ℕ) → HasCore graph s p k
      → slice_get (symbols_of g p) k ≡ Some (Terminal t) → (trees : Forest ℕ) → AreTreesOf g (reverse path) trees → CanFollow g (forest_leaves trees) t
  shift_follows s path walk within p k t has at trees fit =
      let holds = core_holds g well each graph table built.safe (built_tables_are_viable g graph table built) s path walk within p k has in
      let w = drop (k + 1) (symbols_of g p) in
      let before = drop_at_get (symbols_of g p) k (Terminal t) at in
      let later = have_trees g each w (rest_reached g well p k (Terminal t) w before holds.0) in
      let after : Forest ℕ = Cons (Leaf t) later.0 in
      let after_fit : AreTreesOf g (drop k (symbols_of g p)) after =
      subst (λ (v : List GrammarSymbol). AreTreesOf g v after) (sym before) (refl, later.1) in
      next_token g (forest_leaves trees) (forest_leaves later.0) t (holds.1 trees after fit after_fit)

  -- trees of a path that leads to a state can be followed by a token at which it has an action
  walk_follows : (s : ℕ) (path : List GrammarSymbol) → IsWalk table s path → s < states_len table → (trees : Forest ℕ)
      → AreTreesOf g (reverse path) trees → (t : ℕ) → t < tokens_len g → action_of table s t ≢ Fails → CanFollow g (forest_leaves trees) t
  walk_follows s path walk within trees fit t low acts =
      let same = walk_path g graph table well built closed s path walk in
      elim (acting g graph s table t (built.resolved.acts s t within low)) as (λ _. CanFollow g (forest_leaves trees) t) [
        | Shifting next is before leads ↦
            let x = before.0 in shift_follows s path walk within x.prod x.dot t (x.token, before.1) before.2 trees fit
        | Reducing p is first ↦
            let x = item_at p (prod_len g p) t in
            complete_follows g well each path x ((same x).0 first.0.1) (drop_all (prod_len g p) (symbols_of g p) (omega arith)) trees fit
        | Accepting is accept ↦
            let x = item_at (start_prod g) 1 t in
            complete_follows g well each path x ((same x).0 accept) (ap (λ (w : List GrammarSymbol). drop 1 w) well.last_symbols) trees fit
        | Failing is ↦ absurd (acts is)
      ]

  -- so can those along a stack, by a token at which its top has an action
  path_follows : (symbols : List GrammarSymbol) (st : List ℕ) → IsPath table symbols st → (trees : Forest ℕ) → AreTreesOf g symbols trees
      → (s t : ℕ) → top_of st ≡ Some s → action_of table s t ≢ Fails → CanFollow g (forest_leaves trees) t
  path_follows symbols [] path trees fit s t top acts = absurd path
  path_follows symbols (b ∷ st) path trees fit s t top acts =
      let leads = subst (λ (n : ℕ). Leads table n symbols st) path.0 path.1 in
      let on = walks_on table closed table.start [] symbols st Starts closed.start_within leads in
      let last : last_of table.start st ≡ s =
      let first = subst (λ (n : ℕ). top_of (n ∷ st) ≡ Some s) path.0 top in
      let is = top_is_last table.start st in cc in
      let back : reverse (reverse symbols ++ []) ≡ symbols = ap reverse (append-nil (reverse symbols)) ∙ reverse-reverse symbols in
      let count = built.resolved.tokens in
      elim (cases_lt t (tokens_len g)) as (λ _. CanFollow g (forest_leaves trees) t) [
        | inl low ↦
            walk_follows (last_of table.start st) (reverse symbols ++ []) on.0 on.1 trees
            (subst (λ (w : List GrammarSymbol). AreTreesOf g w trees) (sym back) fit) t low
            (subst (λ (n : ℕ). action_of table n t ≢ Fails) (sym last) acts)
        | inr past ↦ absurd (acts (built.resolved.no_token s t (omega (arith, past, count))))
      ]

  -- so can the tokens that the stack spells
  pub spelled_acts : (st tokens : List ℕ) → Spells g table (never g graph table well closed built.safe) st tokens → ActsOnlyAsFollows g table st tokens
  spelled_acts st tokens spells s t top acts =
      subst (λ (ts : List ℕ). CanFollow g ts t) spells.leaves_are (path_follows spells.symbols st spells.path spells.trees spells.fit s t top acts)
