-- What the stacks of a run spell. Along the symbols of each stack there are trees that fit them, whose leaves are the tokens that
-- were fed: a shift puts a leaf after the others, and a reduction takes the last trees into a node. In a viable table, the symbols
-- of such a stack lead to its top. This state has a core, and from each core a sentence is finished. So a sentence begins with the
-- tokens that were fed: the viable prefix property.
use Rattle.std.proofs.Common.{◌≡◌, ◌<◌, ◌+◌, ◌∙◌, refl, sym, ap, subst, ℕ, List, [], ◌∷◌, ◌++◌, Option, drop, length, reverse, take}
use Rattle.std.proofs.lemmas.List.{append_assoc, append-nil, reverse-append, reverse-reverse, take_more}
use Rattle.std.proofs.lemmas.List.Elements.{All-drop}
use Rattle.std.proofs.lemmas.Option.{slice_get-get_or}
use Rattle.std.specs.Option.{option_map_or}
use Rattle.lrpar_grammar.specs.Grammar.{Grammar, GrammarSymbol, IsWellFormed, Nonterminal, Terminal, end_token, rule_of, symbols_of}
use Rattle.lrpar_grammar.specs.Tree.{Branch, Cons, Forest, Leaf, Nil, forest_leaves}
use Rattle.lrpar_grammar.proofs.ForestLemmas.{joined, joined_fits, joined_leaves, split_leaves, splits}
use Rattle.lrpar_table_rows.specs.Graph.{Graph}
use Rattle.lrpar_table_rows.specs.Safe.{IsSafe}
use Rattle.lrpar_table_rows.specs.Table.{IsClosed, Table, states_len}
use Rattle.lrpar_table_stacks.specs.Path.{IsPath, Leads, NeverSticks}
use Rattle.lrpar_table_stacks.specs.Reduction.{Feeds, Reduces, Settles}
use Rattle.lrpar_table_stacks.specs.Run.{Comes, comes_on, stays, token_at}
use Rattle.lrpar_table_stacks.proofs.PathLemmas.{goes_within, last_of, never_sticks}
use Rattle.lrpar_table_stacks.proofs.Reductions.{reduces_to_one}
use Rattle.lrpar_table_sentences.specs.Reachable.{EachReachableHasTree, IsReachableSymbol}
use Rattle.lrpar_table_sentences.specs.Texts.{AreTreesOf}
use Rattle.lrpar_table_sentences.specs.AccessLens.{Goes, IsWalk, Starts}
use Rattle.lrpar_table_sentences.proofs.AfterLemmas.{have_trees, prod_reached}
use Rattle.lrpar_table_viable.specs.Viable.{IsViable}
use Rattle.lrpar_parse_prefixes.specs.Viable.{BeginSentence}
use Rattle.lrpar_parse_prefixes.proofs.FinishLemmas.{begin_less, core_holds}

module _ (g : Grammar) (table : Table) (never : NeverSticks g table) where
  -- trees along the symbols of a stack, with these leaves
  pub record Spells (st tokens : List ℕ) : Type 0 where
    pub symbols : List GrammarSymbol
    pub path : IsPath table symbols st
    pub trees : Forest ℕ
    pub fit : AreTreesOf g symbols trees
    pub leaves_are : forest_leaves trees ≡ tokens

  -- a reduction makes a node
  spells_reduced : (t p : ℕ) (st after tokens : List ℕ) → Spells st tokens → Reduces g table t st p after → Spells after tokens
  spells_reduced t p st after tokens spells reduces =
      let along = never.reduces spells.symbols st t p spells.path reduces.action in
      let same = reduces_to_one g table t st p p along.after after along.reduces reduces in
      let fit = subst (λ (ss : List GrammarSymbol). AreTreesOf g ss spells.trees) along.split spells.fit in
      let parts = splits (λ (t : ℕ). t) g spells.trees along.below (symbols_of g p) fit in
      let node : Forest ℕ = Cons (Branch p parts.others) Nil in
      record {
        symbols = along.below ++ Nonterminal (rule_of g p) ∷ [];
        path = subst (λ (l : List ℕ). IsPath table (along.below ++ Nonterminal (rule_of g p) ∷ []) l) same along.path;
        trees = joined parts.first node;
        fit = joined_fits (λ (t : ℕ). t) g parts.first node along.below (Nonterminal (rule_of g p) ∷ []) parts.first_fits
            ((reduces.known, refl, parts.others_fit), tt);
        leaves_are = joined_leaves parts.first node
            ∙ ap (λ (ys : List ℕ). forest_leaves parts.first ++ ys) (append-nil (forest_leaves parts.others))
            ∙ sym (split_leaves (λ (t : ℕ). t) g spells.trees along.below (symbols_of g p) parts) ∙ spells.leaves_are;
      }

  pub spells_settled : (t : ℕ) (st ps after tokens : List ℕ) → Spells st tokens → Settles g table t st ps after → Spells after tokens
  spells_settled t st [] after tokens spells settles = subst (λ (l : List ℕ). Spells l tokens) settles.0 spells
  spells_settled t st (p ∷ ps) after tokens spells settles =
      spells_settled t settles.0 ps after tokens (spells_reduced t p st settles.0 tokens spells settles.1) settles.2

  -- a shift makes a leaf
  pub spells_fed : (t : ℕ) (st ps after tokens : List ℕ) → Spells st tokens → Feeds g table t st ps after → Spells after (tokens ++ t ∷ [])
  spells_fed t st ps after tokens spells feeds =
      let settled = spells_settled t st ps feeds.settled tokens spells feeds.settles in
      let shifted = never.shifts settled.symbols feeds.settled t feeds.next settled.path feeds.shifts in
      let leaf : Forest ℕ = Cons (Leaf t) Nil in
      record {
        symbols = settled.symbols ++ Terminal t ∷ [];
        path = subst (λ (l : List ℕ). IsPath table (settled.symbols ++ Terminal t ∷ []) l) (sym feeds.pushed) shifted.1;
        trees = joined settled.trees leaf;
        fit = joined_fits (λ (t : ℕ). t) g settled.trees leaf settled.symbols (Terminal t ∷ []) settled.fit (refl, tt);
        leaves_are = joined_leaves settled.trees leaf ∙ ap (λ (ys : List ℕ). ys ++ t ∷ []) settled.leaves_are;
      }

  -- the tokens before the next place are one more
  one_more : (tokens : List ℕ) (i : ℕ) → i < length tokens
      → take (i + 1) tokens ≡ take i tokens ++ token_at (λ (t : ℕ). t) g tokens i ∷ []
  one_more tokens i below =
      let here = ap (λ (o : Option ℕ). option_map_or (λ (t : ℕ). t) o (end_token g)) (slice_get-get_or tokens i 0 below) in
      take_more tokens i 0 below ∙ ap (λ (t : ℕ). take i tokens ++ t ∷ []) (sym here)

  -- the same holds after each part of a run
  spells_on : (tokens st : List ℕ) (i : ℕ) (ps after : List ℕ) (j : ℕ) → Comes (λ (t : ℕ). t) g table tokens st i ps after j
      → Spells st (take i tokens) → Spells after (take j tokens)
  spells_on tokens _ _ _ _ _ (stays st i) spells = spells
  spells_on tokens _ _ _ _ _ (comes_on st i ps qs next after j below first rest) spells =
      let fed = spells_fed (token_at (λ (t : ℕ). t) g tokens i) st ps next (take i tokens) spells first in
      spells_on tokens next (i + 1) qs after j rest (subst (Spells next) (sym (one_more tokens i below)) fed)

  pub run_spells : (tokens ps after : List ℕ) (j : ℕ) → Comes (λ (t : ℕ). t) g table tokens (table.start ∷ []) 0 ps after j
      → Spells after (take j tokens)
  run_spells tokens ps after j comes =
      spells_on tokens (table.start ∷ []) 0 ps after j comes
      (record { symbols = []; path = (refl, tt); trees = Nil; fit = tt; leaves_are = refl })

module _ (table : Table) (closed : IsClosed table) where
  -- a path goes on as a walk
  pub walks_on : (s : ℕ) (path symbols : List GrammarSymbol) (st : List ℕ) → IsWalk table s path → s < states_len table → Leads table s symbols st
      → IsWalk table (last_of s st) (reverse symbols ++ path) × (last_of s st < states_len table)
  walks_on s path [] [] walk within leads = (walk, within)
  walks_on s path [] (next ∷ st) walk within leads = absurd leads
  walks_on s path (x ∷ xs) [] walk within leads = absurd leads
  walks_on s path (x ∷ xs) (next ∷ st) walk within leads =
      let on = walks_on next (x ∷ path) xs st (Goes s next x path walk within leads.0) (goes_within table closed s x next leads.0) leads.1 in
      let turned : reverse xs ++ x ∷ path ≡ reverse (x ∷ xs) ++ path =
      sym (append_assoc (reverse xs) (x ∷ []) path) ∙ ap (λ (ss : List GrammarSymbol). ss ++ path) (sym (reverse-append (x ∷ []) xs)) in
      (subst (IsWalk table (last_of next st)) turned on.0, on.1)

module _ (g : Grammar) (graph : Graph) (table : Table) (well : IsWellFormed g) (closed : IsClosed table) (safe : IsSafe g graph table) where
  -- no stack of a run sticks
  abbrev pub never : NeverSticks g table
  never = never_sticks g graph table closed safe well

  module _ (viable : IsViable g graph table) (each : EachReachableHasTree g) where
    -- trees of a path that leads to a state begin a sentence
    walk_begins : (s : ℕ) (path : List GrammarSymbol) → IsWalk table s path → s < states_len table → (trees : Forest ℕ)
        → AreTreesOf g (reverse path) trees → BeginSentence g (forest_leaves trees)
    walk_begins s path walk within trees fit =
        let some = (viable.each s within).some in
        let p = some.0 in
        let k = some.1 in
        let holds = core_holds g well each graph table safe viable s path walk within p k some.2 in
        let item = safe.shape.items s p k some.2.0 some.2.1 in
        let further = have_trees g each (drop k (symbols_of g p))
        (All-drop (IsReachableSymbol g) k (symbols_of g p) (prod_reached g well p item.prod holds.0)) in
        begin_less g (forest_leaves trees) (forest_leaves further.0) (holds.1 trees further.0 fit further.1)

    -- so do those along a stack
    path_begins : (symbols : List GrammarSymbol) (st : List ℕ) → IsPath table symbols st → (trees : Forest ℕ) → AreTreesOf g symbols trees
        → BeginSentence g (forest_leaves trees)
    path_begins symbols [] path trees fit = absurd path
    path_begins symbols (s ∷ st) path trees fit =
        let leads = subst (λ (n : ℕ). Leads table n symbols st) path.0 path.1 in
        let on = walks_on table closed table.start [] symbols st Starts closed.start_within leads in
        let back : reverse (reverse symbols ++ []) ≡ symbols = ap reverse (append-nil (reverse symbols)) ∙ reverse-reverse symbols in
        walk_begins (last_of table.start st) (reverse symbols ++ []) on.0 on.1 trees
        (subst (λ (w : List GrammarSymbol). AreTreesOf g w trees) (sym back) fit)

    -- and the tokens that a stack spells
    pub spelled_begin : (st tokens : List ℕ) → Spells g table never st tokens → BeginSentence g tokens
    spelled_begin st tokens spells = subst (BeginSentence g) spells.leaves_are (path_begins spells.symbols st spells.path spells.trees spells.fit)
