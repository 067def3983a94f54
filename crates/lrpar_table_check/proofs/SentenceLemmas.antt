-- Runs of complete tables accept the sentences. That the lexemes are a sentence if the run accepts holds for each safe table:
-- along the symbols of each stack there are trees that fit them, whose leaves are the lexemes fed so far; a shift appends a leaf,
-- a reduction takes the last trees into a node. That a complete table accepts each sentence is in CompleteLemmas. A run that
-- stops at a lexeme has looked only at the lexemes up to that one; so over lexemes that begin with these it stops there, too.
use Rattle.std.proofs.Common.{◌≡◌, ◌<◌, ◌≤◌, ◌+◌, ◌∙◌, refl, sym, ap, subst, arith, add-one, ℕ, zero, suc, List, [], ◌∷◌, ◌++◌, length, take, slice_get, Some, Option, length-append}
use Rattle.std.proofs.lemmas.List.{append-nil, length-take-le, take_all}
use Rattle.std.specs.Option.{option_map_or}
use Rattle.lrpar_grammar.specs.Grammar.{Grammar, GrammarSymbol, IsWellFormed, Nonterminal, Terminal, end_token, rule_of, symbols_of}
use Rattle.lrpar_grammar.specs.Sentence.{IsSentence}
use Rattle.lrpar_grammar.specs.Tree.{Tree, Forest, Leaf, Branch, Nil, Cons, leaves, forest_leaves, productions, Fits, ForestFits}
use Rattle.lrpar_grammar.proofs.ForestLemmas.{joined, joined_fits, joined_leaves, splits, split_leaves}
use Rattle.lrpar_table_rows.specs.Graph.{Graph}
use Rattle.lrpar_table_rows.specs.Safe.{IsSafe}
use Rattle.lrpar_table_rows.specs.Table.{Table, ShiftTo, IsClosed}
use Rattle.lrpar_table_check.specs.Checked.{Checked, IsChecked}
use Rattle.lrpar_table_conditions.specs.Complete.{IsComplete}
use Rattle.lrpar_table_check.specs.CompleteRuns.{BeginsNoSentence, CompleteTablesAcceptSentences, RunsTo, AcceptsExactlySentences}
use Rattle.lrpar_table_stacks.specs.Path.{IsPath, NeverSticks}
use Rattle.lrpar_table_stacks.specs.Reduction.{Feeds, Reduces, Settles, top_action}
use Rattle.lrpar_table_stacks.specs.Run.{Far, FarEnd, Accepted, Stopped, Stop, IsStuck, goes_on, accepts, stops, token_at}
use Rattle.lrpar_table_check.proofs.CompleteLemmas.{sentence_runs}
use Rattle.lrpar_table_check.proofs.OneTreeLemmas.{same_tree}
use Rattle.lrpar_table_stacks.proofs.PathLemmas.{never_sticks}
use Rattle.lrpar_table_stacks.proofs.Reductions.{reduces_to_one}
use Rattle.lrpar_table_stacks.proofs.RunLemmas.{runs_one_way}

-- one lexeme more
record HasNext {X : Type 0} (token : X → ℕ) (g : Grammar) (lexemes : List X) (i : ℕ) : Type 0 where
  pub lexeme : X
  pub is_token : token_at token g lexemes i ≡ token lexeme
  pub more : take (i + 1) lexemes ≡ take i lexemes ++ lexeme ∷ []

next_at : {X : Type 0} (lexemes : List X) (i : ℕ) → i < length lexemes
    → (x : X) × (slice_get lexemes i ≡ Some x) × (take (suc i) lexemes ≡ take i lexemes ++ x ∷ [])
next_at [] i within = absurd (omega arith)
next_at (x ∷ xs) zero within = (x, refl, refl)
next_at (x ∷ xs) (suc i) within =
    let next = next_at xs i (omega arith) in
    (next.0, next.1, ap (λ l. x ∷ l) next.2)

has_next : {X : Type 0} (token : X → ℕ) (g : Grammar) (lexemes : List X) (i : ℕ) → i < length lexemes → HasNext token g lexemes i
has_next {X} token g lexemes i within =
    let next = next_at lexemes i within in
    record {
      lexeme = next.0;
      is_token = ap (λ (o : Option X). option_map_or token o (end_token g)) next.1;
      more = rw add-one next.2;
    }

module _ {X : Type 0} (token : X → ℕ) (g : Grammar) (table : Table) (never : NeverSticks g table) where
  -- trees along the symbols of a stack, with these leaves
  record HasTrees (st : List ℕ) (xs : List X) : Type 0 where
    pub symbols : List GrammarSymbol
    pub path : IsPath table symbols st
    pub trees : Forest X
    pub fits : ForestFits token g trees symbols
    pub leaves_are : forest_leaves trees ≡ xs

  -- a reduction makes a node
  trees_reduced : (t p : ℕ) (st after : List ℕ) (xs : List X) → HasTrees st xs → Reduces g table t st p after → HasTrees after xs
  trees_reduced t p st after xs has reduces =
      let along = never.reduces has.symbols st t p has.path reduces.action in
      let same = reduces_to_one g table t st p p along.after after along.reduces reduces in
      let fits = subst (λ (ss : List GrammarSymbol). ForestFits token g has.trees ss) along.split has.fits in
      let parts = splits token g has.trees along.below (symbols_of g p) fits in
      let node : Forest X = Cons (Branch p parts.others) Nil in
      record {
        symbols = along.below ++ Nonterminal (rule_of g p) ∷ [];
        path = subst (λ (l : List ℕ). IsPath table (along.below ++ Nonterminal (rule_of g p) ∷ []) l) same along.path;
        trees = joined parts.first node;
        fits = joined_fits token g parts.first node along.below (Nonterminal (rule_of g p) ∷ []) parts.first_fits
            ((reduces.known, refl, parts.others_fit), tt);
        leaves_are = joined_leaves parts.first node
            ∙ ap (λ (ys : List X). forest_leaves parts.first ++ ys) (append-nil (forest_leaves parts.others))
            ∙ sym (split_leaves token g has.trees along.below (symbols_of g p) parts) ∙ has.leaves_are;
      }

  trees_settled : (t : ℕ) (st ps after : List ℕ) (xs : List X) → HasTrees st xs → Settles g table t st ps after → HasTrees after xs
  trees_settled t st [] after xs has settles = subst (λ (l : List ℕ). HasTrees l xs) settles.0 has
  trees_settled t st (p ∷ ps) after xs has settles =
      trees_settled t settles.0 ps after xs (trees_reduced t p st settles.0 xs has settles.1) settles.2

  -- a shift makes a leaf
  trees_fed : (t : ℕ) (x : X) (st ps after : List ℕ) (xs : List X) → t ≡ token x → HasTrees st xs → Feeds g table t st ps after
      → HasTrees after (xs ++ x ∷ [])
  trees_fed t x st ps after xs is has feeds =
      let settled = trees_settled t st ps feeds.settled xs has feeds.settles in
      let shifted = never.shifts settled.symbols feeds.settled t feeds.next settled.path feeds.shifts in
      let leaf : Forest X = Cons (Leaf x) Nil in
      record {
        symbols = settled.symbols ++ Terminal t ∷ [];
        path = subst (λ (l : List ℕ). IsPath table (settled.symbols ++ Terminal t ∷ []) l) (sym feeds.pushed) shifted.1;
        trees = joined settled.trees leaf;
        fits = joined_fits token g settled.trees leaf settled.symbols (Terminal t ∷ []) settled.fits (sym is, tt);
        leaves_are = joined_leaves settled.trees leaf ∙ ap (λ (ys : List X). ys ++ x ∷ []) settled.leaves_are;
      }

  -- trees of one rule are one tree
  one_of_rule : (ts : Forest X) (r : ℕ) (xs : List X) → ForestFits token g ts (Nonterminal r ∷ []) → forest_leaves ts ≡ xs
      → (tree : Tree X) × Fits token g tree (Nonterminal r) × (leaves tree ≡ xs)
  one_of_rule Nil r xs fits are = absurd fits
  one_of_rule (Cons t Nil) r xs fits are = (t, fits.0, sym (append-nil (leaves t)) ∙ are)
  one_of_rule (Cons t (Cons u us)) r xs fits are = absurd fits.1

  -- lexemes over which a run comes to accept are a sentence
  accepted_is_sentence : (lexemes : List X) (st : List ℕ) (i : ℕ) (ps : List ℕ) (end : FarEnd) → Far token g table lexemes st i ps end
      → end ≡ Accepted → HasTrees st (take i lexemes) → IsSentence token g lexemes
  accepted_is_sentence lexemes _ _ _ _ (goes_on st i ps qs next end within feeds rest) is has =
      let more = has_next token g lexemes i within in
      let fed = trees_fed (token_at token g lexemes i) more.lexeme st ps next (take i lexemes) more.is_token has feeds in
      accepted_is_sentence lexemes next (i + 1) qs end rest is (subst (λ (xs : List X). HasTrees next xs) (sym more.more) fed)
  accepted_is_sentence lexemes _ _ _ _ (accepts st i ps settled at_end settles accepted) is has =
      let all : take i lexemes ≡ lexemes = take_all i lexemes (omega (arith, at_end)) in
      let trees = trees_settled (end_token g) st ps settled (take i lexemes) has settles in
      let alone = never.accepts trees.symbols settled (end_token g) trees.path accepted in
      let fits = subst (λ (ss : List GrammarSymbol). ForestFits token g trees.trees ss) alone.1 trees.fits in
      one_of_rule trees.trees g.start lexemes fits (trees.leaves_are ∙ all)
  accepted_is_sentence lexemes _ _ _ _ (stops st i ps settled fits settles stuck) is has =
      let no : Stopped (record { stack = settled; place = i }) ≡ Accepted = is in absurd (let none : ⊥ = cc in none)

-- a run stops at no earlier place than its first
pub stops_later : {X : Type 0} (token : X → ℕ) (g : Grammar) (table : Table) (lexemes : List X) (st : List ℕ) (i : ℕ) (ps : List ℕ) (end : FarEnd) (stop : Stop)
    → Far token g table lexemes st i ps end → end ≡ Stopped stop → i ≤ stop.place
stops_later token g table lexemes _ _ _ _ stop (goes_on st i ps qs next end within feeds rest) is =
    let later = stops_later token g table lexemes next (i + 1) qs end stop rest is in omega (arith, later)
stops_later token g table lexemes _ _ _ _ stop (accepts st i ps settled at_end settles accepted) is =
    let no : Accepted ≡ Stopped stop = is in absurd (let none : ⊥ = cc in none)
stops_later token g table lexemes _ _ _ _ stop (stops st i ps settled fits settles stuck) is =
    let same : record { stack = settled; place = i } ≡ stop = cc in
    let place : i ≡ stop.place = ap (λ (s : Stop). s.place) same in
    omega (arith, place)

module _ {X : Type 0} (token : X → ℕ) (g : Grammar) (table : Table) (lexemes others : List X) (stop : Stop) (within : stop.place < length lexemes)
    (inside : stop.place < length others)
    (alike : (k : ℕ) → k ≤ stop.place → token_at token g lexemes k ≡ token_at token g others k) where
  -- over lexemes with the same tokens up to the error point it stops there, too
  stops_alike : (st : List ℕ) (i : ℕ) (ps : List ℕ) (end : FarEnd) → Far token g table lexemes st i ps end → end ≡ Stopped stop
      → Far token g table others st i ps end
  stops_alike _ _ _ _ (goes_on st i ps qs next end below feeds rest) is =
      let later = stops_later token g table lexemes next (i + 1) qs end stop rest is in
      let same = alike i (omega (arith, later)) in
      goes_on st i ps qs next end (omega (arith, later, inside)) (subst (λ (t : ℕ). Feeds g table t st ps next) same feeds)
      (stops_alike next (i + 1) qs end rest is)
  stops_alike _ _ _ _ (accepts st i ps settled at_end settles accepted) is =
      let no : Accepted ≡ Stopped stop = is in absurd (let none : ⊥ = cc in none)
  stops_alike _ _ _ _ (stops st i ps settled fits settles stuck) is =
      let here : record { stack = settled; place = i } ≡ stop = cc in
      let place : i ≡ stop.place = ap (λ (s : Stop). s.place) here in
      let same = alike i (omega (arith, place)) in
      let goes_not : IsStuck token g table others settled i = record {
        shifts_not = λ _ next shifts.
            stuck.shifts_not (omega (arith, place, within)) next (subst (λ (t : ℕ). top_action table t settled ≡ ShiftTo next) (sym same) shifts);
        accepts_not = λ at_end. absurd (omega (arith, at_end, place, inside));
      } in
      stops st i ps settled (omega (arith, place, inside)) (subst (λ (t : ℕ). Settles g table t st ps settled) same settles) goes_not

-- the first lexemes stay in their places, whatever follows them
pub front_get : {X : Type 0} (n k : ℕ) (xs rest : List X) → k < n → k < length xs → slice_get (take n xs ++ rest) k ≡ slice_get xs k
front_get zero k xs rest low within = absurd (omega arith)
front_get (suc n) k [] rest low within = absurd (omega arith)
front_get (suc n) zero (x ∷ xs) rest low within = refl
front_get (suc n) (suc k) (x ∷ xs) rest low within = front_get n k xs rest (omega arith) (omega arith)

-- over a safe table lexemes over which the run comes to accept are a sentence
pub is_taken : {X : Type 0} (token : X → ℕ) (g : Grammar) (graph : Graph) (table : Table) → IsWellFormed g → IsClosed table → IsSafe g graph table
    → (lexemes : List X) (prods : List ℕ) → RunsTo token g table lexemes prods Accepted → IsSentence token g lexemes
is_taken token g graph table formed closed safe lexemes prods runs =
    accepted_is_sentence token g table (never_sticks g graph table closed safe formed) lexemes (table.start ∷ []) 0 prods Accepted runs refl
    (record { symbols = []; path = (refl, tt); trees = Nil; fits = tt; leaves_are = refl })

module _ {X : Type 0} (token : X → ℕ) (g : Grammar) (graph : Graph) (table : Table) (formed : IsWellFormed g) (closed : IsClosed table)
    (safe : IsSafe g graph table) (complete : IsComplete g graph table) where
  takes : (tree : Tree X) (lexemes : List X) → Fits token g tree (Nonterminal g.start) → leaves tree ≡ lexemes
      → RunsTo token g table lexemes (productions tree) Accepted
  takes tree lexemes fits are = sentence_runs token g graph table formed safe.shape complete lexemes tree closed fits are

  -- two trees of a sentence
  only_one : (tree other : Tree X) → Fits token g tree (Nonterminal g.start) → Fits token g other (Nonterminal g.start) → leaves tree ≡ leaves other
      → tree ≡ other
  only_one tree other fits fit are =
      let same = runs_one_way token g table (leaves tree) (table.start ∷ []) 0 (productions tree) (productions other) Accepted Accepted
      (takes tree (leaves tree) fits refl) (takes other (leaves tree) fit (sym are)) in
      same_tree token g tree other (Nonterminal g.start) fits fit same.0 are

  -- no sentence begins with the lexemes up to the one at which the run stops
  no_front : (lexemes : List X) (prods : List ℕ) (stop : Stop) → RunsTo token g table lexemes prods (Stopped stop) → stop.place < length lexemes
      → BeginsNoSentence token g (take (stop.place + 1) lexemes)
  no_front lexemes prods stop runs within rest sentence =
      let n = stop.place + 1 in
      let others = take n lexemes ++ rest in
      let inside : stop.place < length others = omega (arith, length-append (take n lexemes) rest, length-take-le n lexemes (omega (arith, within))) in
      let alike = λ (k : ℕ) (low : k ≤ stop.place).
      ap (λ (o : Option X). option_map_or token o (end_token g)) (sym (front_get n k lexemes rest (omega (arith, low)) (omega (arith, low, within)))) in
      let stopped = stops_alike token g table lexemes others stop within inside alike (table.start ∷ []) 0 prods (Stopped stop) runs refl in
      let accepted = takes sentence.0 others sentence.1 sentence.2 in
      let same = runs_one_way token g table others (table.start ∷ []) 0 prods (productions sentence.0) (Stopped stop) Accepted stopped accepted in
      let no : Stopped stop ≡ Accepted = same.1 in cc

  takes_sentences : AcceptsExactlySentences token g table
  takes_sentences = record {
    only = λ tree fits. takes tree (leaves tree) fits refl;
    exact = λ lexemes. (
      λ sentence. (productions sentence.0, takes sentence.0 lexemes sentence.1 sentence.2),
      λ run. is_taken token g graph table formed closed safe lexemes run.0 run.1,
    );
    one = only_one;
    prefix = no_front;
  }

pub complete_tables_take_sentences : {X : Type 0} → CompleteTablesAcceptSentences X
complete_tables_take_sentences token g graph table formed closed safe complete =
    takes_sentences token g graph table formed closed safe complete

-- a checked table, whose parts were found to be complete, has such runs
pub checked_takes : {X : Type 0} (token : X → ℕ) (d : Checked) (g : Grammar) (graph : Graph) (table : Table) → IsChecked d
    → g ≡ d.grammar → graph ≡ d.graph → table ≡ d.table → IsComplete g graph table → AcceptsExactlySentences token d.grammar d.table
checked_takes token d g graph table checked same_g same_graph same_table complete =
    let first = subst (λ (x : Grammar). IsComplete x graph table) same_g complete in
    let second = subst (λ (x : Graph). IsComplete d.grammar x table) same_graph first in
    let third = subst (λ (x : Table). IsComplete d.grammar d.graph x) same_table second in
    takes_sentences token d.grammar d.graph d.table checked.well_formed checked.closed checked.safe third
