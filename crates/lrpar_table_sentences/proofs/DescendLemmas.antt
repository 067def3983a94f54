-- Trees that begin with a token, made from the top down to the token: what comes before it is made, and what is left goes on a
-- stack.
use Rattle.std.proofs.Common.{◌≡◌, ◌<◌, ◌≤◌, ◌+◌, ◌∙◌, refl, sym, ap, subst, ℕ, zero, suc, List, [], ◌∷◌, ◌++◌, Option, Some, None, add-one, drop, length, map, take}
use Rattle.std.specs.Option.{option_map_or}
use Rattle.lrpar_grammar_places.specs.declared.span.Symbol.{Symbol}
use Rattle.lrpar_grammar.specs.Symbols.{symbol_of}
use Rattle.std.proofs.lemmas.List.{append-nil, append_assoc, drop-map, take-map}
use Rattle.lrpar_grammar.specs.Grammar.{Grammar, GrammarSymbol, Nonterminal, Terminal, prods_len, symbols_of}
use Rattle.lrpar_grammar.specs.Tree.{Tree, Forest, Leaf, Branch, Nil, Cons, leaves, forest_leaves}
use Rattle.lrpar_table_sentences.specs.Choices.{AreRight, AreShortest, ChoiceOf, ForestFollows}
use Rattle.lrpar_table_sentences.specs.Texts.{AreTreesOf, BeginWith, CanBeginWith, IsTreeOf}
use Rattle.lrpar_table_sentences.proofs.FrameLemmas.{nothing_in}
use Rattle.lrpar_table_sentences.proofs.LenLemmas.{follows_fits, forest_follows_fit, have_len}
use Rattle.lrpar_table_sentences.proofs.StartLemmas.{forest_begins, place_trees}
use Rattle.lrpar_table_sentences.specs.Frames.{FrameOf, Unfold}
use Rattle.lrpar_table_sentences.specs.Moves.{MoveOf, Makes, Takes, forest_moves, moves_of}
use Rattle.lrpar_table_sentences.specs.Starts.{AreStarts, CanStart, Descends, ForestStarts, StartOf, Starts, begin_index, start_by}

-- the parts of what is kept
abbrev prod_in : Option StartOf → ℕ
prod_in o = option_map_or (λ (x : StartOf). x.prod) o 0

abbrev place_in : Option StartOf → ℕ
place_in o = option_map_or (λ (x : StartOf). x.place) o 0

-- trees that begin at place k, in parts
pub record Parts (g : Grammar) (choices : List (Option ChoiceOf)) (starts : List (Option StartOf)) (first k : ℕ) (trees : Forest ℕ) (ss : List GrammarSymbol) : Type 0 where
  pub before : Forest ℕ
  pub inner : Tree ℕ
  pub after : Forest ℕ
  pub front : ForestFollows g choices before (take k ss)
  pub at : (s : GrammarSymbol) (more : List GrammarSymbol) → drop k ss ≡ s ∷ more → Starts g choices starts first inner s × ForestFollows g choices after more
  pub moves : forest_moves trees ≡ forest_moves before ++ (moves_of inner ++ forest_moves after)

module _ (g : Grammar) (choices : List (Option ChoiceOf)) (starts : List (Option StartOf)) (first : ℕ) where
  pub parts : (k : ℕ) (ts : Forest ℕ) (ss : List GrammarSymbol) → ForestStarts g choices starts first k ts ss → Parts g choices starts first k ts ss
  parts k Nil ss h = absurd h
  parts k (Cons t ts) [] h = absurd h
  parts zero (Cons t ts) (s ∷ ss) h = record {
    before = Nil;
    inner = t;
    after = ts;
    front = tt;
    at = λ x more is.
        let one : s ≡ x = cc in
        let others : ss ≡ more = cc in
        (subst (Starts g choices starts first t) one h.0, subst (ForestFollows g choices ts) others h.1);
    moves = refl;
  }
  parts (suc k) (Cons t ts) (s ∷ ss) h =
      let rest = parts k ts ss h.2 in
      record {
        before = Cons t rest.before;
        inner = rest.inner;
        after = rest.after;
        front = (h.0, rest.front);
        at = rest.at;
        moves = ap (λ ms. moves_of t ++ ms) rest.moves ∙ sym (append_assoc (moves_of t) (forest_moves rest.before) (moves_of rest.inner ++ forest_moves rest.after));
      }

  -- the moves so far, with those of a tree that begins and of the frames that are left, are all
  abbrev pub Descending : GrammarSymbol → List FrameOf → List MoveOf → GrammarSymbol → List FrameOf → List MoveOf → Type 0
  Descending s0 old before s frames out =
      (tree : Tree ℕ) (rest : List MoveOf) → Starts g choices starts first tree s0 → Unfold g choices old rest
      → (inner : Tree ℕ) × (todo : List MoveOf) × Starts g choices starts first inner s × Unfold g choices frames todo
      × (before ++ (moves_of tree ++ rest) ≡ out ++ (moves_of inner ++ todo))

  pub descending_starts : (s : GrammarSymbol) (old : List FrameOf) (before : List MoveOf) → Descending s old before s old before
  descending_starts s old before tree rest begun unfolds = (tree, rest, begun, unfolds, refl)

  module _ (s0 : GrammarSymbol) (old : List FrameOf) (before : List MoveOf) (s : GrammarSymbol) (frames : List FrameOf) (out : List MoveOf)
      (so_far : Descending s0 old before s frames out) where
    -- one node further down
    down : (p k : ℕ) (x : GrammarSymbol) (after : List MoveOf) → start_by starts s ≡ Some (record { prod = p; place = k })
        → drop k (symbols_of g p) ≡ x ∷ drop (k + 1) (symbols_of g p)
        → ((nulls : Forest ℕ) → ForestFollows g choices nulls (take k (symbols_of g p)) → after ≡ out ++ forest_moves nulls)
        → (tree : Tree ℕ) (todo : List MoveOf) → Starts g choices starts first tree s → Unfold g choices frames todo
        → (inner : Tree ℕ) × (more : List MoveOf) × Starts g choices starts first inner x
        × Unfold g choices (record { prod = p; dot = k + 1 } ∷ frames) more × (out ++ (moves_of tree ++ todo) ≡ after ++ (moves_of inner ++ more))
    down p k x after kept at made tree todo begun unfolds = by_symbol s tree kept begun
      where
        by_children : (q j : ℕ) (children : Forest ℕ) → q ≡ p → j ≡ k → ForestStarts g choices starts first j children (symbols_of g q)
            → (inner : Tree ℕ) × (more : List MoveOf) × Starts g choices starts first inner x
            × Unfold g choices (record { prod = p; dot = k + 1 } ∷ frames) more × (out ++ (moves_of (Branch q children) ++ todo) ≡ after ++ (moves_of inner ++ more))
        by_children q j children same place h =
            let own : ForestStarts g choices starts first k children (symbols_of g p) =
            subst (λ (n : ℕ). ForestStarts g choices starts first k children (symbols_of g n)) same
            (subst (λ (n : ℕ). ForestStarts g choices starts first n children (symbols_of g q)) place h) in
            let split = parts k children (symbols_of g p) own in
            let fact = split.at x (drop (k + 1) (symbols_of g p)) at in
            let more = forest_moves split.after ++ Makes p ∷ todo in
            let front = made split.before split.front in (
              split.inner,
              more,
              fact.0,
              (split.after, todo, fact.1, refl, unfolds),
              ap (λ (n : ℕ). out ++ ((forest_moves children ++ Makes n ∷ []) ++ todo)) same
                  ∙ ap (λ ms. out ++ ((ms ++ Makes p ∷ []) ++ todo)) split.moves
                  ∙ regroup out (forest_moves split.before) (moves_of split.inner) (forest_moves split.after) (Makes p ∷ []) todo
                  ∙ ap (λ ms. ms ++ (moves_of split.inner ++ more)) (sym front),
            )
          where
            regroup : (a b c d e f : List MoveOf) → a ++ (((b ++ (c ++ d)) ++ e) ++ f) ≡ (a ++ b) ++ (c ++ (d ++ (e ++ f)))
            regroup a b c d e f = simp append_assoc

        by_symbol : (y : GrammarSymbol) (t : Tree ℕ) → start_by starts y ≡ Some (record { prod = p; place = k }) → Starts g choices starts first t y
            → (inner : Tree ℕ) × (more : List MoveOf) × Starts g choices starts first inner x
            × Unfold g choices (record { prod = p; dot = k + 1 } ∷ frames) more × (out ++ (moves_of t ++ todo) ≡ after ++ (moves_of inner ++ more))
        by_symbol (Terminal a) t none h = absurd (cc)
        by_symbol (Nonterminal r) (Leaf z) has h = absurd h
        by_symbol (Nonterminal r) (Branch q children) has h =
            let both = sym h.1 ∙ has in
            by_children q h.0 children (ap prod_in both) (ap place_in both) h.2

    pub descending_goes : (p k : ℕ) (x : GrammarSymbol) (after : List MoveOf) → start_by starts s ≡ Some (record { prod = p; place = k })
        → drop k (symbols_of g p) ≡ x ∷ drop (k + 1) (symbols_of g p)
        → ((nulls : Forest ℕ) → ForestFollows g choices nulls (take k (symbols_of g p)) → after ≡ out ++ forest_moves nulls)
        → Descending s0 old before x (record { prod = p; dot = k + 1 } ∷ frames) after
    descending_goes p k x after kept at made tree rest begun unfolds =
        let left = so_far tree rest begun unfolds in
        let one = down p k x after kept at made left.0 left.1 left.2 left.3 in
        (one.0, one.1, one.2, one.3, left.4 ∙ one.4)

    -- at last the token is taken
    taken : (y : GrammarSymbol) (t : Tree ℕ) → start_by starts y ≡ None → Starts g choices starts first t y → moves_of t ≡ Takes first ∷ []
    taken (Terminal a) (Leaf z) none h = ap (λ (n : ℕ). Takes n ∷ []) (h.0 ∙ h.1)
    taken (Terminal a) (Branch q children) none h = absurd h
    taken (Nonterminal r) (Leaf z) none h = absurd h
    taken (Nonterminal r) (Branch q children) none h = let never = sym h.1 ∙ none in absurd (cc)

    pub descending_ends : start_by starts s ≡ None → (tree : Tree ℕ) (rest : List MoveOf) → Starts g choices starts first tree s0 → Unfold g choices old rest
        → (todo : List MoveOf) × Unfold g choices frames todo × ((out ++ Takes first ∷ []) ++ todo ≡ before ++ (moves_of tree ++ rest))
    descending_ends none tree rest begun unfolds =
        let left = so_far tree rest begun unfolds in
        (left.1, left.3, append_assoc out (Takes first ∷ []) left.1 ∙ ap (λ ms. out ++ (ms ++ left.1)) (sym (taken s left.0 none left.2)) ∙ sym left.4)

-- what is kept of a symbol is in range
pub start_known : (g : Grammar) (choices : List (Option ChoiceOf)) (first : ℕ) (starts : List (Option StartOf)) → AreStarts g choices first starts
    → (s : GrammarSymbol) (x : StartOf) → start_by starts s ≡ Some x → (x.prod < prods_len g) × (x.place < length (symbols_of g x.prod))
start_known g choices first starts are (Terminal t) x is = absurd (cc)
start_known g choices first starts are (Nonterminal r) x is = let in_range = are.within r x is in (in_range.0, in_range.1)

-- the symbols of a production around a place
drop_next : {X : Type 0} (xs : List X) (k : ℕ) (y : X) (ys : List X) → drop k xs ≡ y ∷ ys → drop (suc k) xs ≡ ys
drop_next [] zero y ys is = absurd (cc)
drop_next [] (suc k) y ys is = absurd (cc)
drop_next (z ∷ zs) zero y ys is = cc
drop_next (z ∷ zs) (suc k) y ys is = drop_next zs k y ys is

module _ {S : Type 0} (index : S → ℕ) (symbols : List (Symbol S)) (all : List GrammarSymbol) (k : ℕ) (are : map (symbol_of index) symbols ≡ all) where
  pub around_at : (next : Symbol S) (after : List (Symbol S)) → drop k symbols ≡ next ∷ after → drop k all ≡ symbol_of index next ∷ drop (k + 1) all
  around_at next after is =
      let here : drop k all ≡ symbol_of index next ∷ map (symbol_of index) after =
      ap (drop k) (sym are) ∙ drop-map (symbol_of index) k symbols ∙ ap (map (symbol_of index)) is in
      let more : drop (k + 1) all ≡ map (symbol_of index) after = rw add-one (drop_next all k (symbol_of index next) (map (symbol_of index) after) here) in
      here ∙ ap (λ w. symbol_of index next ∷ w) (sym more)

  pub around_front : (before : List (Symbol S)) → before ≡ take k symbols → map (symbol_of index) before ≡ take k all
  around_front before is = ap (map (symbol_of index)) is ∙ sym (take-map (symbol_of index) k symbols) ∙ ap (take k) are

-- a tree that begins, made down to its token and then unfolded
pub descended : (g : Grammar) (choices : List (Option ChoiceOf)) (starts : List (Option StartOf)) (first : ℕ) (s : GrammarSymbol) (none frames : List FrameOf)
    (before middle after : List MoveOf) → none ≡ [] → Descends g choices starts first s none frames before middle
    → ((moves : List MoveOf) → Unfold g choices frames moves → after ≡ middle ++ moves)
    → (tree : Tree ℕ) → Starts g choices starts first tree s → after ≡ before ++ moves_of tree
descended g choices starts first s none frames before middle after is descends all tree begun =
    let one = descends tree [] begun (subst (λ (fs : List FrameOf). Unfold g choices fs []) (sym is) refl) in
    all one.0 one.1 ∙ one.2 ∙ ap (λ ms. before ++ ms) (append-nil (moves_of tree))

-- symbols one of which begins: what comes before it, its tree, and what comes after it
pub placed : (g : Grammar) (choices : List (Option ChoiceOf)) (starts : List (Option StartOf)) (first k j : ℕ) (all more : List GrammarSymbol) (x : GrammarSymbol)
    (one two three four : List MoveOf) → j ≡ k → drop j all ≡ x ∷ more
    → ((nulls : Forest ℕ) → ForestFollows g choices nulls (take j all) → two ≡ one ++ forest_moves nulls)
    → ((tree : Tree ℕ) → Starts g choices starts first tree x → three ≡ two ++ moves_of tree)
    → ((ts : Forest ℕ) → ForestFollows g choices ts more → four ≡ three ++ forest_moves ts)
    → (trees : Forest ℕ) → ForestStarts g choices starts first k trees all → four ≡ one ++ forest_moves trees
placed g choices starts first k j all more x one two three four same at front begin last trees begun =
    let split = parts g choices starts first j trees all (subst (λ (n : ℕ). ForestStarts g choices starts first n trees all) (sym same) begun) in
    let fact = split.at x more at in
    last split.after fact.1
    ∙ ap (λ ms. ms ++ forest_moves split.after) (begin split.inner fact.0 ∙ ap (λ ms. ms ++ moves_of split.inner) (front split.before split.front))
    ∙ regrouped one (forest_moves split.before) (moves_of split.inner) (forest_moves split.after)
    ∙ ap (λ ms. one ++ ms) (sym split.moves)
  where
    regrouped : (a b c d : List MoveOf) → ((a ++ b) ++ c) ++ d ≡ a ++ (b ++ (c ++ d))
    regrouped a b c d = simp append_assoc

-- trees that begin fit, and their first token is the token
module _ (g : Grammar) (most : ℕ) (choices : List (Option ChoiceOf)) (right : AreRight g most choices) (first : ℕ) (starts : List (Option StartOf))
    (are : AreStarts g choices first starts) where
  mutual
    starts_fit : (t : Tree ℕ) (s : GrammarSymbol) → Starts g choices starts first t s → IsTreeOf g s t
    starts_fit (Leaf x) (Terminal t) h = h.0
    starts_fit (Leaf x) (Nonterminal r) h = absurd h
    starts_fit (Branch p children) (Terminal t) h = absurd h
    starts_fit (Branch p children) (Nonterminal r) h =
        let own = are.within r _ h.1 in (own.0, own.2, forest_starts_fit h.0 children (symbols_of g p) h.2)

    forest_starts_fit : (k : ℕ) (ts : Forest ℕ) (ss : List GrammarSymbol) → ForestStarts g choices starts first k ts ss → AreTreesOf g ss ts
    forest_starts_fit k Nil ss h = absurd h
    forest_starts_fit k (Cons t ts) [] h = absurd h
    forest_starts_fit zero (Cons t ts) (s ∷ ss) h = (starts_fit t s h.0, forest_follows_fit g most choices right ts ss h.1)
    forest_starts_fit (suc k) (Cons t ts) (s ∷ ss) h = (follows_fits g most choices right t s h.0, forest_starts_fit k ts ss h.2)

  mutual
    starts_first : (t : Tree ℕ) (s : GrammarSymbol) → Starts g choices starts first t s → (rest : List ℕ) × (leaves t ≡ first ∷ rest)
    starts_first (Leaf x) (Terminal t) h = ([], ap (λ (n : ℕ). n ∷ []) (h.0 ∙ h.1))
    starts_first (Leaf x) (Nonterminal r) h = absurd h
    starts_first (Branch p children) (Terminal t) h = absurd h
    starts_first (Branch p children) (Nonterminal r) h = forest_starts_first h.0 children (symbols_of g p) h.2

    forest_starts_first : (k : ℕ) (ts : Forest ℕ) (ss : List GrammarSymbol) → ForestStarts g choices starts first k ts ss
        → (rest : List ℕ) × (forest_leaves ts ≡ first ∷ rest)
    forest_starts_first k Nil ss h = absurd h
    forest_starts_first k (Cons t ts) [] h = absurd h
    forest_starts_first zero (Cons t ts) (s ∷ ss) h =
        let one = starts_first t s h.0 in (one.0 ++ forest_leaves ts, ap (λ xs. xs ++ forest_leaves ts) one.1)
    forest_starts_first (suc k) (Cons t ts) (s ∷ ss) h =
        let later = forest_starts_first k ts ss h.2 in
        (later.0, ap (λ xs. xs ++ forest_leaves ts) (nothing_in (leaves t) h.1) ∙ later.1)

  pub begin_with : (k : ℕ) (ts : Forest ℕ) (ss : List GrammarSymbol) → ForestStarts g choices starts first k ts ss → BeginWith g ss first ts
  begin_with k ts ss h = record { fit = forest_starts_fit k ts ss h; first = forest_starts_first k ts ss h }

-- so if symbols can begin with the token, what is appended does
pub beginning : (g : Grammar) (most : ℕ) (choices : List (Option ChoiceOf)) (shortest : AreShortest g most choices) (first : ℕ) (starts : List (Option StartOf))
    → AreStarts g choices first starts → ((p : ℕ) → p < prods_len g → CanStart g most choices first starts p) → 1 ≤ most
    → (ss : List GrammarSymbol) (old new : List MoveOf) → CanBeginWith g ss first
    → ((k : ℕ) (trees : Forest ℕ) → begin_index choices starts first ss ≡ Some k → ForestStarts g choices starts first k trees ss → new ≡ old ++ forest_moves trees)
    → (trees : Forest ℕ) × BeginWith g ss first trees × (new ≡ old ++ forest_moves trees)
beginning g most choices shortest first starts are closed positive ss old new can pushed =
    let place = forest_begins g most choices shortest first starts closed can.0 ss can.1.first.0 can.1.fit can.1.first.1 in
    let len = have_len g most choices shortest ss (can.0, can.1.fit) in
    let made = place_trees g most choices shortest.right first starts are.trees positive ss len.0 place.0 len.1 place.1 in
    (made.0, begin_with g most choices shortest.right first starts are place.0 made.0 ss made.1, pushed place.0 made.0 place.1 made.1)
