-- The moves of trees, made from a stack of frames.
use Rattle.std.proofs.Common.{◌≡◌, ◌+◌, ◌∙◌, refl, sym, ap, subst, arith, inl, inr, ℕ, Bool, true, false, IsTrue, List, [], ◌∷◌, ◌++◌, Option, Some, None, IfOk, OnOk, Result, Ok, Err, drop, get_or, length, ltb, map, reverse}
use Rattle.std.specs.Option.{option_map}
use Rattle.std.specs.List.{All}
use Rattle.std.proofs.lemmas.Bool.{cases_lt, false≢true, lt-ltb, ltb-true}
use Rattle.std.proofs.lemmas.List.Elements.{All-push}
use Rattle.std.proofs.lemmas.List.{append-nil, append_assoc, drop_all, length-map, map-append, reverse-append}
use Rattle.lrpar_grammar.specs.Grammar.{Grammar, GrammarSymbol, Nonterminal, Terminal, symbols_of}
use Rattle.lrpar_grammar.specs.Tree.{Tree, Forest, Leaf, Branch, Nil, Cons}
use Rattle.lrpar_grammar_places.specs.declared.span.Symbol.{Symbol}
use Rattle.lrpar_grammar.specs.Symbols.{symbol_of}
use Rattle.lrpar_table_first.proofs.RowLemmas.{symbols_from}
use Rattle.lrpar_table_sentences.specs.Choices.{ChoiceOf, Follows, ForestFollows, choice_at, prod_at}
use Rattle.lrpar_table_sentences.specs.Frames.{Begins, FrameOf, IsFrameOf, Unfold, frame_of, frames_of}
use Rattle.lrpar_table_sentences.specs.Moves.{MoveOf, Makes, Takes, forest_moves, move_of, moves_in, moves_of}
use Rattle.lrpar_table_sentences.specs.declared.moves.Move.{Move}
use Rattle.lrpar_table_sentences.specs.declared.unfold.Frame.{Frame}

-- a frame more on the stack, and a move more
pub frames_pushed : {S : Type 0} (index : S → ℕ) (frames : List (Frame S)) (frame : Frame S)
    → frames_of index (frames ++ frame ∷ []) ≡ frame_of index frame ∷ frames_of index frames
frames_pushed index frames frame =
    ap reverse (map-append (frame_of index) frames (frame ∷ [])) ∙ reverse-append (map (frame_of index) frames) (frame_of index frame ∷ [])

pub moves_pushed : {S : Type 0} (index : S → ℕ) (moves : List (Move S)) (move : Move S)
    → moves_in index (moves ++ move ∷ []) ≡ moves_in index moves ++ move_of index move ∷ []
moves_pushed index moves move = map-append (move_of index) moves (move ∷ [])

module _ (g : Grammar) (choices : List (Option ChoiceOf)) (old : List FrameOf) (before : List MoveOf) where
  -- a token is taken
  pub begins_token : (t : ℕ) → Begins g choices (Terminal t) old old before (before ++ Takes t ∷ []) true
  begins_token t (Leaf x) rest follows unfolds =
      (refl, (rest, unfolds, append_assoc before (Takes t ∷ []) rest ∙ ap (λ n. before ++ Takes n ∷ rest) (sym follows)))
  begins_token t (Branch p children) rest follows unfolds = absurd follows

  -- the production that is kept of a rule is begun
  pub begins_rule : (r p : ℕ) → prod_at choices r ≡ Some p
      → Begins g choices (Nonterminal r) old (record { prod = p; dot = 0 } ∷ old) before before true
  begins_rule r p kept (Leaf x) rest follows unfolds = absurd follows
  begins_rule r p kept (Branch q children) rest follows unfolds =
      let both : Some p ≡ Some q = sym kept ∙ follows.0 in
      let same : q ≡ p = cc in
      let fit = subst (λ n. ForestFollows g choices children (symbols_of g n)) same follows.1 in
      let moves = forest_moves children ++ Makes p ∷ rest in (
        refl,
        (
          moves,
          (children, rest, fit, refl, unfolds),
          ap (λ n. before ++ (forest_moves children ++ Makes n ∷ rest)) (sym same) ∙ ap (λ ms. before ++ ms) (sym (append_assoc (forest_moves children) (Makes q ∷ []) rest)),
        ),
      )

  -- a rule with nothing kept has no tree that follows the choices
  pub begins_none : (r : ℕ) → choice_at choices r ≡ None → Begins g choices (Nonterminal r) old old before before false
  begins_none r none (Leaf x) rest follows unfolds = absurd follows
  begins_none r none (Branch p children) rest follows unfolds =
      let never = ap (option_map (λ (x : ChoiceOf). x.prod)) none in
      let both : None ≡ Some p = sym never ∙ follows.0 in
      absurd (cc)

-- trees of no symbols have no moves
none_left : (g : Grammar) (choices : List (Option ChoiceOf)) (trees : Forest ℕ) (ss : List GrammarSymbol) → ss ≡ [] → ForestFollows g choices trees ss
    → forest_moves trees ≡ []
none_left g choices Nil ss none follow = refl
none_left g choices (Cons t ts) [] none follow = absurd follow
none_left g choices (Cons t ts) (s ∷ ss) none follow = absurd (cc)

-- the moves that are made, with those of the frames that are left, are all that were to be made
abbrev pub Unfolding : Grammar → List (Option ChoiceOf) → List FrameOf → List MoveOf → List FrameOf → List MoveOf → Type 0
Unfolding g choices old before frames moves =
    (all : List MoveOf) → Unfold g choices old all → (todo : List MoveOf) × Unfold g choices frames todo × (before ++ all ≡ moves ++ todo)

module _ (g : Grammar) (choices : List (Option ChoiceOf)) (old : List FrameOf) (before : List MoveOf) where
  -- nothing was made yet
  pub unfolding_starts : Unfolding g choices old before old before
  unfolding_starts all unfolds = (all, unfolds, refl)

  -- no frame is left
  pub unfolding_ends : (moves : List MoveOf) → Unfolding g choices old before [] moves → (all : List MoveOf) → Unfold g choices old all → moves ≡ before ++ all
  unfolding_ends moves so_far all unfolds =
      let left = so_far all unfolds in
      sym (append-nil moves) ∙ ap (λ ms. moves ++ ms) (sym left.1) ∙ sym left.2

  module _ (p k : ℕ) (frames : List FrameOf) (moves : List MoveOf) (so_far : Unfolding g choices old before (record { prod = p; dot = k } ∷ frames) moves) where
    -- all symbols of the frame are done, and its node is made
    pub unfolding_makes : drop k (symbols_of g p) ≡ [] → Unfolding g choices old before frames (moves ++ Makes p ∷ [])
    unfolding_makes none all unfolds =
        let left = so_far all unfolds in
        let inner = left.1 in
        let rest = inner.1 in
        let empty = none_left g choices inner.0 (drop k (symbols_of g p)) none inner.2 in
        (rest, inner.4, left.2 ∙ ap (λ ms. moves ++ ms) (inner.3 ∙ ap (λ ms. ms ++ Makes p ∷ rest) empty) ∙ sym (append_assoc moves (Makes p ∷ []) rest))

    -- the next symbol is begun
    module _ (s : GrammarSymbol) (new : List FrameOf) (after : List MoveOf) (derives : Bool)
        (at : drop k (symbols_of g p) ≡ s ∷ drop (k + 1) (symbols_of g p))
        (begins : Begins g choices s (record { prod = p; dot = k + 1 } ∷ frames) new moves after derives) where
      begun : (trees : Forest ℕ) (rest : List MoveOf) (ss : List GrammarSymbol) → ss ≡ s ∷ drop (k + 1) (symbols_of g p) → ForestFollows g choices trees ss
          → Unfold g choices frames rest
          → IsTrue derives × ((todo : List MoveOf) × Unfold g choices new todo × (after ++ todo ≡ moves ++ (forest_moves trees ++ Makes p ∷ rest)))
      begun Nil rest [] is follow unfolds = absurd (cc)
      begun Nil rest (s' ∷ ss) is follow unfolds = absurd follow
      begun (Cons t ts) rest [] is follow unfolds = absurd follow
      begun (Cons t ts) rest (s' ∷ ss) is follow unfolds =
          let same : s' ≡ s = cc in
          let others : ss ≡ drop (k + 1) (symbols_of g p) = cc in
          let first = subst (Follows g choices t) same follow.0 in
          let later = subst (ForestFollows g choices ts) others follow.1 in
          let one = begins t (forest_moves ts ++ Makes p ∷ rest) first (ts, rest, later, refl, unfolds) in
          (one.0, (one.1.0, one.1.1, one.1.2 ∙ ap (λ ms. moves ++ ms) (sym (append_assoc (moves_of t) (forest_moves ts) (Makes p ∷ rest)))))

      begun_all : (all : List MoveOf) → Unfold g choices old all
          → IsTrue derives × ((todo : List MoveOf) × Unfold g choices new todo × (before ++ all ≡ after ++ todo))
      begun_all all unfolds =
          let left = so_far all unfolds in
          let inner = left.1 in
          let one = begun inner.0 inner.1 (drop k (symbols_of g p)) at inner.2 inner.4 in
          (one.0, (one.1.0, one.1.1, left.2 ∙ ap (λ ms. moves ++ ms) inner.3 ∙ sym one.1.2))

      pub unfolding_goes : Unfolding g choices old before new after
      unfolding_goes all unfolds = (begun_all all unfolds).1

      -- unless it derives nothing, which can't be
      pub unfolding_never : derives ≡ false → (all : List MoveOf) → Unfold g choices old all → ⊥
      unfolding_never is all unfolds = false≢true (sym is ∙ (begun_all all unfolds).0)

-- the frames of a stack with one more are of the grammar
pub frames_known : {S : Type 0} (index : S → ℕ) (g : Grammar) (frames : List (Frame S)) (frame : Frame S) → All (IsFrameOf index g) frames
    → IsFrameOf index g frame → All (IsFrameOf index g) (frames ++ frame ∷ [])
frames_known index g frames frame known here = All-push (IsFrameOf index g) frames frame known here

-- the symbols after a dot, as they were looked up
pub some_after : {S : Type 0} (index : S → ℕ) (symbols : List (Symbol S)) (all : List GrammarSymbol) (k : ℕ) (symbol : Symbol S)
    → map (symbol_of index) symbols ≡ all → ltb k (length symbols) ≡ true → symbol ≡ get_or symbols k symbol
    → drop k all ≡ symbol_of index symbol ∷ drop (k + 1) all
some_after index symbols all k symbol are within is =
    subst (λ (w : List GrammarSymbol). drop k w ≡ symbol_of index symbol ∷ drop (k + 1) w) are
    (symbols_from index symbols k symbol (ltb-true k (length symbols) within) is)

pub none_after : {S : Type 0} (index : S → ℕ) (symbols : List (Symbol S)) (all : List GrammarSymbol) (k : ℕ)
    → map (symbol_of index) symbols ≡ all → ltb k (length symbols) ≡ false → drop k all ≡ []
none_after index symbols all k are past =
    elim (cases_lt k (length symbols)) as (λ _. drop k all ≡ []) [
      | inl within ↦ absurd (false≢true (sym past ∙ lt-ltb k (length symbols) within))
      | inr over ↦
          subst (λ (w : List GrammarSymbol). drop k w ≡ []) are
          (drop_all k (map (symbol_of index) symbols) (let count = length-map symbols (symbol_of index) in omega (arith, count, over)))
    ]

-- the moves so far, with those of trees that follow the symbols that are left, are all
abbrev pub Listing : Grammar → List (Option ChoiceOf) → List GrammarSymbol → List GrammarSymbol → List MoveOf → List MoveOf → Type 0
Listing g choices symbols rest before moves =
    (trees : Forest ℕ) → ForestFollows g choices trees symbols
    → (others : Forest ℕ) × ForestFollows g choices others rest × (before ++ forest_moves trees ≡ moves ++ forest_moves others)

module _ (g : Grammar) (choices : List (Option ChoiceOf)) (symbols : List GrammarSymbol) (before : List MoveOf) where
  pub listing_starts : Listing g choices symbols symbols before before
  listing_starts trees follow = (trees, follow, refl)

  -- one symbol more
  listed : (s : GrammarSymbol) (rest : List GrammarSymbol) (moves after : List MoveOf) (trees : Forest ℕ) → ForestFollows g choices trees (s ∷ rest)
      → ((tree : Tree ℕ) → Follows g choices tree s → after ≡ moves ++ moves_of tree)
      → (others : Forest ℕ) × ForestFollows g choices others rest × (moves ++ forest_moves trees ≡ after ++ forest_moves others)
  listed s rest moves after Nil follow more = absurd follow
  listed s rest moves after (Cons t ts) follow more =
      (ts, follow.1, sym (append_assoc moves (moves_of t) (forest_moves ts)) ∙ ap (λ ms. ms ++ forest_moves ts) (sym (more t follow.0)))

  pub listing_goes : (s : GrammarSymbol) (rest all : List GrammarSymbol) (moves after : List MoveOf) → all ≡ s ∷ rest
      → Listing g choices symbols all before moves → ((tree : Tree ℕ) → Follows g choices tree s → after ≡ moves ++ moves_of tree)
      → Listing g choices symbols rest before after
  listing_goes s rest all moves after is so_far more trees follow =
      let left = so_far trees follow in
      let one = listed s rest moves after left.0 (subst (ForestFollows g choices left.0) is left.1) more in
      (one.0, one.1, left.2 ∙ one.2)

  pub listing_ends : (rest : List GrammarSymbol) (moves : List MoveOf) → rest ≡ [] → Listing g choices symbols rest before moves
      → (trees : Forest ℕ) → ForestFollows g choices trees symbols → moves ≡ before ++ forest_moves trees
  listing_ends rest moves none so_far trees follow =
      let left = so_far trees follow in
      let empty = none_left g choices left.0 rest none left.1 in
      sym (append-nil moves) ∙ ap (λ ms. moves ++ ms) (sym empty) ∙ sym left.2

-- the last frame of the code was popped, and goes on
module _ {S : Type 0} (index : S → ℕ) (g : Grammar) (choices : List (Option ChoiceOf)) (old : List FrameOf) (before : List MoveOf) (frames left : List (Frame S))
    (frame : Frame S) (moves : List (Move S)) (popped : frames ≡ left ++ frame ∷ [])
    (so_far : Unfolding g choices old before (frames_of index frames) (moves_in index moves)) where
  frame_popped : Unfolding g choices old before (frame_of index frame ∷ frames_of index left) (moves_in index moves)
  frame_popped =
      subst (λ (fs : List FrameOf). Unfolding g choices old before fs (moves_in index moves)) (ap (frames_of index) popped ∙ frames_pushed index left frame) so_far

  -- its node is made
  pub popped_makes : drop frame.dot (symbols_of g (index frame.prod.0)) ≡ [] → (move : Move S) (after : List (Move S)) → move_of index move ≡ Makes (index frame.prod.0)
      → after ≡ moves ++ move ∷ [] → Unfolding g choices old before (frames_of index left) (moves_in index after)
  popped_makes none move after makes push =
      let all : moves_in index after ≡ moves_in index moves ++ Makes (index frame.prod.0) ∷ [] =
      ap (moves_in index) push ∙ moves_pushed index moves move ∙ ap (λ m. moves_in index moves ++ m ∷ []) makes in
      subst (Unfolding g choices old before (frames_of index left)) (sym all)
      (unfolding_makes g choices old before (index frame.prod.0) frame.dot (frames_of index left) (moves_in index moves) frame_popped none)

  -- its next symbol is begun, on top of the frame itself with its dot moved on
  module _ (s : GrammarSymbol) (at : drop frame.dot (symbols_of g (index frame.prod.0)) ≡ s ∷ drop (frame.dot + 1) (symbols_of g (index frame.prod.0)))
      (next : Frame S) (put new : List (Frame S)) (next_is : frame_of index next ≡ record { prod = index frame.prod.0; dot = frame.dot + 1 })
      (push : put ≡ left ++ next ∷ []) (after : List MoveOf) (derives : Bool)
      (begins : Begins g choices s (frames_of index put) (frames_of index new) (moves_in index moves) after derives) where
    begins_next : Begins g choices s (record { prod = index frame.prod.0; dot = frame.dot + 1 } ∷ frames_of index left) (frames_of index new) (moves_in index moves) after derives
    begins_next =
        subst (λ (fs : List FrameOf). Begins g choices s fs (frames_of index new) (moves_in index moves) after derives)
        (ap (frames_of index) push ∙ frames_pushed index left next ∙ ap (λ f. f ∷ frames_of index left) next_is) begins

    pub popped_goes : Unfolding g choices old before (frames_of index new) after
    popped_goes =
        unfolding_goes g choices old before (index frame.prod.0) frame.dot (frames_of index left) (moves_in index moves) frame_popped s (frames_of index new) after
        derives at begins_next

    pub popped_never : derives ≡ false → (all : List MoveOf) → Unfold g choices old all → ⊥
    popped_never =
        unfolding_never g choices old before (index frame.prod.0) frame.dot (frames_of index left) (moves_in index moves) frame_popped s (frames_of index new) after
        derives at begins_next

-- a list without length
pub nothing_in : {X : Type 0} (xs : List X) → length xs ≡ 0 → xs ≡ []
nothing_in [] none = refl
nothing_in (x ∷ xs) none = absurd (omega (arith, none))

-- what follows from an `Ok`
pub ok_more : {T E : Type 0} (r : Result T E) (P Q : Type 0) → (P → Q) → OnOk r P → OnOk r Q
ok_more (Ok x) P Q more fact = more fact
ok_more (Err e) P Q more fact = tt

-- a symbol that is begun on an empty stack, and unfolded, is a tree's moves
pub begun_alone : (g : Grammar) (choices : List (Option ChoiceOf)) (s : GrammarSymbol) (none frames : List FrameOf) (before middle after : List MoveOf) (derives : Bool)
    → none ≡ [] → Begins g choices s none frames before middle derives
    → ((moves : List MoveOf) → Unfold g choices frames moves → after ≡ middle ++ moves)
    → (tree : Tree ℕ) → Follows g choices tree s → after ≡ before ++ moves_of tree
begun_alone g choices s none frames before middle after derives is begins all tree follows =
    let one = begins tree [] follows (subst (λ (fs : List FrameOf). Unfold g choices fs []) (sym is) refl) in
    all one.1.0 one.1.1 ∙ one.1.2 ∙ ap (λ ms. before ++ ms) (append-nil (moves_of tree))

-- what follows of a value from two facts of it
pub ok_both : {T E : Type 0} (r : Result T E) (P Q R : T → Type 0) → ((x : T) → P x → Q x → R x) → IfOk r P → IfOk r Q → IfOk r R
ok_both (Ok x) P Q R more one two = more x one two
ok_both (Err e) P Q R more one two = tt
