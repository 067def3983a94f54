-- A tree's moves are read from the last one back. Each entry that waits represents a tree or a node's front; the moves that are left are
-- those of these trees, and their texts before what was written are the whole.
use Rattle.std.proofs.Common.{◌≡◌, ◌<◌, ◌≤◌, ◌+◌, ◌∙◌, refl, sym, ap, subst, arith, ℕ, zero, suc, List, [], ◌∷◌, ◌++◌, codes, get_or, length, length-append, map, replicate, take}
use Rattle.std.specs.List.{All, AllByRecursion, flat_map}
use Rattle.std.proofs.lemmas.Grind.{flat_map-append}
use Rattle.std.proofs.lemmas.List.Elements.{All-push}
use Rattle.std.proofs.lemmas.List.{append-nil, append_assoc, map-append, same_from_push}
use Rattle.lrpar_grammar_places.specs.declared.span.PIdx.{PIdx}
use Rattle.lrpar_grammar.specs.Grammar.{Grammar, GrammarSymbol, IsWellFormed, Nonterminal, Terminal, prods_len, symbols_of, tokens_len}
use Rattle.lrpar_grammar.specs.Tree.{Forest, Tree, Branch, Cons, Leaf, Nil}
use Rattle.lrpar_grammar_places.proofs.ListLemmas.{all_back, all_both, all_front, map-take_more}
use Rattle.lrpar_table_sentences.specs.Moves.{MoveOf, Makes, Takes, forest_moves, move_of, moves_in, moves_of}
use Rattle.lrpar_table_sentences.specs.Texts.{AreTreesOf, IsTreeOf}
use Rattle.lrpar_table_sentences.specs.declared.moves.Move.{Move}
use Rattle.lrpar_table_sentences.specs.declared.moves.Move.TheVariants.{Make, Take}
use Rattle.lrpar_conflict_examples.specs.Fits.{AreMovesOf, IsMoveOf, IsSymbolOf}
use Rattle.lrpar_conflict_examples.specs.Words.{forest_text, front_text, tree_text, word_text}
use Rattle.lrpar_conflict_examples.specs.Pieces.{Meets, PieceFits, backward_text, piece_text}
use Rattle.lrpar_conflict_examples.specs.declared.pieces.Piece.{Piece}
use Rattle.lrpar_conflict_examples.specs.declared.pieces.Piece.TheVariants.{End, Word}
use Rattle.lrpar_conflict_examples.specs.declared.pieces.Waiting.{Waiting}
use Rattle.lrpar_conflict_examples.specs.declared.pieces.Waiting.TheVariants as waits
use Rattle.lrpar_conflict_examples.proofs.KnownLemmas.{symbols_known}

-- what an entry that waits represents: a tree, or the front of a node
pub data Represented (S : Type 0) : Type 0 where
  Grown : (tree : Tree ℕ) → Represented S
  Opened : (prod : PIdx S) → Represented S

abbrev pub erased : {S : Type 0} → Represented S → Waiting S
erased (Grown tree) = waits.Tree
erased (Opened p) = waits.Before p

abbrev pub represented_moves : {S : Type 0} → Represented S → List MoveOf
represented_moves (Grown tree) = moves_of tree
represented_moves (Opened p) = []

abbrev pub represented_text : {S : Type 0} → (S → ℕ) → Grammar → Represented S → List ℕ
represented_text index g (Grown tree) = tree_text g tree
represented_text index g (Opened p) = front_text g (index p.0)

-- it is of the grammar
abbrev pub IsRepresented : {S : Type 0} → (S → ℕ) → Grammar → Represented S → Type 0
IsRepresented index g (Grown tree) = (s : GrammarSymbol) × IsTreeOf g s tree × IsSymbolOf g s
IsRepresented index g (Opened p) = index p.0 < prods_len g

-- the entries that wait represent these
pub record Walk {S : Type 0} (index : S → ℕ) (g : Grammar) (waiting : List (Waiting S)) (rest : List MoveOf) (done whole : List ℕ) : Type 0 where
  pub represented : List (Represented S)
  pub are : map erased represented ≡ waiting
  pub each : AllByRecursion (IsRepresented index g) represented
  pub moves : rest ≡ flat_map represented_moves represented
  pub text : flat_map (represented_text index g) represented ++ done ≡ whole

-- a list whose image ends with one more element
pub record Parts {A B : Type 0} (f : A → B) (xs : List A) (ys : List B) (y : B) : Type 0 where
  pub front : List A
  pub last : A
  pub both : xs ≡ front ++ last ∷ []
  pub front_is : map f front ≡ ys
  pub last_is : f last ≡ y

parted : {A B : Type 0} (f : A → B) (xs : List A) (ys : List B) (y : B) → map f xs ≡ ys ++ y ∷ [] → Parts f xs ys y
parted {A} {B} f [] ys y e = absurd (omega (arith, ap (λ (l : List B). length l) e, length-append ys (y ∷ [])))
parted f (x ∷ []) [] y e = let same : f x ≡ y = cc in record { front = []; last = x; both = refl; front_is = refl; last_is = same }
parted {A} {B} f (x ∷ z ∷ xs) [] y e = absurd (omega (arith, ap (λ (l : List B). length l) e))
parted f (x ∷ xs) (b ∷ ys) y e =
    let first : f x ≡ b = cc in
    let rest : map f xs ≡ ys ++ y ∷ [] = cc in
    let more = parted f xs ys y rest in
    record { front = x ∷ more.front; last = more.last; both = ap (λ l. x ∷ l) more.both; front_is = ap (λ z. z ∷ map f more.front) first ∙ ap (λ l. b ∷ l) more.front_is; last_is = more.last_is }

-- one piece more, listed from right to left
pub backward_more : {S : Type 0} (index : S → ℕ) (g : Grammar) (pieces : List (Piece S)) (x : Piece S)
    → backward_text index g (pieces ++ x ∷ []) ≡ piece_text index g x ++ backward_text index g pieces
backward_more index g [] x = sym (append-nil (piece_text index g x))
backward_more index g (y ∷ pieces) x =
    ap (λ t. t ++ piece_text index g y) (backward_more index g pieces x)
    ∙ append_assoc (piece_text index g x) (backward_text index g pieces) (piece_text index g y)

-- the trees of a list of trees
abbrev pub grown : {S : Type 0} → Forest ℕ → List (Represented S)
grown Nil = []
grown (Cons t ts) = Grown t ∷ grown ts

grown_moves : (S : Type 0) (trees : Forest ℕ) → flat_map (represented_moves {S = S}) (grown trees) ≡ forest_moves trees
grown_moves S Nil = refl
grown_moves S (Cons t ts) = ap (λ ms. moves_of t ++ ms) (grown_moves S ts)

grown_text : {S : Type 0} (index : S → ℕ) (g : Grammar) (trees : Forest ℕ) → flat_map (represented_text index g) (grown trees) ≡ forest_text g trees
grown_text index g Nil = refl
grown_text index g (Cons t ts) = ap (λ text. tree_text g t ++ text) (grown_text index g ts)

grown_erased : (S : Type 0) (g : Grammar) (trees : Forest ℕ) (symbols : List GrammarSymbol) → AreTreesOf g symbols trees
    → map (erased {S = S}) (grown trees) ≡ replicate (length symbols) waits.Tree
grown_erased S g Nil [] fit = refl
grown_erased S g Nil (s ∷ ss) fit = absurd fit
grown_erased S g (Cons t ts) [] fit = absurd fit
grown_erased S g (Cons t ts) (s ∷ ss) fit = ap (λ l. waits.Tree ∷ l) (grown_erased S g ts ss fit.1)

grown_represented : {S : Type 0} (index : S → ℕ) (g : Grammar) (trees : Forest ℕ) (symbols : List GrammarSymbol) → AreTreesOf g symbols trees
    → AllByRecursion (IsSymbolOf g) symbols → AllByRecursion (IsRepresented index g) (grown trees)
grown_represented index g Nil symbols fit known = tt
grown_represented index g (Cons t ts) [] fit known = absurd fit
grown_represented index g (Cons t ts) (s ∷ ss) fit known = ((s, fit.0, known.0), grown_represented index g ts ss fit.1 known.1)

-- a tree has moves
moves_some : (tree : Tree ℕ) → 0 < length (moves_of tree)
moves_some (Leaf t) = omega arith
moves_some (Branch p children) = let more = length-append (forest_moves children) (Makes p ∷ []) in omega (arith, more)

module _ {S : Type 0} (index : S → ℕ) (g : Grammar) where
  -- at first the tree waits
  pub walk_begins : (moves : List MoveOf) (tree : Tree ℕ) → IsWellFormed g → AreMovesOf g moves tree
      → Walk {S = S} index g (waits.Tree ∷ []) moves [] (tree_text g tree)
  walk_begins moves tree well of_tree = record {
    represented = Grown tree ∷ [];
    are = refl;
    each = ((Nonterminal g.start, of_tree.fits, well.start_within), tt);
    moves = of_tree.are ∙ sym (append-nil (moves_of tree));
    text = append-nil (tree_text g tree ++ []) ∙ append-nil (tree_text g tree);
  }

  -- nothing waits in the end
  pub walk_ends : (waiting : List (Waiting S)) (rest : List MoveOf) (done whole : List ℕ) → waiting ≡ [] → Walk index g waiting rest done whole → done ≡ whole
  walk_ends waiting rest done whole none walk =
      elim walk.represented as (λ (l : List (Represented S)). map erased l ≡ [] → flat_map (represented_text index g) l ++ done ≡ whole → done ≡ whole) [
        | [] ↦ λ are text. text
        | x ∷ xs ↦ λ are text. absurd (cc)
      ] (walk.are ∙ none) walk.text

  module _ (waiting left : List (Waiting S)) (rest : List MoveOf) (done whole : List ℕ) (walk : Walk index g waiting rest done whole) where
    -- a node's front comes next
    pub walk_opens : (p : PIdx S) → waiting ≡ left ++ waits.Before p ∷ [] → (index p.0 < prods_len g) × Walk index g left rest (front_text g (index p.0) ++ done) whole
    walk_opens p is =
        let parts = parted erased walk.represented left (waits.Before p) (walk.are ∙ is) in
        elim parts.last as (λ (l : Represented S). walk.represented ≡ parts.front ++ l ∷ [] → erased l ≡ waits.Before p
        → (index p.0 < prods_len g) × Walk index g left rest (front_text g (index p.0) ++ done) whole) [
          | Grown tree ↦ λ both last. absurd (cc)
          | Opened q ↦ λ both last.
              let same : q ≡ p = cc in
              let own : walk.represented ≡ parts.front ++ Opened p ∷ [] = both ∙ ap (λ o. parts.front ++ Opened o ∷ []) same in
              let each = subst (AllByRecursion (IsRepresented index g)) own walk.each in
              let texts = ap (λ l. flat_map (represented_text index g) l ++ done) own in
              let apart = flat_map-append (represented_text index g) parts.front (Opened p ∷ []) in (
                (all_back (IsRepresented index g) parts.front (Opened p ∷ []) each).0,
                record {
                  represented = parts.front;
                  are = parts.front_is;
                  each = all_front (IsRepresented index g) parts.front (Opened p ∷ []) each;
                  moves =
                      walk.moves ∙ ap (flat_map represented_moves) own ∙ flat_map-append represented_moves parts.front (Opened p ∷ [])
                      ∙ append-nil (flat_map represented_moves parts.front);
                  text =
                      sym (append_assoc (flat_map (represented_text index g) parts.front) (front_text g (index p.0)) done)
                      ∙ ap (λ t. (flat_map (represented_text index g) parts.front ++ t) ++ done) (sym (append-nil (front_text g (index p.0))))
                      ∙ ap (λ t. t ++ done) (sym apart) ∙ sym texts ∙ walk.text;
                },
              )
        ] parts.both parts.last_is

    -- a tree comes next
    pub record HasLast : Type 0 where
      pub front : List (Represented S)
      pub tree : Tree ℕ
      pub are : map erased front ≡ left
      pub each : AllByRecursion (IsRepresented index g) front
      pub own : IsRepresented index g (Grown tree)
      pub moves : rest ≡ flat_map represented_moves front ++ moves_of tree
      pub text : (flat_map (represented_text index g) front ++ tree_text g tree) ++ done ≡ whole

    pub walk_last : waiting ≡ left ++ waits.Tree ∷ [] → HasLast
    walk_last is =
        let parts = parted erased walk.represented left waits.Tree (walk.are ∙ is) in
        elim parts.last as (λ (l : Represented S). walk.represented ≡ parts.front ++ l ∷ [] → erased l ≡ waits.Tree → HasLast) [
          | Opened q ↦ λ both last. absurd (cc)
          | Grown tree ↦ λ both last.
              let each = subst (AllByRecursion (IsRepresented index g)) both walk.each in
              record {
                front = parts.front;
                tree = tree;
                are = parts.front_is;
                each = all_front (IsRepresented index g) parts.front (Grown tree ∷ []) each;
                own = (all_back (IsRepresented index g) parts.front (Grown tree ∷ []) each).0;
                moves =
                    walk.moves ∙ ap (flat_map represented_moves) both ∙ flat_map-append represented_moves parts.front (Grown tree ∷ [])
                    ∙ ap (λ ms. flat_map represented_moves parts.front ++ ms) (append-nil (moves_of tree));
                text =
                    ap (λ t. (flat_map (represented_text index g) parts.front ++ t) ++ done) (sym (append-nil (tree_text g tree)))
                    ∙ ap (λ t. t ++ done) (sym (flat_map-append (represented_text index g) parts.front (Grown tree ∷ [])))
                    ∙ ap (λ l. flat_map (represented_text index g) l ++ done) (sym both) ∙ walk.text;
              }
        ] parts.both parts.last_is

    -- so some move is left
    pub walk_some : waiting ≡ left ++ waits.Tree ∷ [] → 0 < length rest
    walk_some is =
        let has = walk_last is in
        let own = moves_some has.tree in
        let all = ap (λ (l : List MoveOf). length l) has.moves in
        let both = length-append (flat_map represented_moves has.front) (moves_of has.tree) in
        omega (arith, own, all, both)

-- a leaf's token, and the parts of a node
leaf_known : (g : Grammar) (x : ℕ) (s : GrammarSymbol) → IsTreeOf g s (Leaf x) → IsSymbolOf g s → x < tokens_len g
leaf_known g x (Terminal t) fits known = subst (λ n. n < tokens_len g) (sym fits) known
leaf_known g x (Nonterminal r) fits known = absurd fits

node_parts : (g : Grammar) (q : ℕ) (children : Forest ℕ) (s : GrammarSymbol) → IsTreeOf g s (Branch q children)
    → (q < prods_len g) × AreTreesOf g (symbols_of g q) children
node_parts g q children (Terminal t) fits = absurd fits
node_parts g q children (Nonterminal r) fits = (fits.0, fits.2)

-- the seams of five texts
seams : (a b c d e : List ℕ) → ((a ++ b) ++ c) ++ (d ++ e) ≡ (a ++ (b ++ (c ++ d))) ++ e
seams a b c d e = sym (append_assoc ((a ++ b) ++ c) d e) ∙ ap (λ l. l ++ e) (append_assoc (a ++ b) c d ∙ append_assoc a b (c ++ d))

module _ {S : Type 0} (index : S → ℕ) (g : Grammar) (well : IsWellFormed g) (left new : List (Waiting S)) (before : List MoveOf) (old pieces : List (Piece S))
    (whole : List ℕ) (front : List (Represented S)) (are : map erased front ≡ left) (each : AllByRecursion (IsRepresented index g) front) where
  -- a tree is taken up after these
  met : (tree : Tree ℕ) (m : Move S) → IsRepresented index g (Grown tree)
      → flat_map represented_moves front ++ moves_of tree ≡ before ++ move_of index m ∷ []
      → (flat_map (represented_text index g) front ++ tree_text g tree) ++ backward_text index g old ≡ whole
      → IsMoveOf g (move_of index m) × (Meets index g m old pieces left new → Walk index g new before (backward_text index g pieces) whole)
  met (Leaf x) (Take t) own moves text =
      let first = flat_map (represented_text index g) front in
      let same = same_from_push (flat_map represented_moves front) before (Takes x) (Takes (index t.0)) moves in
      let token : x ≡ index t.0 = let last = same.1 in cc in (
        subst (λ n. n < tokens_len g) token (leaf_known g x own.0 own.1 own.2),
        λ meets. record {
          represented = front;
          are = are ∙ sym meets.1;
          each = each;
          moves = sym same.0;
          text =
              ap (λ b. first ++ b) (ap (backward_text index g) meets.0 ∙ backward_more index g old (Word t))
              ∙ sym (append_assoc first (word_text g (index t.0)) (backward_text index g old))
              ∙ ap (λ n. (first ++ word_text g n) ++ backward_text index g old) (sym token) ∙ text;
        },
      )
  met (Leaf x) (Make p) own moves text =
      let same = same_from_push (flat_map represented_moves front) before (Takes x) (Makes (index p.0)) moves in
      let last = same.1 in
      absurd (cc)
  met (Branch q children) (Take t) own moves text =
      let first = flat_map represented_moves front in
      let same = same_from_push (first ++ forest_moves children) before (Makes q) (Takes (index t.0)) (append_assoc first (forest_moves children) (Makes q ∷ []) ∙ moves) in
      let last = same.1 in
      absurd (cc)
  met (Branch q children) (Make p) own moves text =
      let P = IsRepresented index g in
      let n = index p.0 in
      let first = flat_map represented_moves front in
      let texts = flat_map (represented_text index g) front in
      let same = same_from_push (first ++ forest_moves children) before (Makes q) (Makes n) (append_assoc first (forest_moves children) (Makes q ∷ []) ∙ moves) in
      let prod : q ≡ n = let last = same.1 in cc in
      let parts = node_parts g q children own.0 own.1 in
      let known = subst (λ m. m < prods_len g) prod parts.0 in
      let fit = subst (λ m. AreTreesOf g (symbols_of g m) children) prod parts.1 in
      let opened = front ++ Opened p ∷ [] in
      let trees : List (Represented S) = grown children in (
        known,
        λ meets. record {
          represented = opened ++ trees;
          are =
              map-append erased opened trees
              ∙ ap (λ l. l ++ map erased trees) (map-append erased front (Opened p ∷ []) ∙ ap (λ l. l ++ waits.Before p ∷ []) are)
              ∙ ap (λ l. (left ++ waits.Before p ∷ []) ++ l) (grown_erased S g children (symbols_of g n) fit) ∙ sym meets.1;
          each = all_both P opened trees (all_both P front (Opened p ∷ []) each (known, tt)) (grown_represented index g children (symbols_of g n) fit (symbols_known g well n known));
          moves =
              sym same.0 ∙ ap (λ ms. ms ++ forest_moves children) (sym (append-nil first))
              ∙ ap (λ ms. (first ++ []) ++ ms) (sym (grown_moves S children))
              ∙ ap (λ ms. ms ++ flat_map represented_moves trees) (sym (flat_map-append represented_moves front (Opened p ∷ [])))
              ∙ sym (flat_map-append represented_moves opened trees);
          text =
              ap (λ t. t ++ backward_text index g pieces)
              (flat_map-append (represented_text index g) opened trees
              ∙ ap (λ t. t ++ flat_map (represented_text index g) trees)
              (flat_map-append (represented_text index g) front (Opened p ∷ []) ∙ ap (λ t. texts ++ t) (append-nil (front_text g n)))
              ∙ ap (λ t. (texts ++ front_text g n) ++ t) (grown_text index g children))
              ∙ ap (λ b. ((texts ++ front_text g n) ++ forest_text g children) ++ b) (ap (backward_text index g) meets.0 ∙ backward_more index g old End)
              ∙ seams texts (front_text g n) (forest_text g children) (codes " ]") (backward_text index g old)
              ∙ ap (λ m. (texts ++ (front_text g m ++ (forest_text g children ++ codes " ]"))) ++ backward_text index g old) (sym prod) ∙ text;
        },
      )

module _ {S : Type 0} (index : S → ℕ) (g : Grammar) (well : IsWellFormed g) (waiting left : List (Waiting S)) (rest before : List MoveOf) (old : List (Piece S))
    (whole : List ℕ) (m : Move S) (walk : Walk index g waiting rest (backward_text index g old) whole) (is : waiting ≡ left ++ waits.Tree ∷ [])
    (last : rest ≡ before ++ move_of index m ∷ []) where
  -- the last move is one of the grammar, and if the tree that ends by it is taken up, what then waits represents the rest
  pub walk_meets : IsMoveOf g (move_of index m)
      × ((new : List (Waiting S)) (pieces : List (Piece S)) → Meets index g m old pieces left new → Walk index g new before (backward_text index g pieces) whole)
  walk_meets =
      let has = walk_last index g waiting left rest (backward_text index g old) whole walk is in
      let one = λ (new : List (Waiting S)) (pieces : List (Piece S)).
      met index g well left new before old pieces whole has.front has.are has.each has.tree m has.own (sym has.moves ∙ last) has.text in (
        (one left old).0,
        λ new pieces. (one new pieces).1,
      )

-- what is taken up is of the grammar
pub meets_fit : {S : Type 0} (index : S → ℕ) (g : Grammar) (m : Move S) (old new : List (Piece S)) (waits waiting : List (Waiting S)) → IsMoveOf g (move_of index m)
    → Meets index g m old new waits waiting → All (PieceFits index g) old → All (PieceFits index g) new
meets_fit index g (Take t) old new waits waiting known meets all =
    subst (All (PieceFits index g)) (sym meets.0) (All-push (PieceFits index g) old (Word t) all known)
meets_fit index g (Make p) old new waits waiting known meets all =
    subst (All (PieceFits index g)) (sym meets.0) (All-push (PieceFits index g) old End all tt)

-- the moves that are left end by this one
last_move : {S : Type 0} (index : S → ℕ) (moves : List (Move S)) (left i : ℕ) (m : Move S) → left ≡ i + 1 → i < length moves → m ≡ get_or moves i m
    → moves_in index (take left moves) ≡ moves_in index (take i moves) ++ move_of index m ∷ []
last_move index moves left i m one low is = ap (λ n. moves_in index (take n moves)) one ∙ map-take_more (move_of index) moves i m low is

left_some : {S : Type 0} (index : S → ℕ) (moves : List (Move S)) (left : ℕ) → 0 < length (moves_in index (take left moves)) → 1 ≤ left
left_some index [] zero some = absurd (omega (arith, some))
left_some index (x ∷ moves) zero some = absurd (omega (arith, some))
left_some index moves (suc left) some = omega arith

-- if a tree waits there is a move left, and the last one takes the tree up
pub walk_left : {S : Type 0} (index : S → ℕ) (g : Grammar) (waiting w : List (Waiting S)) (moves : List (Move S)) (left : ℕ) (done whole : List ℕ)
    → Walk index g waiting (moves_in index (take left moves)) done whole → waiting ≡ w ++ waits.Tree ∷ [] → 1 ≤ left
walk_left index g waiting w moves left done whole walk is =
    left_some index moves left (walk_some index g waiting w (moves_in index (take left moves)) done whole walk is)

pub walk_next : {S : Type 0} (index : S → ℕ) (g : Grammar) → IsWellFormed g → (waiting w : List (Waiting S)) (moves : List (Move S)) (left i : ℕ) (old : List (Piece S))
    (whole : List ℕ) (m : Move S) → Walk index g waiting (moves_in index (take left moves)) (backward_text index g old) whole → waiting ≡ w ++ waits.Tree ∷ []
    → left ≡ i + 1 → i < length moves → m ≡ get_or moves i m
    → IsMoveOf g (move_of index m)
    × ((new : List (Waiting S)) (pieces : List (Piece S)) → Meets index g m old pieces w new
    → Walk index g new (moves_in index (take i moves)) (backward_text index g pieces) whole)
walk_next index g well waiting w moves left i old whole m walk is one low at =
    walk_meets index g well waiting w (moves_in index (take left moves)) (moves_in index (take i moves)) old whole m walk is (last_move index moves left i m one low at)
