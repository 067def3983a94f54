-- What follows if the derivations that the search found pass the tests.
use Rattle.std.proofs.Common.{◌≡◌, ◌<◌, ◌+◌, ◌∙◌, sym, ap, subst, inl, arith, ℕ, List, [], ◌∷◌, ◌++◌, drop, get_or, length, take}
use Rattle.std.proofs.lemmas.List.{drop_more, map-append, take-append-drop}
use Rattle.lrpar_grammar.specs.Grammar.{Grammar}
use Rattle.lrpar_grammar.specs.Symbols.{symbol_of}
use Rattle.lrpar_grammar.specs.Tree.{forest_leaves, leaves}
use Rattle.lrpar_table_rows.specs.Safe.{GoesBy}
use Rattle.lrpar_table_rows.specs.Table.{Table}
use Rattle.lrpar_grammar_places.proofs.ListLemmas.{map-take_more}
use Rattle.lrpar_table_sentences.specs.Moves.{Makes, MoveOf, Takes, forest_moves, move_of, moves_in}
use Rattle.lrpar_table_sentences.specs.AccessStrings.{StepOf, StepsLead, steps_of}
use Rattle.lrpar_table_sentences.specs.declared.transitions.Step.{Step}
use Rattle.lrpar_table_sentences.specs.declared.moves.Move.{Move}
use Rattle.lrpar_conflict_derivations.specs.Derivation.{Derives}
use Rattle.lrpar_conflict_derivations.specs.Replay.{AreOfTree}
use Rattle.lrpar_conflict_derivations.specs.Texts.{BeginsBy, ShiftsFirst, tokens_in}
use Rattle.lrpar_conflict_derivations.proofs.TextLemmas.{shifts-append, tokens_of_tree, tokens_of_trees}

-- the first move
pub first_move : {S : Type 0} (index : S → ℕ) (moves : List (Move S)) (first : Move S) (next : MoveOf) → 0 < length moves → first ≡ get_or moves 0 first
    → move_of index first ≡ next → BeginsBy next (moves_in index moves)
first_move index [] first next low is same = absurd (omega arith)
first_move index (x ∷ xs) first next low is same = (moves_in index xs, ap (λ y. move_of index y ∷ moves_in index xs) (sym is) ∙ ap (λ m. m ∷ moves_in index xs) same)

-- the first token
pub first_token : {S : Type 0} (index : S → ℕ) (moves : List (Move S)) (i : ℕ) (step : Move S) (t : ℕ) → i < length moves → step ≡ get_or moves i step
    → tokens_in (moves_in index (take i moves)) ≡ [] → move_of index step ≡ Takes t → ShiftsFirst t (moves_in index moves)
first_token index moves i step t low is none shifts =
    let rest = tokens_in (moves_in index (drop (i + 1) moves)) in
    let after : drop i moves ≡ step ∷ drop (i + 1) moves = drop_more moves i step low ∙ ap (λ x. x ∷ drop (i + 1) moves) (sym is) in
    let parts : moves_in index moves ≡ moves_in index (take i moves) ++ (move_of index step ∷ moves_in index (drop (i + 1) moves)) =
    ap (moves_in index) (sym (take-append-drop i moves)) ∙ map-append (move_of index) (take i moves) (drop i moves)
    ∙ ap (λ xs. moves_in index (take i moves) ++ moves_in index xs) after in
    let all : tokens_in (moves_in index moves) ≡ tokens_in (move_of index step ∷ moves_in index (drop (i + 1) moves)) =
    ap tokens_in parts ∙ shifts-append (moves_in index (take i moves)) (move_of index step ∷ moves_in index (drop (i + 1) moves))
    ∙ ap (λ xs. xs ++ tokens_in (move_of index step ∷ moves_in index (drop (i + 1) moves))) none in
    (rest, all ∙ ap (λ m. tokens_in (m ∷ moves_in index (drop (i + 1) moves))) shifts)

-- a reduction shifts no token
pub no_token : {S : Type 0} (index : S → ℕ) (moves : List (Move S)) (i : ℕ) (step : Move S) (p : ℕ) → i < length moves → step ≡ get_or moves i step
    → tokens_in (moves_in index (take i moves)) ≡ [] → move_of index step ≡ Makes p → tokens_in (moves_in index (take (i + 1) moves)) ≡ []
no_token index moves i step p low is none reduces =
    ap tokens_in (map-take_more (move_of index) moves i step low is) ∙ shifts-append (moves_in index (take i moves)) (move_of index step ∷ [])
    ∙ ap (λ xs. xs ++ tokens_in (move_of index step ∷ [])) none ∙ ap (λ m. tokens_in (m ∷ [])) reduces

-- a derivation that continues the first moves
pub validated_derives : (g : Grammar) (steps : List StepOf) (token : ℕ) (front rest all : List MoveOf) (next : MoveOf) → all ≡ front ++ rest → BeginsBy next rest
    → ShiftsFirst token rest → AreOfTree g all → Derives g steps token front next all
validated_derives g steps token front rest all next joined begins shifts tree trees fit are =
    let text : leaves tree.0 ≡ forest_leaves trees ++ tokens_in rest =
    sym (tokens_of_tree tree.0) ∙ ap tokens_in (sym tree.2) ∙ ap tokens_in joined ∙ shifts-append front rest
    ∙ ap (λ ms. tokens_in ms ++ tokens_in rest) are ∙ ap (λ xs. xs ++ tokens_in rest) (tokens_of_trees trees) in (
      tree.0,
      record {
        fits = tree.1;
        moves_are = tree.2;
        later = begins.0;
        comes = joined ∙ ap (λ ms. ms ++ rest) are ∙ ap (λ ms. forest_moves trees ++ ms) begins.1;
        rest = tokens_in rest;
        text = text;
        ahead = inl shifts;
      },
    )

-- one step more
pub lead_more : {S : Type 0} (index : S → ℕ) (table : Table) (state next last : ℕ) (step : Step S) (rest others : List (Step S)) (All : Type 0)
    → rest ≡ step ∷ others → index step.from.0 ≡ state → GoesBy table state (symbol_of index step.symbol) next
    → (StepsLead table state (steps_of index rest) last → All) → StepsLead table next (steps_of index others) last → All
lead_more {S} index table state next last step rest others All parted from goes so_far more =
    so_far (subst (λ (xs : List (Step S)). StepsLead table state (steps_of index xs) last) (sym parted) (from, (next, goes, more)))

-- no step more
pub lead_none : {S : Type 0} (index : S → ℕ) (table : Table) (state last : ℕ) (rest : List (Step S)) (All : Type 0) → length rest ≡ 0 → state ≡ last
    → (StepsLead table state (steps_of index rest) last → All) → All
lead_none index table state last [] All none same so_far = so_far same
lead_none index table state last (x ∷ rest) All none same so_far = absurd (omega (arith, none))
