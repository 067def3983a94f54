-- Trees whose moves are still to be made: for each frame the rest of a production's symbols, and then its node; the innermost first.
use Rattle.std.specs.Prelude.{◌≡◌, ◌<◌, ◌+◌, ℕ, All, Bool, IsTrue, List, [], ◌∷◌, ◌++◌, MatchOption, Option, drop, map, reverse, vec_len}
use Rattle.std.specs.declared.vec.Vec.{Vec}
use Rattle.lrpar_grammar_places.specs.declared.span.Symbol.{Symbol}
use Rattle.lrpar_grammar.specs.Grammar.{Grammar, GrammarSymbol, prods_len, symbols_of}
use Rattle.lrpar_grammar.specs.Symbols.{symbol_of}
use Rattle.lrpar_grammar.specs.Tree.{Tree, Forest}
use Rattle.lrpar_table_sentences.specs.Choices.{RightSoFar, ChoiceOf, Follows, ForestFollows, choices_of}
use Rattle.lrpar_table_sentences.specs.Moves.{MoveOf, Makes, forest_moves, moves_in, moves_of}
use Rattle.lrpar_table_sentences.specs.declared.moves.Move.{Move}
use Rattle.lrpar_table_sentences.specs.declared.minimal_sentences.Choice.{Choice}
use Rattle.lrpar_table_sentences.specs.declared.unfold.Frame.{Frame}

-- a production, and how many of its symbols were done
pub record FrameOf : Type 0 where
  pub prod : ℕ
  pub dot : ℕ

-- a frame as it is stored, with a number for its production
abbrev pub frame_of : {S : Type 0} → (S → ℕ) → Frame S → FrameOf
frame_of index x = record { prod = index x.prod.0; dot = x.dot }

-- the frames of a stack as it is stored, the top first; there the top is the last one
abbrev pub frames_of : {S : Type 0} → (S → ℕ) → List (Frame S) → List FrameOf
frames_of index frames = reverse (map (frame_of index) frames)

-- the frame's production is one of the grammar
abbrev pub IsFrameOf : {S : Type 0} → (S → ℕ) → Grammar → Frame S → Type 0
IsFrameOf index g x = index x.prod.0 < prods_len g

-- the production of each frame is one of the grammar
abbrev pub AreFramesOf : {S A : Type 0} → (S → ℕ) → Grammar → Vec (Frame S) A → Type 0
AreFramesOf index g frames = All (IsFrameOf index g) frames.items

-- this is the symbol after the frame's dot, if there is one
abbrev pub IsAfterDot : {S : Type 0} → (S → ℕ) → Grammar → Frame S → Option (Symbol S) → Type 0
IsAfterDot index g frame symbol =
    MatchOption symbol (drop frame.dot (symbols_of g (index frame.prod.0)) ≡ [])
    (λ x. drop frame.dot (symbols_of g (index frame.prod.0)) ≡ symbol_of index x ∷ drop (frame.dot + 1) (symbols_of g (index frame.prod.0)))

-- the moves of the frames: for each frame those of trees that follow the choices and fit the rest of its symbols, and then its
-- node
abbrev pub Unfold : Grammar → List (Option ChoiceOf) → List FrameOf → List MoveOf → Type 0
Unfold g choices [] moves = moves ≡ []
Unfold g choices (frame ∷ frames) moves =
    (trees : Forest ℕ) × (rest : List MoveOf) × ForestFollows g choices trees (drop frame.dot (symbols_of g frame.prod))
    × (moves ≡ forest_moves trees ++ Makes frame.prod ∷ rest) × Unfold g choices frames rest

-- what is left to be made once a symbol is begun: for each tree of it that follows the choices, the symbol derives something, and the
-- moves so far, with those of the new frames, are the moves before, the tree's, and those of the old frames
abbrev pub Begins : Grammar → List (Option ChoiceOf) → GrammarSymbol → List FrameOf → List FrameOf → List MoveOf → List MoveOf → Bool → Type 0
Begins g choices symbol old new before after derives =
    (tree : Tree ℕ) (rest : List MoveOf) → Follows g choices tree symbol → Unfold g choices old rest
    → IsTrue derives × ((todo : List MoveOf) × Unfold g choices new todo × (after ++ todo ≡ before ++ (moves_of tree ++ rest)))

-- what is left to be made once a symbol is begun, of frames and moves as they are stored, in each grammar
abbrev pub BeginsSymbol : {S A B : Type 0} → (S → ℕ) → List (Option (Choice S)) → Symbol S → Vec (Frame S) A → Vec (Frame S) A
    → Vec (Move S) B → Vec (Move S) B → Bool → Type 0
BeginsSymbol index choices symbol old new before after = λ derives.
    (g : Grammar) → Begins g (choices_of index choices) (symbol_of index symbol) (frames_of index old.items) (frames_of index new.items)
    (moves_in index before.items) (moves_in index after.items) derives

-- if the symbol derives something, one frame or one move is new
abbrev pub OneIsNew : {S A B : Type 0} → Vec (Frame S) A → Vec (Frame S) A → Vec (Move S) B → Vec (Move S) B → Bool → Type 0
OneIsNew old new before after = λ derives. IsTrue derives → vec_len after + vec_len new ≡ vec_len before + vec_len old + 1

-- if what the code keeps is right, frames of a grammar stay such
abbrev pub StayFrames : {S A : Type 0} → (S → ℕ) → List (Option (Choice S)) → Vec (Frame S) A → Vec (Frame S) A → Type 0
StayFrames index choices old new = (g : Grammar) → RightSoFar index g choices → AreFramesOf index g old → AreFramesOf index g new

-- the moves of the frames are appended
abbrev pub AppendsFrames : {S A B : Type 0} → (S → ℕ) → Grammar → List (Option (Choice S)) → Vec (Frame S) A → Vec (Move S) B → Vec (Move S) B → Type 0
AppendsFrames index g choices frames old new =
    (moves : List MoveOf) → Unfold g (choices_of index choices) (frames_of index frames.items) moves
    → moves_in index new.items ≡ moves_in index old.items ++ moves

-- the moves of the tree that follows the choices and fits the symbol are appended
abbrev pub AppendsTree : {S B : Type 0} → (S → ℕ) → Grammar → List (Option (Choice S)) → Symbol S → Vec (Move S) B → Vec (Move S) B → Type 0
AppendsTree index g choices symbol old new =
    (tree : Tree ℕ) → Follows g (choices_of index choices) tree (symbol_of index symbol)
    → moves_in index new.items ≡ moves_in index old.items ++ moves_of tree

-- the moves of the trees that follow the choices and fit the symbols are appended
abbrev pub AppendsTrees : {S B : Type 0} → (S → ℕ) → Grammar → List (Option (Choice S)) → List (Symbol S) → Vec (Move S) B → Vec (Move S) B → Type 0
AppendsTrees index g choices symbols old new =
    (trees : Forest ℕ) → ForestFollows g (choices_of index choices) trees (map (symbol_of index) symbols)
    → moves_in index new.items ≡ moves_in index old.items ++ forest_moves trees
