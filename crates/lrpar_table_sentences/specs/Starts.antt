-- How rules can begin with a token: of each that can, a production and the place in it at which the token comes.
use Rattle.std.specs.Prelude.{◌≡◌, ◌<◌, ◌==◌, ◌+◌, ℕ, zero, suc, Bool, false, if◌then◌else◌, List, [], ◌∷◌, ◌++◌, Option, Some, None, count_by, drop, length, map, option_map, slice_index_or, take}
use Rattle.std.specs.Borrow.{Bor}
use Rattle.std.specs.Option.{is_none, is_some}
use Rattle.std.specs.declared.vec.Vec.{Vec}
use Rattle.std.below.core.specs.declared.int.usize.TheConstants.{MAX}
use Rattle.lrpar_grammar_places.specs.declared.span.PIdx.{PIdx}
use Rattle.lrpar_grammar_places.specs.declared.span.Symbol.{Symbol}
use Rattle.lrpar_grammar_places.specs.declared.span.TIdx.{TIdx}
use Rattle.lrpar_grammar.specs.Grammar.{Grammar, GrammarSymbol, Nonterminal, Terminal, prods_len, rule_of, rules_len, symbols_of}
use Rattle.lrpar_grammar.specs.Symbols.{symbol_of}
use Rattle.lrpar_grammar.specs.Tree.{Tree, Forest, Leaf, Branch, Nil, Cons}
use Rattle.lrpar_table_sentences.specs.Choices.{RightSoFar, ChoiceOf, Follows, ForestFollows, choices_of}
use Rattle.lrpar_table_sentences.specs.Frames.{FrameOf, Unfold, frames_of}
use Rattle.lrpar_table_sentences.specs.Lens.{len_at, sum_of_lens}
use Rattle.lrpar_table_sentences.specs.Moves.{MoveOf, forest_moves, moves_in, moves_of}
use Rattle.lrpar_table_sentences.specs.Texts.{width}
use Rattle.lrpar_table_sentences.specs.declared.begins.Start.{Start}
use Rattle.lrpar_table_sentences.specs.declared.moves.Move.{Move}
use Rattle.lrpar_table_sentences.specs.declared.minimal_sentences.Choice.{Choice}
use Rattle.lrpar_table_sentences.specs.declared.unfold.Frame.{Frame}

-- a production, and a place in it
pub record StartOf : Type 0 where
  pub prod : ℕ
  pub place : ℕ

-- starts as they are stored, with numbers for their productions
abbrev pub start_of : {S : Type 0} → (S → ℕ) → Start S → StartOf
start_of index x = record { prod = index x.prod.0; place = x.place }

abbrev pub starts_of : {S : Type 0} → (S → ℕ) → List (Option (Start S)) → List (Option StartOf)
starts_of index starts = map (option_map (start_of index)) starts

-- how rule r can begin with the token; out of range, none
abbrev pub start_at : List (Option StartOf) → ℕ → Option StartOf
start_at starts r = slice_index_or starts r None

-- how a symbol can begin with the token, if it is a rule; a token has no such start
abbrev pub start_by : List (Option StartOf) → GrammarSymbol → Option StartOf
start_by starts (Terminal t) = None
start_by starts (Nonterminal r) = start_at starts r

-- the place, if the symbols have a length
abbrev pub index_if : Option ℕ → Option ℕ → Option ℕ
index_if (Some len) place = place
index_if None place = None

-- one place further
abbrev pub further : Option ℕ → Option ℕ
further place = option_map (λ n. n + 1) place

-- whether it is zero
abbrev pub is_zero : Option ℕ → Bool
is_zero (Some n) = n == 0
is_zero None = false

-- whether a symbol is the token, or a rule that can begin with it
abbrev pub begins : List (Option StartOf) → ℕ → GrammarSymbol → Bool
begins starts first (Terminal t) = t == first
begins starts first (Nonterminal r) = is_some (start_at starts r)

-- the first place in symbols that can begin with the token, if the symbols before it are nullable
abbrev pub begin_index : List (Option ChoiceOf) → List (Option StartOf) → ℕ → List GrammarSymbol → Option ℕ
begin_index choices starts first [] = None
begin_index choices starts first (s ∷ ss) =
    if begins starts first s then Some 0 else (if is_zero (len_at choices s) then further (begin_index choices starts first ss) else None)

-- a tree of the symbol that begins with the token by the starts; the trees before and after it follow the choices, and those
-- before it have no tokens
abbrev mutual
  pub Starts : Grammar → List (Option ChoiceOf) → List (Option StartOf) → ℕ → Tree ℕ → GrammarSymbol → Type 0
  Starts g choices starts first (Leaf x) (Terminal t) = (x ≡ t) × (t ≡ first)
  Starts g choices starts first (Leaf x) (Nonterminal r) = ⊥
  Starts g choices starts first (Branch p children) (Nonterminal r) =
      (place : ℕ) × (start_at starts r ≡ Some (record { prod = p; place = place })) × ForestStarts g choices starts first place children (symbols_of g p)
  Starts g choices starts first (Branch p children) (Terminal t) = ⊥

  pub ForestStarts : Grammar → List (Option ChoiceOf) → List (Option StartOf) → ℕ → ℕ → Forest ℕ → List GrammarSymbol → Type 0
  ForestStarts g choices starts first place Nil ss = ⊥
  ForestStarts g choices starts first place (Cons t ts) [] = ⊥
  ForestStarts g choices starts first zero (Cons t ts) (s ∷ ss) = Starts g choices starts first t s × ForestFollows g choices ts ss
  ForestStarts g choices starts first (suc place) (Cons t ts) (s ∷ ss) =
      Follows g choices t s × (width t ≡ 0) × ForestStarts g choices starts first place ts ss

-- the starts are right as far as they go: each is a production of its rule and a place in it, and some tree of the rule begins with the
-- token by it
pub record AreStarts (g : Grammar) (choices : List (Option ChoiceOf)) (first : ℕ) (starts : List (Option StartOf)) : Type 0 where
  pub rules : length starts ≡ rules_len g
  pub within : (r : ℕ) (x : StartOf) → start_at starts r ≡ Some x
      → (x.prod < prods_len g) × (x.place < length (symbols_of g x.prod)) × (rule_of g x.prod ≡ r)
  pub trees : (r : ℕ) (x : StartOf) → start_at starts r ≡ Some x → (tree : Tree ℕ) × Starts g choices starts first tree (Nonterminal r)

-- if production p has a length and a place, its rule can begin
abbrev pub CanStart : Grammar → ℕ → List (Option ChoiceOf) → ℕ → List (Option StartOf) → ℕ → Type 0
CanStart g most choices first starts p =
    (len place : ℕ) → sum_of_lens most choices (symbols_of g p) ≡ Some len → begin_index choices starts first (symbols_of g p) ≡ Some place
    → (x : StartOf) × (start_at starts (rule_of g p) ≡ Some x)

-- what the code keeps of rules is right, and so is how they can begin with the token
pub record AreRightStarts {S : Type 0} (index : S → ℕ) (g : Grammar) (choices : List (Option (Choice S))) (first : TIdx S) (stored : List (Option (Start S))) : Type 0 where
  pub right : RightSoFar index g choices
  pub starts : AreStarts g (choices_of index choices) (index first.0) (starts_of index stored)

-- if a production has a length and a place, its rule can begin
abbrev pub CanStartBy : {S : Type 0} → (S → ℕ) → Grammar → List (Option (Choice S)) → TIdx S → List (Option (Start S)) → PIdx S → Type 0
CanStartBy index g choices first starts prod = CanStart g MAX (choices_of index choices) (index first.0) (starts_of index starts) (index prod.0)

-- if a production has a length and a place, its rule can begin: this holds for each production
abbrev pub AreAllStarts : {S : Type 0} → (S → ℕ) → Grammar → List (Option (Choice S)) → TIdx S → List (Option (Start S)) → Type 0
AreAllStarts index g choices first starts = (p : ℕ) → p < prods_len g → CanStart g MAX (choices_of index choices) (index first.0) (starts_of index starts) p

-- this is how a symbol can begin, if it is a rule that can begin with the token
abbrev pub IsStartFor : {S : Type 0} → (S → ℕ) → List (Option (Start S)) → Symbol S → Option (Start S) → Type 0
IsStartFor index starts symbol found = option_map (start_of index) found ≡ start_by (starts_of index starts) (symbol_of index symbol)

-- whether a symbol of the code is the token, or a rule that can begin with it
abbrev pub begins_with : {S : Type 0} → (S → ℕ) → List (Option (Start S)) → TIdx S → Symbol S → Bool
begins_with index starts first symbol = begins (starts_of index starts) (index first.0) (symbol_of index symbol)

-- the first place in symbols of the code that can begin with the token, if the symbols before it are nullable
abbrev pub begin_index_in : {S : Type 0} → (S → ℕ) → List (Option (Choice S)) → List (Option (Start S)) → TIdx S → List (Symbol S) → Option ℕ
begin_index_in index choices starts first symbols =
    begin_index (choices_of index choices) (starts_of index starts) (index first.0) (map (symbol_of index) symbols)

-- the first place in a production that can begin with the token, if its symbols are productive
abbrev pub begin_index_of_prod : {S : Type 0} → (S → ℕ) → Grammar → List (Option (Choice S)) → List (Option (Start S)) → TIdx S → PIdx S → Option ℕ
begin_index_of_prod index g choices starts first prod =
    index_if (sum_of_lens MAX (choices_of index choices) (symbols_of g (index prod.0)))
    (begin_index (choices_of index choices) (starts_of index starts) (index first.0) (symbols_of g (index prod.0)))

-- how many rules can't begin yet
abbrev pub starts_open : List (Option StartOf) → ℕ
starts_open starts = count_by is_none starts

-- what is left to be made once a tree is begun, down to its first token
abbrev pub Descends : Grammar → List (Option ChoiceOf) → List (Option StartOf) → ℕ → GrammarSymbol → List FrameOf → List FrameOf → List MoveOf → List MoveOf → Type 0
Descends g choices starts first s old new before after =
    (tree : Tree ℕ) (rest : List MoveOf) → Starts g choices starts first tree s → Unfold g choices old rest
    → (todo : List MoveOf) × Unfold g choices new todo × (after ++ todo ≡ before ++ (moves_of tree ++ rest))

-- the symbols before the place, the symbol there, and those after it
abbrev pub ArePartsAt : {S : Type 0} → ℕ → List (Symbol S) → Bor (List (Symbol S)) × Symbol S × Bor (List (Symbol S)) → Type 0
ArePartsAt place symbols = λ parts. (parts.0.now ≡ take place symbols) × (drop place symbols ≡ parts.1 ∷ parts.2.now)

-- more rules can begin than before
abbrev pub HasMoreStarts : {S : Type 0} → (S → ℕ) → List (Option (Start S)) → List (Option (Start S)) → Type 0
HasMoreStarts index old new = starts_open (starts_of index new) < starts_open (starts_of index old)

-- the moves of a tree of the symbol that begins with the token by the starts are appended
abbrev pub AppendsStart : {S B : Type 0} → (S → ℕ) → Grammar → List (Option (Choice S)) → List (Option (Start S)) → TIdx S → Symbol S
    → Vec (Move S) B → Vec (Move S) B → Type 0
AppendsStart index g choices starts first symbol old new =
    (tree : Tree ℕ) → Starts g (choices_of index choices) (starts_of index starts) (index first.0) tree (symbol_of index symbol)
    → moves_in index new.items ≡ moves_in index old.items ++ moves_of tree

-- the moves of trees of the symbols that begin with the token are appended, if there is a place in them at which the token can come
abbrev pub AppendsStarts : {S B : Type 0} → (S → ℕ) → Grammar → List (Option (Choice S)) → List (Option (Start S)) → TIdx S → List (Symbol S)
    → Vec (Move S) B → Vec (Move S) B → Type 0
AppendsStarts index g choices starts first symbols old new =
    (k : ℕ) (trees : Forest ℕ) → begin_index_in index choices starts first symbols ≡ Some k
    → ForestStarts g (choices_of index choices) (starts_of index starts) (index first.0) k trees (map (symbol_of index) symbols)
    → moves_in index new.items ≡ moves_in index old.items ++ forest_moves trees

-- what is left of a tree, once its moves down to the first token are appended, is put into the frames
abbrev pub DescendsTo : {S A B : Type 0} → (S → ℕ) → Grammar → List (Option (Choice S)) → List (Option (Start S)) → TIdx S → Symbol S
    → Vec (Frame S) A → Vec (Frame S) A → Vec (Move S) B → Vec (Move S) B → Type 0
DescendsTo index g choices starts first symbol old new before after =
    Descends g (choices_of index choices) (starts_of index starts) (index first.0) (symbol_of index symbol) (frames_of index old.items)
    (frames_of index new.items) (moves_in index before.items) (moves_in index after.items)
