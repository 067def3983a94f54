-- The texts of tokens, symbols, moves and trees.
use Rattle.std.specs.Prelude.{ℕ, List, [], ◌∷◌, ◌++◌, String, codes, drop, length, map, unwrap_or}
use Rattle.std.specs.List.{flat_map}
use Rattle.lrpar_grammar.specs.Grammar.{Grammar, GrammarSymbol, Nonterminal, Terminal, rule_name, rule_of, symbols_of, token_name}
use Rattle.lrpar_grammar.specs.Symbols.{symbol_of}
use Rattle.lrpar_grammar.specs.Tree.{Forest, Tree, Branch, Cons, Leaf, Nil}
use Rattle.lrpar_grammar_places.specs.Strings.{Appends}
use Rattle.lrpar_grammar_places.specs.declared.span.Symbol.{Symbol}
use Rattle.lrpar_grammar_places.specs.declared.span.TIdx.{TIdx}
use Rattle.lrpar_table_sentences.specs.Moves.{MoveOf, Makes, Takes}
use Rattle.lrpar_conflict_derivations.specs.Texts.{token_numbers}

-- a token as conflicts name it: by its name, and the end token by `$`
abbrev pub shown_name : Grammar → ℕ → List ℕ
shown_name g t = unwrap_or (token_name g t) (codes "$")

-- the name by which conflicts show a token as it is stored: its own, or `$` for the end token
abbrev pub name_of : {S : Type 0} → (S → ℕ) → Grammar → TIdx S → List ℕ
name_of index g token = shown_name g (index token.0)

-- a token's name after a space
abbrev pub word_text : Grammar → ℕ → List ℕ
word_text g t = 32 ∷ shown_name g t

abbrev pub words_text : Grammar → List ℕ → List ℕ
words_text g tokens = flat_map (word_text g) tokens

-- the names of tokens were appended, each after a space
abbrev pub AddsWords : {S A : Type 0} → (S → ℕ) → Grammar → List (TIdx S) → String A → String A → Type 0
AddsWords index g tokens old new = Appends old new (words_text g (token_numbers index tokens))

-- the front of a node: ` S[`
abbrev pub front_text : Grammar → ℕ → List ℕ
front_text g p = 32 ∷ (rule_name g (rule_of g p) ++ 91 ∷ [])

-- a tree, and a list of trees: a token is a word, and a node is its rule and then its trees in brackets
abbrev mutual
  pub tree_text : Grammar → Tree ℕ → List ℕ
  tree_text g (Leaf t) = word_text g t
  tree_text g (Branch p children) = front_text g p ++ (forest_text g children ++ codes " ]")

  pub forest_text : Grammar → Forest ℕ → List ℕ
  forest_text g Nil = []
  forest_text g (Cons t ts) = tree_text g t ++ forest_text g ts

-- a symbol of a production, after a space: a rule by its name, and a token by its name in quotes
abbrev pub symbol_text : Grammar → GrammarSymbol → List ℕ
symbol_text g (Nonterminal r) = 32 ∷ rule_name g r
symbol_text g (Terminal t) = codes " '" ++ shown_name g t ++ codes "'"

abbrev pub symbols_text : Grammar → List GrammarSymbol → List ℕ
symbols_text g symbols = flat_map (symbol_text g) symbols

-- the symbols of a production were appended, each after a space
abbrev pub AddsSymbols : {S A : Type 0} → (S → ℕ) → Grammar → List (Symbol S) → String A → String A → Type 0
AddsSymbols index g symbols old new = Appends old new (symbols_text g (map (symbol_of index) symbols))

-- the text of a reduction: `reduce S: 'i' S`
abbrev pub reduce_text : Grammar → ℕ → List ℕ
reduce_text g p = codes "reduce " ++ rule_name g (rule_of g p) ++ codes ":" ++ symbols_text g (symbols_of g p)

-- the text of a move: `reduce S: 'i' S` or `shift 'e'`
abbrev pub move_text : Grammar → MoveOf → List ℕ
move_text g (Takes t) = codes "shift '" ++ shown_name g t ++ codes "'"
move_text g (Makes p) = reduce_text g p

-- the line of a text, with a dot between the access string and the rest
abbrev pub line_text : Grammar → List ℕ → List ℕ → List ℕ
line_text g before rest = codes " " ++ words_text g before ++ codes " ." ++ words_text g rest ++ 10 ∷ []

-- the line of a text, whose tokens are as they are stored, was added
abbrev pub AddsLine : {S A : Type 0} → (S → ℕ) → Grammar → List (TIdx S) → List (TIdx S) → String A → String A → Type 0
AddsLine index g before rest old new = Appends old new (line_text g (token_numbers index before) (token_numbers index rest))

abbrev pub text_line : Grammar → List ℕ → List ℕ → List ℕ
text_line g before text = line_text g before (drop (length before) text)

-- the two lines of a derivation: the move by which it goes on, and its tree
abbrev pub derivation_text : Grammar → MoveOf → Tree ℕ → List ℕ
derivation_text g next tree = codes "  " ++ move_text g next ++ codes "\n   " ++ tree_text g tree ++ 10 ∷ []
