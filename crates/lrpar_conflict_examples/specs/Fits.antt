-- What is given by numbers is of a grammar: tokens, symbols, moves, and the moves of trees.
use Rattle.std.specs.Prelude.{◌≡◌, ◌<◌, ℕ, List, map}
use Rattle.std.specs.List.{AllByRecursion}
use Rattle.lrpar_grammar.specs.Grammar.{Grammar, GrammarSymbol, Nonterminal, Terminal, prods_len, rules_len, tokens_len}
use Rattle.lrpar_grammar.specs.Symbols.{symbol_of}
use Rattle.lrpar_grammar.specs.Tree.{Tree}
use Rattle.lrpar_grammar_places.specs.declared.span.Symbol.{Symbol}
use Rattle.lrpar_grammar_places.specs.declared.span.TIdx.{TIdx}
use Rattle.lrpar_table_sentences.specs.Moves.{MoveOf, Makes, Takes, moves_in, moves_of}
use Rattle.lrpar_table_sentences.specs.Texts.{IsTreeOf}
use Rattle.lrpar_table_sentences.specs.declared.moves.Move.{Move}
use Rattle.lrpar_conflict_derivations.specs.Texts.{token_numbers}

-- the numbers are those of tokens of the grammar
abbrev pub AreTokensOf : Grammar → List ℕ → Type 0
AreTokensOf g tokens = AllByRecursion (λ t. t < tokens_len g) tokens

-- the tokens as they are stored are tokens of the grammar
abbrev pub HasTokens : {S : Type 0} → (S → ℕ) → Grammar → List (TIdx S) → Type 0
HasTokens index g tokens = AreTokensOf g (token_numbers index tokens)

-- the symbol is one of the grammar
abbrev pub IsSymbolOf : Grammar → GrammarSymbol → Type 0
IsSymbolOf g (Nonterminal r) = r < rules_len g
IsSymbolOf g (Terminal t) = t < tokens_len g

abbrev pub AreSymbolsOf : Grammar → List GrammarSymbol → Type 0
AreSymbolsOf g symbols = AllByRecursion (IsSymbolOf g) symbols

-- the symbols as they are stored are symbols of the grammar
abbrev pub HasSymbols : {S : Type 0} → (S → ℕ) → Grammar → List (Symbol S) → Type 0
HasSymbols index g symbols = AreSymbolsOf g (map (symbol_of index) symbols)

-- the move shifts a token of the grammar, or reduces by a production of the grammar
abbrev pub IsMoveOf : Grammar → MoveOf → Type 0
IsMoveOf g (Takes t) = t < tokens_len g
IsMoveOf g (Makes p) = p < prods_len g

-- the moves are those of this tree of the start rule
pub record AreMovesOf (g : Grammar) (moves : List MoveOf) (tree : Tree ℕ) : Type 0 where
  pub fits : IsTreeOf g (Nonterminal g.start) tree
  pub are : moves ≡ moves_of tree

-- the moves are those of some tree of the start rule
abbrev pub HasTree : Grammar → List MoveOf → Type 0
HasTree g moves = (tree : Tree ℕ) × AreMovesOf g moves tree

-- the moves as they are stored are those of some tree of the start rule
abbrev pub HaveTree : {S : Type 0} → (S → ℕ) → Grammar → List (Move S) → Type 0
HaveTree index g moves = HasTree g (moves_in index moves)
