-- Moves replayed over a stack of symbols, each of which represents a tree.
use Rattle.std.specs.Prelude.{◌≡◌, ◌<◌, ℕ, List, [], ◌∷◌, ◌++◌}
use Rattle.lrpar_grammar.specs.Grammar.{Grammar, GrammarSymbol, Nonterminal, Terminal, prods_len, rule_of, symbols_of}
use Rattle.lrpar_grammar.specs.Tree.{Tree}
use Rattle.lrpar_table_sentences.specs.Moves.{Makes, MoveOf, Takes, moves_of}
use Rattle.lrpar_table_sentences.specs.Texts.{IsTreeOf}

-- a token is pushed; or the symbols of a production are replaced by its rule
abbrev pub Replays : Grammar → MoveOf → List GrammarSymbol → List GrammarSymbol → Type 0
Replays g (Takes t) old new = new ≡ old ++ Terminal t ∷ []
Replays g (Makes p) old new =
    (front : List GrammarSymbol) × (p < prods_len g) × (old ≡ front ++ symbols_of g p) × (new ≡ front ++ Nonterminal (rule_of g p) ∷ [])

-- the moves are those of a tree of the start rule
abbrev pub AreOfTree : Grammar → List MoveOf → Type 0
AreOfTree g moves = (tree : Tree ℕ) × IsTreeOf g (Nonterminal g.start) tree × (moves ≡ moves_of tree)
