-- Parses of sentences over a complete table.
use Rattle.std.specs.Prelude.{◌≡◌, ◌↔◌, ℕ, List, None, Option, Result, MatchOption, IsSome}
use Rattle.lrpar_grammar.specs.Grammar.{Grammar, Nonterminal}
use Rattle.lrpar_grammar.specs.Sentence.{IsSentence}
use Rattle.lrpar_grammar.specs.Tree.{Tree, Fits, leaves}
use Rattle.lrpar_parse_run.specs.CompleteAnswer.{IsTreeOver}
use Rattle.lrpar_parse.specs.Lexed.{first_error, lexemes_of}

-- there is no lexing error, and the lexemes are a sentence of the grammar
pub record AnswersSentence {X E : Type 0} (token : X → ℕ) (g : Grammar) (lexed : List (Result X E)) : Type 0 where
  pub no_error : first_error lexed ≡ None
  pub sentence : IsSentence token g (lexemes_of lexed)

-- there is a value if and only if the lexemes are a sentence, and it is a value of each tree over them
pub record IsOfOnlyTree {X E V : Type 0} (token : X → ℕ) (g : Grammar) (Evaluates : Tree X → V → Type 0) (value : Option V) (lexed : List (Result X E)) : Type 0 where
  pub exact : IsSome value ↔ AnswersSentence token g lexed
  pub only : (tree : Tree X) → IsTreeOver token g (lexemes_of lexed) tree → first_error lexed ≡ None → MatchOption value ⊥ (Evaluates tree)

-- each list of lexemes has at most one tree of the start rule
abbrev pub HasOneTree : {X : Type 0} → (X → ℕ) → Grammar → Type 0
HasOneTree {X} token g =
    (tree other : Tree X) → Fits token g tree (Nonterminal g.start) → Fits token g other (Nonterminal g.start)
    → leaves tree ≡ leaves other → tree ≡ other
