-- Valid lists of lexemes, and sentences.
use Rattle.std.specs.Prelude.{◌≡◌, ◌<◌, ◌≤◌, ◌+◌, ℕ, List, length, slice_get, Some}
pub use Rattle.lrpar_grammar_places.specs.Facts.{LexemeFacts}
use Rattle.lrpar_grammar_reader.specs.Grammar.{Grammar, Nonterminal, end_token}
use Rattle.lrpar_grammar.specs.Tree.{Tree, Fits, leaves}

-- the lexemes are the leaves of a tree that fits the start rule
abbrev pub IsSentence : {X : Type 0} → (X → ℕ) → Grammar → List X → Type 0
IsSentence {X} token g lexemes = (tree : Tree X) × Fits token g tree (Nonterminal g.start) × (leaves tree ≡ lexemes)

-- lexeme i has the end token, or a token that the grammar doesn't have
abbrev pub HasBadToken : Grammar → List LexemeFacts → ℕ → Type 0
HasBadToken g lexemes i = (x : LexemeFacts) × (slice_get lexemes i ≡ Some x) × (end_token g ≤ x.token)

-- lexeme i starts before the start of the previous one
abbrev pub HasEarlyStart : List LexemeFacts → ℕ → Type 0
HasEarlyStart lexemes i =
    (j : ℕ) × (x : LexemeFacts) × (y : LexemeFacts) × (j + 1 ≡ i) × (slice_get lexemes j ≡ Some x) × (slice_get lexemes i ≡ Some y)
    × (y.span.start < x.span.start)

-- the first n lexemes have tokens of the grammar other than the end token
abbrev pub HasGoodTokens : Grammar → List LexemeFacts → ℕ → Type 0
HasGoodTokens g lexemes n = (i : ℕ) (x : LexemeFacts) → i < n → slice_get lexemes i ≡ Some x → x.token < end_token g

-- none of the first n lexemes starts before the start of the previous one
abbrev pub HasOrderedStarts : List LexemeFacts → ℕ → Type 0
HasOrderedStarts lexemes n =
    (i : ℕ) (x y : LexemeFacts) → i + 1 < n → slice_get lexemes i ≡ Some x → slice_get lexemes (i + 1) ≡ Some y
    → x.span.start ≤ y.span.start

-- every token is one of the grammar other than the end token, and no lexeme starts before the start of the previous one
pub record IsValidList (g : Grammar) (lexemes : List LexemeFacts) : Type 0 where
  pub tokens : HasGoodTokens g lexemes (length lexemes)
  pub starts : HasOrderedStarts lexemes (length lexemes)

-- lexeme i is the first with either fault, and its token is bad
pub record IsFirstBadToken (g : Grammar) (lexemes : List LexemeFacts) (i : ℕ) : Type 0 where
  pub bad : HasBadToken g lexemes i
  pub tokens : HasGoodTokens g lexemes i
  pub starts : HasOrderedStarts lexemes i

-- lexeme i is the first with either fault: its token is good, and it starts too early
pub record IsFirstEarlyStart (g : Grammar) (lexemes : List LexemeFacts) (i : ℕ) : Type 0 where
  pub early : HasEarlyStart lexemes i
  pub tokens : HasGoodTokens g lexemes (i + 1)
  pub starts : HasOrderedStarts lexemes i
