-- The declarations and rules of a grammar text, as lists of words in the order of the text.
use Rattle.std.specs.Prelude.{◌≡◌, ◌≤◌, ◌-◌, true, false, ℕ, List, [], ◌∷◌, ◌++◌, All, Contains, drop, length, map, slice_get, IsNone, MatchOption, Option, Some, option_map, option_and_then}
use Rattle.std.specs.List.{AllPairs}
use Rattle.std.specs.Option.{option_to_list}
use Rattle.lrpar_grammar_words.specs.declared.word_order.Expected.{Expected}
use Rattle.lrpar_grammar_words.specs.declared.word_order.Expected.TheVariants.{Declaration}
use Rattle.lrpar_grammar_words.specs.declared.word_order.Role.{Role}
use Rattle.lrpar_grammar_words.specs.declared.word_order.Role.TheVariants.{Sign, Start, Declared, EppOf, Epp, Defined, Symbol, AlternativeEnd}
use Rattle.lrpar_grammar_words.specs.declared.outline.Alternative.{Alternative}
use Rattle.lrpar_grammar_words.specs.declared.outline.Outline.{Outline}
use Rattle.lrpar_grammar_words.specs.declared.outline.OutlineFault.{OutlineFault}
use Rattle.lrpar_grammar_words.specs.declared.outline.OutlineFault.TheVariants.{Syntax, Memory}
use Rattle.lrpar_grammar_words.specs.declared.words.Piece.{Piece}
use Rattle.lrpar_grammar_words.specs.Words.{IsCutUpTo, PlacedWord, ReadsAs, piece_at, placed, words_of}
use Rattle.lrpar_grammar_words.specs.WordOrder.{after, may_end}

-- an alternative of the last rule defined so far: its symbols, and the sign that ends it
pub record TextAlternative : Type 0 where
  pub rule : PlacedWord
  pub symbols : List PlacedWord
  pub end : PlacedWord

-- The names after `%start`; the declared tokens; the token of each `%epp` and, in the same order, its text; the
-- defined rules; the alternatives that have ended, and the symbols after the last of them.
pub record TextOutline : Type 0 where
  pub starts : List PlacedWord
  pub declared : List PlacedWord
  pub epps : List PlacedWord
  pub epp_texts : List PlacedWord
  pub defined : List PlacedWord
  pub alternatives : List TextAlternative
  pub symbols : List PlacedWord

-- an alternative as plain data
abbrev pub alternative_of : Alternative → TextAlternative
alternative_of x = record { rule = placed x.rule; symbols = map placed x.symbols.items; end = placed x.end }

-- an outline as plain data
abbrev pub outline_of : Outline → TextOutline
outline_of x = record {
  starts = map placed x.starts.items;
  declared = map placed x.declared.items;
  epps = map placed x.epps.items;
  epp_texts = map placed x.epp_texts.items;
  defined = map placed x.defined.items;
  alternatives = map alternative_of x.alternatives.items;
  symbols = map placed x.symbols.items;
}

-- the outline of a text without words
abbrev pub no_words : TextOutline
no_words = record { starts = []; declared = []; epps = []; epp_texts = []; defined = []; alternatives = []; symbols = [] }

-- the alternative that a sign ends
abbrev pub ended : TextOutline → PlacedWord → List TextAlternative
ended o w = option_to_list (option_map (λ rule. record { rule = rule; symbols = o.symbols; end = w }) (slice_get o.defined (length o.defined - 1)))

-- the outline with one more word, which has that role
unfoldable pub with_word : TextOutline → Role → PlacedWord → TextOutline
with_word o Sign w = o
with_word o Start w = record o { starts = o.starts ++ w ∷ [] }
with_word o Declared w = record o { declared = o.declared ++ w ∷ [] }
with_word o EppOf w = record o { epps = o.epps ++ w ∷ [] }
with_word o Epp w = record o { epp_texts = o.epp_texts ++ w ∷ [] }
with_word o Defined w = record o { defined = o.defined ++ w ∷ [] }
with_word o Symbol w = record o { symbols = o.symbols ++ w ∷ [] }
with_word o AlternativeEnd w = record o { alternatives = o.alternatives ++ ended o w; symbols = [] }

-- what is allowed after the words, and the outline with them; `None` if one of them isn't allowed at its place
abbrev pub after_words : Expected → TextOutline → List PlacedWord → Option (Expected × TextOutline)
after_words expected o [] = Some (expected, o)
after_words expected o (w ∷ ws) = option_and_then (λ step. after_words step.1 (with_word o step.0 w) ws) (after expected w.kind)

-- the words have the shape of a grammar text, and their outline is o
pub record HaveOutline (words : List PlacedWord) (o : TextOutline) : Type 0 where
  pub last : Expected
  pub shape : after_words Declaration no_words words ≡ Some (last, o)
  pub ends : may_end last ≡ true

-- the text reads as words that have this outline
pub record IsOutlineOf (text : List ℕ) (o : TextOutline) : Type 0 where
  pub words : List PlacedWord
  pub reads : ReadsAs text words
  pub have : HaveOutline words o

-- a text has at most one outline
abbrev pub OutlineIsOne : Type 0
OutlineIsOne = (text : List ℕ) (x y : TextOutline) → IsOutlineOf text x → IsOutlineOf text y → x ≡ y

-- each alternative is of a rule that is defined
abbrev pub AreOfDefinedRules : TextOutline → Type 0
AreOfDefinedRules o = All (λ x. Contains o.defined x.rule) o.alternatives

-- each word ends at or before the start of the next
abbrev pub AreWordsInOrder : List PlacedWord → Type 0
AreWordsInOrder words = AllPairs (λ x y. x.span.end ≤ y.span.start) words

-- the symbols of each alternative are in the order of the text
abbrev pub HasOrderedSymbols : TextOutline → Type 0
HasOrderedSymbols o = All (λ x. AreWordsInOrder x.symbols) o.alternatives

-- Reading is stuck at the start of s: s is empty and the text may not end, or s begins with no word or blanks, or it
-- begins with a word that isn't allowed here.
abbrev pub IsStuck : Expected → List ℕ → Type 0
IsStuck expected [] = may_end expected ≡ false
IsStuck expected (c ∷ s) = MatchOption (piece_at (c ∷ s)) (Unit {0}) (λ x. MatchOption x.word ⊥ (λ kind. IsNone (after expected kind)))

-- the text up to this place can be read, and reading is stuck there
pub record IsStuckAt (text : List ℕ) (place : ℕ) : Type 0 where
  pub pieces : List Piece
  pub cut : IsCutUpTo text place pieces
  pub expected : Expected
  pub outline : TextOutline
  pub leads : after_words Declaration no_words (words_of 0 text pieces) ≡ Some (expected, outline)
  pub stuck : IsStuck expected (drop place text)

-- a text is stuck at one place at most
abbrev pub StuckIsOne : Type 0
StuckIsOne = (text : List ℕ) (p q : ℕ) → IsStuckAt text p → IsStuckAt text q → p ≡ q

-- the text has no outline, and reading it is stuck at this place
pub record IsUnreadableAt (text : List ℕ) (place : ℕ) : Type 0 where
  pub unread : (o : TextOutline) → IsOutlineOf text o → ⊥
  pub stuck : IsStuckAt text place

-- why there is no outline: the text can't be read on from this place, or an allocation failed
abbrev pub IsRefused : List ℕ → OutlineFault → Type 0
IsRefused text (Syntax place) = IsUnreadableAt text place
IsRefused text Memory = Unit {0}
