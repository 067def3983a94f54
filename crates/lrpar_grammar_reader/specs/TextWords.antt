-- Words, alternatives and outlines of a grammar text as they are stored.
use Rattle.std.specs.Prelude.{◌≡◌, ◌++◌, ℕ, true, false, not, List, Option, All, MatchOption, Vec, filter, map}
use Rattle.std.specs.BTreeMap.{BTreeMap}
use Rattle.std.specs.Borrow.{Bor}
use Rattle.std.specs.List.{find}
use Rattle.lrpar_grammar_places.specs.Span.{Extent}
use Rattle.lrpar_grammar_words.specs.declared.outline.Alternative.{Alternative}
use Rattle.lrpar_grammar_words.specs.declared.outline.Outline.{Outline}
use Rattle.lrpar_grammar_words.specs.declared.words.Word.{Word}
use Rattle.lrpar_grammar_words.specs.Outline.{AreOfDefinedRules, AreWordsInOrder, HasOrderedSymbols, IsOutlineOf, alternative_of, outline_of}
use Rattle.lrpar_grammar_words.specs.Words.{PlacedWord, placed}
use Rattle.lrpar_grammar_reader.specs.Names.{AreNumbers, first_of_each, is_among, with_name}
use Rattle.lrpar_grammar_reader.specs.Spells.{AreDistinct, LiesAt, is_token, used_tokens}

-- the outline is that of the text
abbrev pub IsReadFrom : List ℕ → Outline → Type 0
IsReadFrom text outline = IsOutlineOf text (outline_of outline)

-- each alternative of the outline is of a rule that is defined
abbrev pub HasDefinedRules : Outline → Type 0
HasDefinedRules outline = AreOfDefinedRules (outline_of outline)

-- the symbols of each alternative of the outline are in the order of the text
abbrev pub HasSymbolsInOrder : Outline → Type 0
HasSymbolsInOrder outline = HasOrderedSymbols (outline_of outline)

-- the symbols of the alternative are in the order of the text
abbrev pub IsInOrder : Alternative → Type 0
IsInOrder alternative = AreWordsInOrder (alternative_of alternative).symbols

-- the symbols of each alternative are in the order of the text
abbrev pub AreInOrder : List Alternative → Type 0
AreInOrder alternatives = All (λ x. AreWordsInOrder x.symbols) (map alternative_of alternatives)

-- these are the words with distinct names among those: of each name the first
abbrev pub AreFirstOfEach : List Word → List PlacedWord → Type 0
AreFirstOfEach words names = names ≡ first_of_each (map placed words)

-- these are the tokens of the outline's `%epp`s
abbrev pub AreEppsOf : Outline → List PlacedWord → Type 0
AreEppsOf outline names = names ≡ (outline_of outline).epps

-- no `%epp` of the outline is for a token that an earlier one is for
abbrev pub HasDistinctEpps : Outline → Type 0
HasDistinctEpps outline = AreDistinct (outline_of outline).epps

-- the map gives each name of the words its place among them
abbrev pub NumbersWords : {A : Type 0} → BTreeMap (Bor (List ℕ)) ℕ → Vec Word A → Type 0
NumbersWords numbers words = AreNumbers numbers (map placed words.items)

-- the word was appended if its name is new
abbrev pub AddsName : {A : Type 0} → Vec Word A → Vec Word A → Word → Type 0
AddsName old new word = map placed new.items ≡ with_name (map placed old.items) (placed word)

-- the tokens among these words were appended, if those are the declared ones
abbrev pub AppendsTokens : {A : Type 0} → Vec Word A → Vec Word A → List PlacedWord → List Word → Type 0
AppendsTokens old new declared symbols = map placed new.items ≡ map placed old.items ++ filter (is_token declared) (map placed symbols)

-- these are the words that the outline declares as tokens, and after them the tokens that its alternatives use
abbrev pub AreTokenWords : {A : Type 0} → List PlacedWord → Outline → Vec Word A → Type 0
AreTokenWords declared outline words =
    map placed words.items ≡ map placed outline.declared.items ++ used_tokens declared (map alternative_of outline.alternatives.items)

-- these are the tokens that the outline declares or its alternatives use: of each name the first word
abbrev pub AreTokensBy : List PlacedWord → Outline → List PlacedWord → Type 0
AreTokensBy declared outline names =
    names ≡ first_of_each (map placed outline.declared.items ++ used_tokens declared (map alternative_of outline.alternatives.items))

-- no word has one of the names, or the first that has one is at this place
abbrev pub FindsAmong : List PlacedWord → List Word → Option Extent → Type 0
FindsAmong names words found =
    MatchOption found (All (λ w. is_among w.name names ≡ false) (map placed words)) (LiesAt (find (λ w. is_among w.name names) (map placed words)))

-- each word has one of the names, or the first that has none is at this place
abbrev pub FindsMissing : List PlacedWord → List Word → Option Extent → Type 0
FindsMissing names words found =
    MatchOption found (All (λ w. is_among w.name names ≡ true) (map placed words)) (LiesAt (find (λ w. not (is_among w.name names)) (map placed words)))
