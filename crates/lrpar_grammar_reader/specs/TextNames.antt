-- The tables of names with which a grammar is read.
use Rattle.std.specs.Prelude.{◌≡◌, ◌<◌, ℕ, Bool, true, not, All, List, MatchOption, Option, length, map, if◌then◌else◌}
use Rattle.std.specs.List.{find, flat_map}
use Rattle.lrpar_grammar_places.specs.Span.{Extent}
use Rattle.lrpar_grammar_places.specs.declared.span.RIdx.{RIdx}
use Rattle.lrpar_grammar_places.specs.declared.span.Symbol.{Symbol}
use Rattle.lrpar_grammar_words.specs.declared.outline.Alternative.{Alternative}
use Rattle.lrpar_grammar_words.specs.declared.outline.Outline.{Outline}
use Rattle.lrpar_grammar_words.specs.declared.words.Word.{Word}
use Rattle.lrpar_grammar_words.specs.Words.{PlacedWord, placed}
use Rattle.lrpar_grammar_words.specs.Outline.{TextAlternative, TextOutline, alternative_of, outline_of}
use Rattle.lrpar_grammar_reader.specs.declared.tables.Tables.{Tables}
use Rattle.lrpar_grammar_reader.specs.Names.{is_among}
use Rattle.lrpar_grammar_reader.specs.Parts.{AreSound, FitStorage, Parts}
use Rattle.lrpar_grammar_reader.specs.Spells.{AreNamesKnown, HasFault, HasFaultBy, IsClean, LiesAt, Numbering, is_known, is_token, numbering_of, spelled_parts, start_number, symbol_of_word}
use Rattle.lrpar_grammar_reader.specs.Symbols.{symbol_of}
use Rattle.lrpar_grammar_reader.specs.declared.parts.GrammarFault.{GrammarFault}
use Rattle.lrpar_grammar_reader.specs.declared.parts.GrammarFault.TheVariants.{StorageTooSmall}

-- the lists of words in the tables
abbrev pub numbering_by : Tables → Numbering
numbering_by x = record { rules = x.rules; declared = x.declared; tokens = x.tokens }

-- the symbol that a word represents has a number
abbrev pub has_number : Numbering → PlacedWord → Bool
has_number n w = if is_token n.declared w then is_among w.name n.tokens else is_among w.name n.rules

-- the rule and the symbols of an alternative have numbers
pub record AreNumbered (n : Numbering) (x : TextAlternative) : Type 0 where
  pub rule : is_among x.rule.name n.rules ≡ true
  pub symbols : All (λ w. has_number n w ≡ true) x.symbols

-- the rules and tokens can be numbered below `limit`, with the added rule and the end token
pub record FitTables (limit : ℕ) (n : Numbering) : Type 0 where
  pub rules : length n.rules < limit
  pub tokens : length n.tokens < limit

-- the rules, tokens and alternatives can be numbered below `limit`, with what the grammar adds to them
pub record FitAll (limit : ℕ) (n : Numbering) (o : TextOutline) : Type 0 where
  pub rules : length n.rules < limit
  pub tokens : length n.tokens < limit
  pub prods : length o.alternatives < limit

-- the parts of clean declarations and rules: they make a grammar
pub record AreSpelled (limit : ℕ) (o : TextOutline) (x : Parts) : Type 0 where
  pub clean : IsClean o
  pub is : x ≡ spelled_parts o
  pub sound : AreSound limit x

-- why declarations and rules make no grammar: a fault of theirs, or they are clean and too many for the storage type
abbrev pub IsRefusedAs : ℕ → TextOutline → GrammarFault → Type 0
IsRefusedAs limit o StorageTooSmall = IsClean o × (FitStorage limit (spelled_parts o) → ⊥)
IsRefusedAs limit o fault = HasFault o fault

-- the tables have the lists by which the outline's rules and tokens are numbered
abbrev pub HasNumbering : Outline → Tables → Type 0
HasNumbering outline tables = numbering_by tables ≡ numbering_of (outline_of outline)

-- the rules and tokens in the tables can be numbered below `limit`
abbrev pub HasRoom : ℕ → Tables → Type 0
HasRoom limit tables = FitTables limit (numbering_by tables)

-- the rules and tokens in the tables and the outline's alternatives can be numbered below `limit`
abbrev pub HasRoomFor : ℕ → Outline → Tables → Type 0
HasRoomFor limit outline tables = FitAll limit (numbering_by tables) (outline_of outline)

-- the outline's rules, tokens and alternatives can be numbered below `limit`
abbrev pub FitsBelow : ℕ → Outline → Type 0
FitsBelow limit outline = FitAll limit (numbering_of (outline_of outline)) (outline_of outline)

-- each word is a rule
abbrev pub AreRules : Tables → List Word → Type 0
AreRules tables words = All (λ w. is_among w.name (numbering_by tables).rules ≡ true) (map placed words)

-- this is the first of the words after `%start`, or the first rule if there is none
abbrev pub IsStartRule : {S : Type 0} → (S → ℕ) → Tables → List Word → RIdx S → Type 0
IsStartRule index tables starts rule = index rule.0 ≡ start_number (numbering_by tables) (map placed starts)

-- the symbol that the word represents has a number
abbrev pub IsNumberedWord : Tables → Word → Type 0
IsNumberedWord tables word = has_number (numbering_by tables) (placed word) ≡ true

-- the symbol that each word represents has a number
abbrev pub AreNumberedWords : Tables → List Word → Type 0
AreNumberedWords tables words = All (λ w. has_number (numbering_by tables) w ≡ true) (map placed words)

-- the rule and the symbols of the alternative have numbers
abbrev pub IsNumbered : Tables → Alternative → Type 0
IsNumbered tables alternative = AreNumbered (numbering_by tables) (alternative_of alternative)

-- the rules and the symbols of all alternatives have numbers
abbrev pub AreAllNumbered : Tables → List Alternative → Type 0
AreAllNumbered tables alternatives = All (AreNumbered (numbering_by tables)) (map alternative_of alternatives)

-- the word represents this symbol
abbrev pub Represents : {S : Type 0} → (S → ℕ) → Tables → Word → Symbol S → Type 0
Represents index tables word symbol = symbol_of index symbol ≡ symbol_of_word (numbering_by tables) (placed word)

-- whether the word is a token or a rule
abbrev pub is_known_by : Tables → Word → Bool
is_known_by tables word = is_known (numbering_by tables) (placed word)

-- each word is a token or a rule, or the first that is neither is at this place
abbrev pub FindsUnknown : Tables → List Word → Option Extent → Type 0
FindsUnknown tables words found =
    MatchOption found (All (λ w. is_known (numbering_by tables) w ≡ true) (map placed words))
    (LiesAt (find (λ w. not (is_known (numbering_by tables) w)) (map placed words)))

-- each symbol of the alternatives is a token or a rule, or the first that is neither is at this place
abbrev pub FindsUnknownSymbol : Tables → List Alternative → Option Extent → Type 0
FindsUnknownSymbol tables alternatives found =
    MatchOption found (All (λ x. All (λ w. is_known (numbering_by tables) w ≡ true) x.symbols) (map alternative_of alternatives))
    (LiesAt (find (λ w. not (is_known (numbering_by tables) w)) (flat_map (λ x. x.symbols) (map alternative_of alternatives))))

-- no rule has the name of a declared token, and each name that the outline uses is that of a rule or a token
abbrev pub HasKnownNames : Tables → Outline → Type 0
HasKnownNames tables outline = AreNamesKnown (numbering_by tables) (outline_of outline)

-- this is the outline's first fault
abbrev pub IsFaultBy : Tables → Outline → GrammarFault → Type 0
IsFaultBy tables outline fault = HasFaultBy (numbering_by tables) (outline_of outline) fault
