-- Why a list of texts isn't a list of a grammar's productions.
use Rattle.std.specs.Prelude.{◌≡◌, ◌≢◌, ◌<◌, ◌≤◌, ℕ, List, [], Option, length, slice_index_or, string_bytes, take}
use Rattle.lrpar_grammar_reader.specs.Grammar.{Grammar}
use Rattle.lrpar_grammar.specs.declared.grammar.spelled_fault.SpelledFault.{SpelledFault}
use Rattle.lrpar_grammar.specs.declared.grammar.spelled_fault.SpelledFault.TheVariants.{Unknown, Repeated, Missing, Memory}
use Rattle.lrpar_grammar.specs.ProdText.{prod_text}
use Rattle.lrpar_grammar.specs.SpelledParts.{IsListingInParts}
use Rattle.lrpar_grammar.specs.Spelled.{HasProduction, HasText, IsListing, NamedSymbols, SpellEach, SpellsNumbers, count_of, numbered_prods, named_symbols, numbers_at}

-- each of the texts is of a production
pub record GoWell (n : NamedSymbols) (prods texts : List (List ℕ)) : Type 0 where
  pub spelled : List (List ℕ)
  pub spell : SpellEach n texts spelled
  pub each : (t : ℕ) → t < length spelled → HasProduction prods spelled t

-- the text at this place is the first that is wrong: it spells no production
pub record IsUnknownAt (n : NamedSymbols) (prods texts : List (List ℕ)) (text : List ℕ) (place : ℕ) : Type 0 where
  pub within : place < length texts
  pub is : text ≡ slice_index_or texts place []
  pub before : GoWell n prods (take place texts)
  pub unknown : (p : ℕ) → p < length prods → SpellsNumbers n text (numbers_at prods p) → ⊥

-- the text at this place is the first that is wrong: the texts before it spell its production as often as there are such productions
pub record IsRepeatedAt (n : NamedSymbols) (prods texts : List (List ℕ)) (text : List ℕ) (place : ℕ) : Type 0 where
  pub within : place < length texts
  pub is : text ≡ slice_index_or texts place []
  pub before : GoWell n prods (take place texts)
  pub numbers : List ℕ
  pub spells : SpellsNumbers n text numbers
  pub known : 0 < count_of numbers prods
  pub full : count_of numbers prods ≤ count_of numbers before.spelled

-- no text is wrong, and production p is the first that has none: as many texts spell it as earlier productions are spelled so
pub record IsMissingAt (n : NamedSymbols) (prods texts : List (List ℕ)) (p : ℕ) : Type 0 where
  pub all : GoWell n prods texts
  pub within : p < length prods
  pub few : count_of (numbers_at prods p) all.spelled ≤ count_of (numbers_at prods p) (take p prods)
  pub first : (q : ℕ) → q < p → HasText prods all.spelled q

-- why a text is refused: it spells no production; or all productions that it spells have a text; or an allocation failed
abbrev pub IsTextFault : NamedSymbols → List (List ℕ) → List (List ℕ) → SpelledFault → Type 0
IsTextFault n prods texts (Unknown text place) = IsUnknownAt n prods texts (string_bytes text) place
IsTextFault n prods texts (Repeated text place) = IsRepeatedAt n prods texts (string_bytes text) place
IsTextFault n prods texts (Missing text) = ⊥
IsTextFault n prods texts Memory = Unit {0}

-- Why the texts don't list the productions: the first text that is wrong or, if none is, the first production without a text; or an
-- allocation failed.
abbrev pub IsSpelledFault : Grammar → List (List ℕ) → SpelledFault → Type 0
IsSpelledFault g texts (Missing text) = (p : ℕ) × IsMissingAt (named_symbols g) (numbered_prods g) texts p × (string_bytes text ≡ prod_text g p)
IsSpelledFault g texts fault = IsTextFault (named_symbols g) (numbered_prods g) texts fault

-- the fault of that text and place, or a failed allocation
abbrev pub IsUnknownOf : List ℕ → ℕ → SpelledFault → Type 0
IsUnknownOf bytes at (Unknown text place) = (string_bytes text ≡ bytes) × (place ≡ at)
IsUnknownOf bytes at Memory = Unit {0}
IsUnknownOf bytes at _ = ⊥

abbrev pub IsRepeatedOf : List ℕ → ℕ → SpelledFault → Type 0
IsRepeatedOf bytes at (Repeated text place) = (string_bytes text ≡ bytes) × (place ≡ at)
IsRepeatedOf bytes at Memory = Unit {0}
IsRepeatedOf bytes at _ = ⊥

-- the fault of that production, or a failed allocation
abbrev pub IsMissingOf : Grammar → ℕ → SpelledFault → Type 0
IsMissingOf g p (Missing text) = string_bytes text ≡ prod_text g p
IsMissingOf g p Memory = Unit {0}
IsMissingOf g p _ = ⊥

-- unless an allocation failed, the texts list the productions in no way
abbrev pub AreUnlisted : Grammar → List (List ℕ) → SpelledFault → Type 0
AreUnlisted g texts fault = fault ≢ Memory → (places : List (Option ℕ)) → IsListing g texts places → ⊥

-- unless an allocation failed, the texts, which come in parts, list the productions in no way
abbrev pub AreUnlistedInParts : Grammar → List (List (List ℕ)) → SpelledFault → Type 0
AreUnlistedInParts g parts fault = fault ≢ Memory → (places : List (Option (ℕ × ℕ))) → IsListingInParts g parts places → ⊥
