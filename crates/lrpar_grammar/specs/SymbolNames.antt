-- Look-ups of symbols by their names.
use Rattle.std.specs.Prelude.{◌≡◌, ℕ, List, ◌∷◌, Option, Some, None, Vec, drop, map}
use Rattle.std.specs.BTreeMap.{BTreeMap, get_by}
use Rattle.std.specs.Borrow.{Bor}
use Rattle.std.specs.Cmp.Lexicographic.{slice_cmp}
use Rattle.std.specs.Ordering.{nat_cmp}
use Rattle.lrpar_grammar_words.specs.declared.words.Word.{Word}
use Rattle.lrpar_grammar_words.specs.Words.{placed}
use Rattle.lrpar_grammar_reader.specs.Grammar.{Grammar}
use Rattle.lrpar_grammar.specs.Spelled.{NamedSymbols, SpellsNumbers, first_number, named_symbols, number_named, numbers_named, numbers_spelled}
use Rattle.lrpar_grammar.specs.Stored.{row_in, texts_in}

-- the map has, for each name, the number of the first of these names that is it; the first of them has the number n
abbrev pub AreFirst : BTreeMap (Bor (List ℕ)) ℕ → ℕ → List (List ℕ) → Type 0
AreFirst numbers n names = (q : List ℕ) → get_by (λ k. slice_cmp nat_cmp q k.now) numbers ≡ first_number n names q

-- the text spells a production with these numbers; if there are none, it spells no production
abbrev pub AreNumbersOf : NamedSymbols → List ℕ → Option (List ℕ) → Type 0
AreNumbersOf n text (Some numbers) = SpellsNumbers n text numbers
AreNumbersOf n text None = (numbers : List ℕ) → SpellsNumbers n text numbers → ⊥

-- the number of the symbol that the word names
abbrev pub number_of_word : NamedSymbols → Word → Option ℕ
number_of_word n word = number_named n (placed word).kind (placed word).name

-- these are the numbers that the words spell, if they spell some
abbrev pub AreSpelledBy : {A : Type 0} → NamedSymbols → List Word → Option (Vec ℕ A) → Type 0
AreSpelledBy n words found = row_in found ≡ numbers_spelled n (map placed words)

-- these are the numbers that a rule and symbols have by their names, if each has one
abbrev pub AreNamedBy : {A : Type 0} → NamedSymbols → Word → List Word → Option (Vec ℕ A) → Type 0
AreNamedBy n rule symbols found = row_in found ≡ numbers_named n (placed rule ∷ map placed symbols)

-- these are the names of the grammar's rules and tokens
abbrev pub AreSymbolNames : {A : Type 0} → Grammar → Vec (Bor (List ℕ)) A → Type 0
AreSymbolNames g names = texts_in names.items ≡ (named_symbols g).names

-- these are the names of the grammar's rules
abbrev pub AreRuleNames : {A : Type 0} → Grammar → Vec (Bor (List ℕ)) A → Type 0
AreRuleNames g names = texts_in names.items ≡ map (λ rule. rule.name) g.rules

-- the map has, for each name from number `from` on, the first of these that is it
abbrev pub HasFirstFrom : ℕ → List (Bor (List ℕ)) → BTreeMap (Bor (List ℕ)) ℕ → Type 0
HasFirstFrom from names numbers = AreFirst numbers from (drop from (texts_in names))
