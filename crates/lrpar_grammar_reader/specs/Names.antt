-- Words of a grammar text by their names.
use Rattle.std.specs.Prelude.{◌≡◌, ◌+◌, ℕ, Bool, List, [], ◌∷◌, ◌++◌, fold, Option, Some, None, option_map, bytes_eq, if◌then◌else◌}
use Rattle.std.specs.Option.{is_some}
use Rattle.std.specs.BTreeMap.{BTreeMap, get_by}
use Rattle.std.specs.Borrow.{Bor}
use Rattle.std.specs.Ordering.{nat_cmp}
use Rattle.std.specs.Cmp.Lexicographic.{slice_cmp}
use Rattle.lrpar_grammar_words.specs.Words.{PlacedWord}

-- the place of the first word with that name in a list of words
abbrev pub number_of : List ℕ → List PlacedWord → Option ℕ
number_of name [] = None
number_of name (w ∷ ws) = if bytes_eq name w.name then Some 0 else option_map (λ n. n + 1) (number_of name ws)

-- whether a word of the list has that name
abbrev pub is_among : List ℕ → List PlacedWord → Bool
is_among name words = is_some (number_of name words)

-- the words, and one more if its name is new
abbrev pub with_name : List PlacedWord → PlacedWord → List PlacedWord
with_name words w = if is_among w.name words then words else words ++ w ∷ []

-- the words with distinct names: of each name the first word
unfoldable pub first_of_each : List PlacedWord → List PlacedWord
first_of_each words = fold with_name [] words

-- the map gives each name of the words its number, which is its place among them
abbrev pub AreNumbers : BTreeMap (Bor (List ℕ)) ℕ → List PlacedWord → Type 0
AreNumbers numbers words = (q : List ℕ) → get_by (λ k. slice_cmp nat_cmp q k.now) numbers ≡ number_of q words
