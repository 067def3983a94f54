-- Changes and suggestions of the program as the definitions see them. `index` gives the number of a value of the storage type.
use Rattle.std.specs.Prelude.{ℕ, All, AllPairs, Contains, List, Vec, map}
use Rattle.lrpar_grammar_places.specs.declared.span.TIdx.{TIdx}
use Rattle.lrpar_grammar.specs.Grammar.{Grammar}
use Rattle.lrpar_table_stacks.specs.Expected.{tokens_of}
use Rattle.lrpar_table_check.specs.Checked.{Checked}
use Rattle.lrpar_parse_suggestions.specs.Changed.{PlainChange, PlainDelete, PlainInsert, PlainReplace}
use Rattle.lrpar_parse_suggestions.specs.Suggestions.{PlainSuggestion, ComesBefore, IsSuggestion}
use Rattle.lrpar_parse_suggestions.specs.declared.change.Change.{Change}
use Rattle.lrpar_parse_suggestions.specs.declared.change.Change.TheVariants.{Delete, Insert, Replace}
use Rattle.lrpar_parse_suggestions.specs.declared.change.Suggestion.{Suggestion}

-- a change as it is stored, with its token by number
abbrev pub plain_change : {S : Type 0} → (S → ℕ) → Change S → PlainChange
plain_change index Delete = PlainDelete
plain_change index (Insert token) = PlainInsert (index token.0)
plain_change index (Replace token) = PlainReplace (index token.0)

-- a suggestion as it is stored, with its token by number
abbrev pub plain_suggestion : {S : Type 0} → (S → ℕ) → Suggestion S → PlainSuggestion
plain_suggestion index s = record { place = s.place; change = plain_change index s.change; reach = s.reach; accepts = s.accepts }

-- suggestions as they are stored, with their tokens by number
abbrev pub plain_suggestions : {S : Type 0} → (S → ℕ) → List (Suggestion S) → List PlainSuggestion
plain_suggestions index suggestions = map (plain_suggestion index) suggestions

-- each entry of the list is a suggestion for the error at the place
abbrev pub AreSuggestionsOf : {S A : Type 0} → (S → ℕ) → Checked → List (TIdx S) → ℕ → Vec (Suggestion S) A → Type 0
AreSuggestionsOf index d tokens place list =
    All (IsSuggestion d.grammar d.table (tokens_of index tokens) place) (plain_suggestions index list.items)

-- each suggestion for the error at the place is in the list
abbrev pub HasSuggestionsOf : {S A : Type 0} → (S → ℕ) → Checked → List (TIdx S) → ℕ → Vec (Suggestion S) A → Type 0
HasSuggestionsOf index d tokens place list =
    (s : PlainSuggestion) → IsSuggestion d.grammar d.table (tokens_of index tokens) place s → Contains (plain_suggestions index list.items) s

-- each suggestion comes before those after it in the list
abbrev pub AreInOrder : {S A : Type 0} → (S → ℕ) → Grammar → Vec (Suggestion S) A → Type 0
AreInOrder index g list = AllPairs (ComesBefore g) (plain_suggestions index list.items)
