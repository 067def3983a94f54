-- What follows from the definitions of productions as numbers of symbols, and of lists of productions.
use Rattle.std.specs.Prelude.{◌≡◌, ◌≢◌, ◌↔◌, ◌<◌, ℕ, List, [], length, slice_index_or, Option, Some, None}
use Rattle.lrpar_grammar_reader.specs.Grammar.{Grammar, IsWellFormed, prods_len, rule_of, start_prod, symbols_of}
use Rattle.lrpar_grammar.specs.Spelled.{IsListing, numbers_of}
use Rattle.lrpar_grammar.specs.SpelledParts.{IsIndexInPart, joined}

-- two productions have the same numbers if and only if they have the same rule and the same right side
abbrev pub NumbersTellApart : Type 0
NumbersTellApart =
    (g : Grammar) (p q : ℕ) → IsWellFormed g → p < prods_len g → q < prods_len g
    → (numbers_of g p ≡ numbers_of g q) ↔ ((rule_of g p ≡ rule_of g q) × (symbols_of g p ≡ symbols_of g q))

-- in a list of texts two productions have two places, and productions that are spelled alike have theirs in order
abbrev pub ListingsKeepOrder : Type 0
ListingsKeepOrder =
    (g : Grammar) (texts : List (List ℕ)) (places : List (Option ℕ)) → IsListing g texts places
    → (p q t u : ℕ) → p < q → q < start_prod g → slice_index_or places p None ≡ Some t → slice_index_or places q None ≡ Some u
    → (t ≢ u) × (numbers_of g p ≡ numbers_of g q → t < u)

-- each place of the whole list is a place of one part, which has the same text there
pub record PartsKeepTexts : Type 0 where
  pub is_in_part : (parts : List (List (List ℕ))) (whole : ℕ) → whole < length (joined parts) → (part : ℕ) × (place : ℕ) × IsIndexInPart parts whole part place
  pub in_one_part : (parts : List (List (List ℕ))) (whole part place other_part other_place : ℕ) → IsIndexInPart parts whole part place
      → IsIndexInPart parts whole other_part other_place → (part ≡ other_part) × (place ≡ other_place)
  pub same_text : (parts : List (List (List ℕ))) (whole part place : ℕ) → IsIndexInPart parts whole part place
      → slice_index_or (slice_index_or parts part []) place [] ≡ slice_index_or (joined parts) whole []
