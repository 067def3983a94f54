-- What is promised of few names for the tokens that are expected.
use Rattle.std.specs.Prelude.{◌≡◌, ◌↔◌, ◌⊎◌, ℕ, Bool, false, not, IsTrue, List, All, Contains, filter}
use Rattle.lrpar_grammar_places.specs.declared.span.RIdx.{RIdx}
use Rattle.lrpar_grammar_places.specs.declared.span.TIdx.{TIdx}
use Rattle.lrpar_names.specs.declared.choosing.Choices.{Choices}
use Rattle.lrpar_names.specs.Choosing.{AreNeeded, IsNameable, can_begin_one, rule_numbers, token_numbers}
use Rattle.lrpar_names.specs.FirstTokens.{can_begin}
use Rattle.lrpar_names.specs.Names.{NameLists}

module _ {S : Type 0} (index : S → ℕ) (rows : List (List Bool)) where
  -- whether a chosen rule can begin with token t
  abbrev pub is_covered : Choices S → ℕ → Bool
  is_covered choices t = can_begin_one rows (rule_numbers index choices.rules.items) t

  -- the expected tokens are the chosen ones, and those with which chosen rules can begin
  abbrev pub CoverExpected : List (TIdx S) → Choices S → Type 0
  CoverExpected expected choices =
      (t : ℕ) → Contains (token_numbers index expected) t
      ↔ (Contains (token_numbers index choices.tokens.items) t ⊎ IsTrue (is_covered choices t))

  -- each chosen rule is a candidate that can be named
  abbrev pub NameCandidates : NameLists → List (RIdx S) → List (TIdx S) → Choices S → Type 0
  NameCandidates names candidates expected choices =
      All (λ r. Contains (rule_numbers index candidates) r × IsNameable rows names (Contains (token_numbers index expected)) r)
      (rule_numbers index choices.rules.items)

  -- what a candidate that can be named begins with, a chosen rule begins with
  abbrev pub LeaveNoneOut : NameLists → List (RIdx S) → List (TIdx S) → Choices S → Type 0
  LeaveNoneOut names candidates expected choices =
      (r : ℕ) → Contains (rule_numbers index candidates) r → IsNameable rows names (Contains (token_numbers index expected)) r → (t : ℕ)
      → IsTrue (can_begin rows r t) → IsTrue (is_covered choices t)

  -- no rule begins only with tokens with which rules before it begin
  abbrev pub AreAllNeeded : Choices S → Type 0
  AreAllNeeded choices = AreNeeded rows (rule_numbers index choices.rules.items)

  -- the chosen tokens are the expected ones with which no chosen rule begins, in their order
  abbrev pub KeepOthers : List (TIdx S) → Choices S → Type 0
  KeepOthers expected choices =
      token_numbers index choices.tokens.items ≡ filter (λ t. not (is_covered choices t)) (token_numbers index expected)

  -- no chosen rule begins with a chosen token
  abbrev pub AreApart : Choices S → Type 0
  AreApart choices = All (λ t. is_covered choices t ≡ false) (token_numbers index choices.tokens.items)
