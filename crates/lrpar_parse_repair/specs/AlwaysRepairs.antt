-- Recoverers that always repair; and a recoverer made of two, which asks the second one where no sequence of the first works.
use Rattle.std.specs.Prelude.{◌≡◌, ◌⊎◌, ℕ, List, Contains}
use Rattle.lrpar_table_check.specs.Checked.{Checked}
use Rattle.lrpar_parse_repair.specs.Asked.{Asked, IsStop}
use Rattle.lrpar_parse_repair.specs.Sequences.{PlainStep, Works}

-- two recoverers, of which the second is asked where no sequence of the first works
pub record TwoRecoverers (A B : Type 0) : Type 0 where
  pub first : A
  pub second : B

-- these two recoverers, in this order
abbrev pub in_turn : {A B : Type 0} → A → B → TwoRecoverers A B
in_turn first second = record { first = first; second = second }

-- `token` gives the number of a lexeme's token, and `allows` says which answers a recoverer may give
module _ {X : Type 0} (token : X → ℕ) where
  -- some sequence of the answer works at the error point
  abbrev pub SomeWorks : Asked X → List (List PlainStep) → Type 0
  SomeWorks at answer =
      (steps : List PlainStep) × Contains answer steps × Works token at.checked.grammar at.checked.table at.lexemes at.shifts at.stack at.place steps

  -- over this checked table the recoverer always repairs: at each error point each answer that it allows has a sequence that works
  abbrev pub AlwaysRepairs : (Asked X → List (List PlainStep) → Type 0) → Checked → Type 0
  AlwaysRepairs allows d =
      (at : Asked X) → IsStop token at → at.checked ≡ d → (answer : List (List PlainStep)) → allows at answer → SomeWorks at answer

  -- at the error point the recoverer allows an answer of which no sequence works
  abbrev pub MayFail : (Asked X → List (List PlainStep) → Type 0) → Asked X → Type 0
  MayFail allows at = (answer : List (List PlainStep)) × allows at answer × ¬ (SomeWorks at answer)

  -- the answer is one of the first recoverer, and some sequence in it works; or the first recoverer may fail, and the answer is one of the
  -- second
  abbrev pub FirstOrSecond : (Asked X → List (List PlainStep) → Type 0) → (Asked X → List (List PlainStep) → Type 0) → Asked X → List (List PlainStep) → Type 0
  FirstOrSecond first second at answer = (first at answer × SomeWorks at answer) ⊎ (MayFail first at × second at answer)
