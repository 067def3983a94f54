-- The productions of lists and options: what `X*`, `X+`, `X?`, `X % S` and `X %? S` are short for.
use Rattle.std.specs.Prelude.{◌≡◌, ℕ, List, [], ◌∷◌, Vec, map}
use Rattle.lrpar_grammar_places.specs.declared.span.Symbol.{Symbol}
use Rattle.lrpar_grammar_typed.specs.declared.typed.Form.{Form}
use Rattle.lrpar_grammar_typed.specs.declared.typed.Form.TheVariants.{Written, Group, ZeroOrMore, OneOrMore, Optional, Separated, Terminated}
use Rattle.lrpar_grammar_typed.specs.declared.typed.Making.{Making}
use Rattle.lrpar_grammar_typed.specs.declared.typed.Making.TheVariants.{Empty, First, Push, Nothing, Just, Same}
use Rattle.lrpar_grammar_typed.specs.declared.typed.TypedProd.{TypedProd}

-- what makes the value of a production, and its symbols
abbrev pub side_of : TypedProd → Making × List (Symbol ℕ)
side_of prod = (prod.making, map (λ s. s.symbol) prod.symbols.items)

-- the productions of a rule of this form, by the rule's symbol
abbrev pub sides_of : Symbol ℕ → Form → List (Making × List (Symbol ℕ))
sides_of rule Written = []
sides_of rule Group = []
sides_of rule (ZeroOrMore x) = (Empty, []) ∷ (Push, rule ∷ x ∷ []) ∷ []
sides_of rule (OneOrMore x) = (First, x ∷ []) ∷ (Push, rule ∷ x ∷ []) ∷ []
sides_of rule (Optional x) = (Nothing, []) ∷ (Just, x ∷ []) ∷ []
sides_of rule (Separated x s) = (First, x ∷ []) ∷ (Push, rule ∷ s ∷ x ∷ []) ∷ []
sides_of rule (Terminated list s) = (Empty, []) ∷ (Same, list ∷ []) ∷ (Same, list ∷ s ∷ []) ∷ []

-- the production has this value and these symbols
abbrev pub IsProdOf : Making → List (Symbol ℕ) → TypedProd → Type 0
IsProdOf making symbols prod = side_of prod ≡ (making, symbols)

-- the productions are those of a rule of this form
abbrev pub AreProdsOf : {A : Type 0} → Symbol ℕ → Form → Vec TypedProd A → Type 0
AreProdsOf rule form prods = map side_of prods.items ≡ sides_of rule form
