-- What `==`, order and hash mean for a type with a number in each value, and for symbols.
use Rattle.std.specs.Prelude.{◌≡◌, ◌↔◌, ◌++◌, ℕ, pos, Bool, List, Option, Some, IsTrue}
use Rattle.std.specs.declared.cmp.Ordering.{Ordering}
use Rattle.std.specs.Ordering.{nat_cmp}
use Rattle.std.specs.Hash as fed
use Rattle.std.specs.declared.cmp.PartialEq as equality
use Rattle.lrpar_grammar_places.specs.Span.{Extent}
use Rattle.lrpar_grammar_places.specs.declared.span.PIdx.{PIdx}
use Rattle.lrpar_grammar_places.specs.declared.span.RIdx.{RIdx}
use Rattle.lrpar_grammar_places.specs.declared.span.StIdx.{StIdx}
use Rattle.lrpar_grammar_places.specs.declared.span.Symbol.{Symbol}
use Rattle.lrpar_grammar_places.specs.declared.span.Symbol.TheVariants.{Rule, Token}
use Rattle.lrpar_grammar_places.specs.declared.span.TIdx.{TIdx}
use Rattle.lrpar_grammar_places.specs.declared.text_range.TextRange.{TextRange}

-- values are equal and ordered as their numbers are
pub record ComparesByNumber {X : Type 0} (number : X → ℕ) (eq : X → X → Bool) (partial_cmp : X → X → Option Ordering) (cmp : X → X → Ordering) : Type 0 where
  pub equal : (x y : X) → IsTrue (eq x y) ↔ (number x ≡ number y)
  pub order : (x y : X) → cmp x y ≡ nat_cmp (number x) (number y)
  pub partial_order : (x y : X) → partial_cmp x y ≡ Some (nat_cmp (number x) (number y))

-- a hasher is fed these bytes for a value, and the same for equal values
pub record HashesAs {X : Type 0} (input : X → List (List ℕ)) (eq : X → X → Bool) (hash_input : X → List (List ℕ)) : Type 0 where
  pub fed : (x : X) → hash_input x ≡ input x
  pub alike : (x y : X) → IsTrue (eq x y) → hash_input x ≡ hash_input y

-- two values are equal exactly where the relation holds of them
abbrev pub IsEquality : {X : Type 0} → (X → X → Type 0) → (X → X → Bool) → Type 0
IsEquality {X = X} same eq = (x y : X) → IsTrue (eq x y) ↔ same x y

-- two parts of a text have the same start and the same end
abbrev pub AreSameSpan : Extent → Extent → Type 0
AreSameSpan x y = (x.start ≡ y.start) × (x.end ≡ y.end)

-- two parts of a text, as trees keep them, have the same start and the same end
abbrev pub AreSameRange : TextRange → TextRange → Type 0
AreSameRange x y = (x.start ≡ y.start) × (x.end ≡ y.end)

-- what a hasher is fed for a part of a text: its start and then its end
abbrev pub span_input : Extent → List (List ℕ)
span_input x = fed.usize x.start ++ fed.usize x.end

-- what a hasher is fed for a part of a text, as trees keep it: its start and then its end
abbrev pub range_input : TextRange → List (List ℕ)
range_input x = fed.usize x.start ++ fed.usize x.end

-- two rules with the same number, or two tokens with the same number
abbrev pub IsSameSymbol : {S : Type 0} → (S → ℕ) → Symbol S → Symbol S → Type 0
IsSameSymbol index (Rule r) (Rule s) = index r.0 ≡ index s.0
IsSameSymbol index (Rule r) (Token u) = ⊥
IsSameSymbol index (Token t) (Rule s) = ⊥
IsSameSymbol index (Token t) (Token u) = index t.0 ≡ index u.0

-- what a hasher is fed for a symbol: 0 for a rule and 1 for a token, and then what it is fed for the number
abbrev pub symbol_input : {S : Type 0} → (S → List (List ℕ)) → Symbol S → List (List ℕ)
symbol_input input (Rule r) = fed.isize (pos 0) ++ input r.0
symbol_input input (Token t) = fed.isize (pos 1) ++ input t.0

-- how a type is hashed
abbrev pub Hashing : Type 0 → Type 0
Hashing X = record { eq : X → X → Bool; hash_input : X → List (List ℕ) }

-- for a value that holds a number, a hasher is fed what it is fed for the number
abbrev pub HashesByNumber : {X S : Type 0} → (X → S) → (S → List (List ℕ)) → equality.Ghosts X → Hashing X → Type 0
HashesByNumber number input e h = HashesAs (λ x. input (number x)) e.eq h.hash_input

-- for a rule, a hasher is fed what it is fed for its number
abbrev pub RulesHashBy : {S : Type 0} → (S → List (List ℕ)) → equality.Ghosts (RIdx S) → Hashing (RIdx S) → Type 0
RulesHashBy = HashesByNumber (λ rule. rule.0)

-- for a production, a hasher is fed what it is fed for its number
abbrev pub ProdsHashBy : {S : Type 0} → (S → List (List ℕ)) → equality.Ghosts (PIdx S) → Hashing (PIdx S) → Type 0
ProdsHashBy = HashesByNumber (λ prod. prod.0)

-- for a token, a hasher is fed what it is fed for its number
abbrev pub TokensHashBy : {S : Type 0} → (S → List (List ℕ)) → equality.Ghosts (TIdx S) → Hashing (TIdx S) → Type 0
TokensHashBy = HashesByNumber (λ token. token.0)

-- for a state, a hasher is fed what it is fed for its number
abbrev pub StatesHashBy : {S : Type 0} → (S → List (List ℕ)) → equality.Ghosts (StIdx S) → Hashing (StIdx S) → Type 0
StatesHashBy = HashesByNumber (λ state. state.0)

-- for a symbol a hasher is fed which of the two it is, and then what it is fed for the storage number
abbrev pub SymbolsHashBy : {S : Type 0} → (S → List (List ℕ)) → equality.Ghosts (Symbol S) → Hashing (Symbol S) → Type 0
SymbolsHashBy input e h = HashesAs (symbol_input input) e.eq h.hash_input
