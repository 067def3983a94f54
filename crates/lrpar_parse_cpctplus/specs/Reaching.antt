-- How far a parse goes on after a repair.
use Rattle.std.specs.Prelude.{◌<◌, ◌≤◌, ◌+◌, ℕ, List, length, min}
use Rattle.lrpar_grammar.specs.Grammar.{Grammar}
use Rattle.lrpar_table_rows.specs.Table.{Table}
use Rattle.lrpar_table_stacks.specs.Expected.{AcceptsAtEnd}
use Rattle.lrpar_table_stacks.specs.Reduction.{Feeds}
use Rattle.lrpar_table_stacks.specs.Run.{token_at}
use Rattle.lrpar_parse_repair.specs.Asked.{Asked}
use Rattle.lrpar_parse_repair.specs.Sequences.{PlainStep}
use Rattle.lrpar_parse_cpctplus.specs.Cheapest.{LeadsTo}

-- From the stack at place i lexemes are fed until one can't be, or up to place `most`: a parse reaches that place. It reaches one
-- more if no lexeme is left and the stack accepts.
pub data Reaches {X : Type 0} (token : X → ℕ) (g : Grammar) (table : Table) (lexemes : List X) (most : ℕ) : List ℕ → ℕ → ℕ → Type 0 where
  -- lexeme i is fed, and those from the next one on
  feeds_on : (st : List ℕ) (i : ℕ) (prods next : List ℕ) (far : ℕ) → i < most → i < length lexemes
      → Feeds g table (token_at token g lexemes i) st prods next → Reaches token g table lexemes most next (i + 1) far
      → Reaches token g table lexemes most st i far
  -- lexeme i can't be fed
  fails_at : (st : List ℕ) (i : ℕ) → i < most → i < length lexemes
      → ((prods next : List ℕ) → ¬ (Feeds g table (token_at token g lexemes i) st prods next)) → Reaches token g table lexemes most st i i
  -- place `most` is reached, and a lexeme is left
  is_far : (st : List ℕ) (i : ℕ) → most ≤ i → i < length lexemes → Reaches token g table lexemes most st i most
  -- no lexeme is left, and the stack doesn't accept
  ends_at : (st : List ℕ) (i : ℕ) → length lexemes ≤ i → ¬ (AcceptsAtEnd g table st) → Reaches token g table lexemes most st i (min i most)
  -- no lexeme is left, and it accepts
  accepts_at : (st : List ℕ) (i : ℕ) → length lexemes ≤ i → AcceptsAtEnd g table st → Reaches token g table lexemes most st i (min i most + 1)

-- after these steps at the error point a parse reaches this place, at most 250 places past the error point
abbrev pub GoesAsFar : {X : Type 0} → (X → ℕ) → Asked X → List PlainStep → ℕ → Type 0
GoesAsFar token at steps far =
    (after : List ℕ) × (j : ℕ) × LeadsTo token at steps after j
    × Reaches token at.checked.grammar at.checked.table at.lexemes (at.place + 250) after j far
