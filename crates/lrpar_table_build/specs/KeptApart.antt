-- What precedences keep apart. Let production p of a rule R end in R, and production q of R begin with R and then a token b, as
-- `R: u R` and `R: R b v`. In a state in which p is complete, b is a lookahead of it, and can be shifted too, for q: `u R b v` is
-- `(u R) b v` or `u (R b v)`. What p's precedence and b's decide keeps one of the two from every state.
use Rattle.std.specs.Prelude.{◌≡◌, ◌≢◌, ◌<◌, ◌+◌, ℕ, [], Option, Some, None, slice_get}
use Rattle.lrpar_grammar.specs.Grammar.{Grammar, IsWellFormed, Nonterminal, Terminal, prod_len, prods_len, rule_of, symbols_of}
use Rattle.lrpar_table_precedence.specs.Precedence.{PrecedenceLists, resolution_of}
use Rattle.lrpar_table_precedence.specs.declared.precedence.Resolution.{Resolution}
use Rattle.lrpar_table_precedence.specs.declared.precedence.Resolution.TheVariants.{Shift, Reduce, Error}
use Rattle.lrpar_table_rows.specs.Graph.{Graph, HasCore}
use Rattle.lrpar_table_rows.specs.Table.{Table, ReduceBy, ShiftTo, action_of}
use Rattle.lrpar_table_build.specs.BuilderLaws.{lists_in}
use Rattle.lrpar_table_build.specs.Built.{IsBuiltBy}

-- production p is `R: u R`: of rule r, with r as its last symbol
pub record EndsInItsRule (g : Grammar) (p r : ℕ) : Type 0 where
  pub known : p < prods_len g
  pub of_rule : rule_of g p ≡ r
  pub before : ℕ
  pub len : prod_len g p ≡ before + 1
  pub last : slice_get (symbols_of g p) before ≡ Some (Nonterminal r)

-- production q is `R: R b v`: of rule r, with r and then token b as its first symbols
pub record BeginsWithItsRule (g : Grammar) (q r b : ℕ) : Type 0 where
  pub known : q < prods_len g
  pub of_rule : rule_of g q ≡ r
  pub first : slice_get (symbols_of g q) 0 ≡ Some (Nonterminal r)
  pub second : slice_get (symbols_of g q) 1 ≡ Some (Terminal b)

-- what precedences decide is to reduce, or an error
abbrev pub ReducesOrFails : Option Resolution → Type 0
ReducesOrFails None = ⊥
ReducesOrFails (Some Shift) = ⊥
ReducesOrFails (Some Reduce) = Unit {0}
ReducesOrFails (Some Error) = Unit {0}

-- what precedences decide is to shift, or an error
abbrev pub ShiftsOrFails : Option Resolution → Type 0
ShiftsOrFails None = ⊥
ShiftsOrFails (Some Shift) = Unit {0}
ShiftsOrFails (Some Reduce) = ⊥
ShiftsOrFails (Some Error) = Unit {0}

-- if p against b says reduce or error, no state in which p is complete shifts b, unless reduce/reduce conflicts are listed; and if p
-- against b says shift or error, no state reduces by p at b
pub record AreKeptApart (precedences : PrecedenceLists) (g : Grammar) (graph : Graph) (table : Table) (p b : ℕ) : Type 0 where
  pub no_shift : ReducesOrFails (resolution_of precedences p b) → (lists_in table.conflicts).reduce_reduce ≡ []
      → (s next : ℕ) → HasCore graph s p (prod_len g p) → action_of table s b ≢ ShiftTo next
  pub no_reduction : ShiftsOrFails (resolution_of precedences p b) → (s : ℕ) → action_of table s b ≢ ReduceBy p

-- a table that is built by precedences keeps productions and operators apart, as `AreKeptApart` says
abbrev pub PrecedencesKeepApart : Type 0
PrecedencesKeepApart =
    (precedences : PrecedenceLists) (g : Grammar) (graph : Graph) (table : Table) → IsWellFormed g → IsBuiltBy g precedences graph table
    → (p q r b : ℕ) → EndsInItsRule g p r → BeginsWithItsRule g q r b → AreKeptApart precedences g graph table p b
