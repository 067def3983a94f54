-- Marks of rules, by which the justified cores of a state are found: a rule is marked if a justified core has it after its dot.
use Rattle.std.specs.Prelude.{◌≡◌, ◌<◌, ◌==◌, ◌&&◌, ◌||◌, ◌↔◌, ℕ, Bool, IsTrue, List, ◌∷◌, count_by, drop, false, length, not, slice_index_or}
use Rattle.lrpar_grammar.specs.Grammar.{Grammar, GrammarSymbol, Nonterminal, rule_of, rules_len, start_prod, symbols_of}
use Rattle.lrpar_table_rows.specs.Graph.{Graph, HasCore}
use Rattle.lrpar_table_rows.specs.Table.{Table}
use Rattle.lrpar_table_viable.specs.Viable.{IsJustified}
use Rattle.lrpar_table_viable.specs.declared.viable_fault.ViableFault.{ViableFault}
use Rattle.lrpar_table_viable.specs.declared.viable_fault.ViableFault.TheVariants.{Empty, Memory, Unjustified}

-- whether rule r is marked; out of range, it isn't
abbrev pub is_marked : List Bool → ℕ → Bool
is_marked marks r = slice_index_or marks r false

-- how many rules aren't marked
abbrev pub unmarked : List Bool → ℕ
unmarked marks = count_by not marks

-- whether the core of production p is `^: . S`, in the start state
abbrev pub is_begin : Grammar → Table → ℕ → ℕ → Bool
is_begin g table s p = (p == start_prod g) && (s == table.start)

-- whether the marks justify the core of production p with k symbols before the dot, in state s: the dot is past 0; or it is `^: . S`,
-- in the start state; or the production's rule is marked
abbrev pub is_by_marks : Grammar → Table → ℕ → List Bool → ℕ → ℕ → Bool
is_by_marks g table s marks p k = not (k == 0) || (is_begin g table s p || is_marked marks (rule_of g p))

-- a justified core of state s has rule r after its dot
pub record IsCalled (g : Grammar) (graph : Graph) (table : Table) (s r : ℕ) : Type 0 where
  pub prod : ℕ
  pub dot : ℕ
  pub rest : List GrammarSymbol
  pub justified : IsJustified g graph table s prod dot
  pub before : drop dot (symbols_of g prod) ≡ Nonterminal r ∷ rest

-- marks of a grammar's rules: each rule that is marked is after the dot of a justified core of state s
pub record AreMarked (g : Grammar) (graph : Graph) (table : Table) (s : ℕ) (marks : List Bool) : Type 0 where
  pub rules : length marks ≡ rules_len g
  pub called : (r : ℕ) → IsTrue (is_marked marks r) → IsCalled g graph table s r

-- if the marks justify the core, the rule after its dot is marked
abbrev pub MarksOn : Grammar → Table → ℕ → List Bool → ℕ → ℕ → Type 0
MarksOn g table s marks p k = IsTrue (is_by_marks g table s marks p k)
    → (r : ℕ) (rest : List GrammarSymbol) → drop k (symbols_of g p) ≡ Nonterminal r ∷ rest → IsTrue (is_marked marks r)

-- the marks justify exactly the justified cores of state s
abbrev pub AreExact : Grammar → Graph → Table → ℕ → List Bool → Type 0
AreExact g graph table s marks = (p k : ℕ) → HasCore graph s p k → IsTrue (is_by_marks g table s marks p k) ↔ IsJustified g graph table s p k

-- the marks don't justify the core of production p with dot 0, which state s has, and justify each such core of a production before p
pub record IsFirstByMarks (g : Grammar) (graph : Graph) (table : Table) (s : ℕ) (marks : List Bool) (p : ℕ) : Type 0 where
  pub has : HasCore graph s p 0
  pub unmarked : is_by_marks g table s marks p 0 ≡ false
  pub lower : (q : ℕ) → q < p → HasCore graph s q 0 → IsTrue (is_by_marks g table s marks q 0)

-- state s has the core of production p with dot 0, which isn't justified; each such core of a production before p is
pub record IsUnjustifiedAt (g : Grammar) (graph : Graph) (table : Table) (s p : ℕ) : Type 0 where
  pub has : HasCore graph s p 0
  pub unjustified : ¬ (IsJustified g graph table s p 0)
  pub lower : (q : ℕ) → q < p → HasCore graph s q 0 → IsJustified g graph table s q 0

-- the fault is what is wrong in state s
abbrev pub IsFaultAt : Grammar → Graph → Table → ℕ → ViableFault → Type 0
IsFaultAt g graph table s (Empty r) = (r ≡ s) × ((p k : ℕ) → ¬ (HasCore graph s p k))
IsFaultAt g graph table s (Unjustified r p) = (r ≡ s) × IsUnjustifiedAt g graph table s p
IsFaultAt g graph table s Memory = ⊥
