-- What the check of one state finds, over the parts that are checked.
use Rattle.std.specs.Prelude.{◌<◌, ℕ, Bool, IsTrue, List, MatchOption, Option}
use Rattle.lrpar_grammar_places.specs.declared.span.PIdx.{PIdx}
use Rattle.lrpar_grammar_places.specs.declared.span.StIdx.{StIdx}
use Rattle.lrpar_grammar.specs.Grammar.{IsWellFormed}
use Rattle.lrpar_table_rows.specs.Graph.{HasCore}
use Rattle.lrpar_table_rows.specs.Safe.{HasShape}
use Rattle.lrpar_table_rows.specs.Table.{states_len}
use Rattle.lrpar_table_viable.specs.Marks.{AreExact, AreMarked, IsFaultAt, IsFirstByMarks, MarksOn, is_by_marks}
use Rattle.lrpar_table_viable.specs.Viable.{IsViable, IsViableAt, IsViableFault}
use Rattle.lrpar_table_viable.specs.declared.marks.Viability.{Viability}
use Rattle.lrpar_table_viable.specs.declared.viable_fault.ViableFault.{ViableFault}

-- the grammar is well formed, and graph and table have their shape
pub record AreSound {S : Type 0} (d : Viability S) : Type 0 where
  pub formed : IsWellFormed d.grm.now
  pub shape : HasShape d.grm.now d.sgraph.now d.stable.now

-- what is wrong with the table, or nothing: it is viable
abbrev pub IsViableFaultOf : {S : Type 0} → Viability S → Option ViableFault → Type 0
IsViableFaultOf d found = MatchOption found (IsViable d.grm.now d.sgraph.now d.stable.now) (IsViableFault d.grm.now d.sgraph.now d.stable.now)

module _ {S : Type 0} (index : S → ℕ) (d : Viability S) (s : StIdx S) where
  -- s is a state of the table
  abbrev pub IsState : Type 0
  IsState = index s.0 < states_len d.stable.now

  -- what is wrong in state s, or nothing: it is viable
  abbrev pub IsFaultOfState : Option ViableFault → Type 0
  IsFaultOfState found =
      MatchOption found (IsViableAt d.grm.now d.sgraph.now d.stable.now (index s.0)) (IsFaultAt d.grm.now d.sgraph.now d.stable.now (index s.0))

  -- there is a mark for each rule, and each rule that is marked is after the dot of a justified core of state s
  abbrev pub AreMarksOf : List Bool → Type 0
  AreMarksOf marks = AreMarked d.grm.now d.sgraph.now d.stable.now (index s.0) marks

  -- the marks justify exactly the justified cores of state s
  abbrev pub AreExactMarks : List Bool → Type 0
  AreExactMarks marks = AreExact d.grm.now d.sgraph.now d.stable.now (index s.0) marks

  -- for each core of state s that the marks justify, the rule after its dot is marked
  abbrev pub AreClosedMarks : List Bool → Type 0
  AreClosedMarks marks = (p k : ℕ) → HasCore d.sgraph.now (index s.0) p k → MarksOn d.grm.now d.stable.now (index s.0) marks p k

  -- state s has the core of the production with k symbols before the dot
  abbrev pub HasCoreOf : PIdx S → ℕ → Type 0
  HasCoreOf pidx k = HasCore d.sgraph.now (index s.0) (index pidx.0) k

  -- whether the marks justify the core of the production with k symbols before the dot
  abbrev pub by_marks : List Bool → PIdx S → ℕ → Bool
  by_marks marks pidx k = is_by_marks d.grm.now d.stable.now (index s.0) marks (index pidx.0) k

  -- if the marks justify the core of the production with k symbols before the dot, the rule after its dot is marked
  abbrev pub MarkAfter : List Bool → PIdx S → ℕ → Type 0
  MarkAfter marks pidx k = MarksOn d.grm.now d.stable.now (index s.0) marks (index pidx.0) k

  -- the first production whose core with dot 0 the marks don't justify; or nothing, since they justify each core of state s
  abbrev pub IsFirstRefused : List Bool → Option (PIdx S) → Type 0
  IsFirstRefused marks found =
      MatchOption found ((p k : ℕ) → HasCore d.sgraph.now (index s.0) p k → IsTrue (is_by_marks d.grm.now d.stable.now (index s.0) marks p k))
      (λ pidx. IsFirstByMarks d.grm.now d.sgraph.now d.stable.now (index s.0) marks (index pidx.0))
