-- What a parse is about.
use Rattle.std.specs.Prelude.{ℕ, List}
use Rattle.lrpar_grammar.specs.Sentence.{LexemeFacts}
use Rattle.lrpar_table_check.specs.Checked.{Checked}
use Rattle.lrpar_parse_repair.specs.Asked.{Asked, allowed_at}
use Rattle.lrpar_parse_repair.specs.Recovery.{Point}
use Rattle.lrpar_parse_repair.specs.Sequences.{PlainStep}

-- the checked table; the facts of a lexeme; which answers the recoverer may give at an error point; and how many lexemes must follow a
-- repair
pub record Subject (X : Type 0) : Type 1 where
  pub checked : Checked
  pub facts : X → LexemeFacts
  pub allows : Point X → List (List PlainStep) → Type 0
  pub shifts : ℕ

-- a law of what a recoverer allows at error points holds for each recoverer, each checked table, and each number of lexemes that must
-- follow a repair; `allows` says which answers a recoverer may give
abbrev pub OfRecoverers : {R X : Type 0} → (R → Asked X → List (List PlainStep) → Type 0) → ((Point X → List (List PlainStep) → Type 0) → Type 0) → Type 0
OfRecoverers {R} allows Law = (r : R) (d : Checked) (k : ℕ) → Law (allowed_at (allows r) d k)
