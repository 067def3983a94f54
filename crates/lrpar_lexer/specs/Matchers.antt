-- The searches, as clauses see them.
use Rattle.std.specs.Prelude.{◌≡◌, ℕ, List, map}
use Rattle.regex_meta.specs.declared.program.Program.{Program}
use Rattle.lrpar_lexer.specs.Marks.{AreMarked}
use Rattle.lrpar_lexer.specs.Rules.{anchored_of}
use Rattle.lrpar_lexer.specs.Searches.{program_of}
use Rattle.lrpar_lexer.specs.declared.matching.Matchers.{Matchers}
use Rattle.lrpar_lexer.specs.declared.rule.LexRule.{LexRule}

-- the programs of the searches
abbrev pub programs_of : Matchers → List Program
programs_of m = map program_of m.matchers.items

-- the searches are those for the patterns of the rules
abbrev pub AreMatchersOf : {S : Type 0} → List (LexRule S) → Matchers → Type 0
AreMatchersOf rules m = programs_of m ≡ map anchored_of rules

-- each rule that the walk along the text meets is marked
abbrev pub HasMarksFor : List ℕ → Matchers → Type 0
HasMarksFor text m = AreMarked m.tree.nodes.items text m.marks.marks.items
