-- The table of a language.
use Rattle.std.specs.Prelude.{ℕ, List}
use Rattle.lrpar_grammar.specs.Grammar.{Grammar}
use Rattle.lrpar_grammar_reader.specs.Spells.{Spells}
use Rattle.lrpar_grammar_unmatched.specs.WithToken.{with_token}
use Rattle.lrpar_table.specs.ParserData.{IsParserDataOf}
use Rattle.lrpar_table_check.specs.Checked.{Checked}

-- the table is the canonical one of the grammar that the text spells, with one more token of this name
abbrev pub IsTableOf : List ℕ → List ℕ → ℕ → ℕ → Checked → Type 0
IsTableOf text name most cap checked = (g : Grammar) × Spells text g × IsParserDataOf (with_token g name) most cap checked
