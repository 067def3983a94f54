-- The words of levels.
use Rattle.std.specs.Prelude.{ℕ, List, codes}
use Rattle.lrpar_report_lines.specs.declared.levels.Level.{Level}
use Rattle.lrpar_report_lines.specs.declared.levels.Level.TheVariants.{Error, Warning, Note}

-- the word of a level
abbrev pub level_word : Level → List ℕ
level_word Error = codes "error"
level_word Warning = codes "warning"
level_word Note = codes "note"
