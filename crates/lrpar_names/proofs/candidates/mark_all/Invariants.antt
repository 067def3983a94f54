use Rattle.std.proofs.Common.{◌≡◌, length, map, take}
use Rattle.lrpar_grammar.specs.Grammar.{rules_len}
use Rattle.lrpar_table_rows.specs.PlainItems.{core_of}
use Rattle.lrpar_names.specs.Candidates.{AreMarksOf}
use Rattle.lrpar_names.proofs.candidates.mark_all.Given as goal

-- the rules after the dots of the cores so far are marked
abbrev pub invariant-cores : goal.invariant-cores
invariant-cores g l = record {
  room : length l.marks ≡ rules_len l.grm;
  marks : AreMarksOf l.grm (map (core_of g.StorageT.StorageIndex.index) (take l.prod-index l.cores)) l.marks;
}
