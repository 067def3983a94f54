use Rattle.std.proofs.Common.{◌++◌, ℕ, List, take}
use Rattle.lrpar_table_precedence.specs.declared.precedence.Precedence.{Precedence}
use Rattle.lrpar_table_levels.specs.ByName.{HasPrecedences}
use Rattle.lrpar_table_levels.proofs.NameLemmas.{entries_of}
use Rattle.lrpar_table_levels.proofs.declared.add_names.Given as goal

-- the words so far are there
abbrev pub invariant-loop-word : goal.invariant-loop-word
invariant-loop-word l =
    (entries : List (List ℕ × Precedence)) → HasPrecedences l.initial.names entries
    → HasPrecedences l.names (entries ++ entries_of l.precedence (take l.word-index l.words))
