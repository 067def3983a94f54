use Rattle.std.proofs.Common.{◌≡◌, map, take, List}
use Rattle.lrpar_grammar_bison_rules.specs.Aliases.{FileAlias, MapsAliases}
use Rattle.lrpar_grammar_bison_rules.specs.Rules.{rank_of}
use Rattle.lrpar_grammar_bison_parts.specs.Precedences.{named_rank_of, named_ranks}
use Rattle.lrpar_grammar_bison_parts.proofs.precedences.rank_list.Given as goal

-- the tokens so far
abbrev pub invariant-loop-entry : goal.invariant-loop-entry
invariant-loop-entry l =
    (aliases : List FileAlias) → MapsAliases l.aliases aliases → map named_rank_of l.ranks.items ≡ named_ranks aliases (map rank_of (take l.entry-index l.ranked))
