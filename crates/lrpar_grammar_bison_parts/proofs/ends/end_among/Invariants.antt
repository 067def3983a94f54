use Rattle.std.proofs.Common.{◌≡◌, List, drop, map}
use Rattle.lrpar_grammar_bison_rules.specs.Aliases.{FileAlias, MapsAliases}
use Rattle.lrpar_grammar_bison_rules.specs.Rules.{item_of}
use Rattle.lrpar_grammar_bison_parts.specs.Ends.{end_among}
use Rattle.lrpar_grammar_bison_parts.proofs.ends.end_among.Given as goal

-- no symbol so far is the token
abbrev pub invariant-loop-item : goal.invariant-loop-item
invariant-loop-item l = (aliases : List FileAlias) → MapsAliases l.aliases aliases → end_among aliases l.end (map item_of l.items) ≡ end_among aliases l.end (map item_of (drop l.item-index l.items))
