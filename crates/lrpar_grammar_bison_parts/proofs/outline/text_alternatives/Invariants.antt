use Rattle.std.proofs.Common.{◌≡◌, ◌≤◌, ◌+◌, ◌++◌, List, map, drop, length}
use Rattle.lrpar_grammar_words.specs.Words.{placed as text_placed}
use Rattle.lrpar_grammar_words.specs.Outline.{alternative_of as text_alternative_of}
use Rattle.lrpar_grammar_bison_rules.specs.Aliases.{FileAlias, MapsAliases}
use Rattle.lrpar_grammar_bison_rules.specs.Rules.{alternative_of}
use Rattle.lrpar_grammar_bison_parts.specs.Midrules.{actions_of}
use Rattle.lrpar_grammar_bison_parts.specs.Outline.{text_alternatives}
use Rattle.lrpar_grammar_bison_parts.proofs.outline.text_alternatives.Given as goal

-- the alternatives so far, and those that are left, are all; and there are rules for the actions that are left
abbrev pub invariant-loop-alternative : goal.invariant-loop-alternative
invariant-loop-alternative l = record {
  made : (aliases : List FileAlias) → MapsAliases l.aliases aliases
      → map text_alternative_of l.texts.items ++ text_alternatives aliases (map text_placed (drop l.done l.midrules)) (map alternative_of (drop l.alternative-index l.alternatives))
      ≡ text_alternatives aliases (map text_placed l.midrules) (map alternative_of l.alternatives);
  enough : l.done + length (actions_of (map alternative_of (drop l.alternative-index l.alternatives))) ≤ length l.midrules;
}
