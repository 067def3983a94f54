use Rattle.std.proofs.Common.{◌≡◌, map, take}
use Rattle.lrpar_lexer.specs.Rules.{anchored_of}
use Rattle.lrpar_lexer.specs.Searches.{program_of}
use Rattle.lrpar_lexer.proofs.matching.matchers_of.Given as goal

-- the searches so far run the programs of the rules so far
abbrev pub invariant-rules : goal.invariant-rules
invariant-rules g l = map program_of l.matchers.items ≡ map anchored_of (take l.rule-index l.rules)
