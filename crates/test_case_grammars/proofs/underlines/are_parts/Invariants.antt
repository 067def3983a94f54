use Rattle.std.proofs.Common.{length}
use Rattle.std.specs.List.{AllByRecursion}
use Rattle.lrpar_grammar.specs.SpansFit.{IsPartOf}
use Rattle.test_case_grammars.proofs.underlines.are_parts.Given as goal

-- all are parts if those that are left are
abbrev pub invariant-loop-span : goal.invariant-loop-span
invariant-loop-span l = AllByRecursion (IsPartOf l.text) l.rest → AllByRecursion (IsPartOf l.text) l.spans

abbrev pub decreases-loop-span : goal.decreases-loop-span
decreases-loop-span l = length l.rest
