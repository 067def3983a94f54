use Rattle.std.proofs.Common.{◌≡◌, ◌≤◌, ◌-◌, ◌++◌, drop, length}
use Rattle.std.specs.Option.{option_or}
use Rattle.std.specs.Str.{IsCharBoundary}
use Rattle.lrpar_grammar_yacc.specs.Erasure.{AreApart}
use Rattle.lrpar_grammar_yacc.specs.Steps.{mid_action, mid_from, parts_from, parts_of, steps_from}
use Rattle.lrpar_grammar_yacc.proofs.StepLemmas.{end_after}
use Rattle.lrpar_grammar_yacc.proofs.text.TextParts.read.Given as goal

-- the parts so far, with those that come, are all parts; and so for the first action that isn't the last of its alternative
abbrev pub invariant-loop-step : goal.invariant-loop-step
invariant-loop-step l =
    let steps = steps_from l.kind l.expected 0 (drop l.place l.text) in
    record {
      within : l.place ≤ length l.text;
      boundary : IsCharBoundary l.text l.place;
      few : l.prod ≤ l.place;
      parts : l.parts.items ++ parts_from l.place l.prod steps ≡ parts_of l.kind l.text;
      mid : option_or l.mid_action (mid_from l.place l.last steps) ≡ mid_action l.kind l.text;
      apart : AreApart l.text 0 l.parts.items;
      before : end_after 0 l.parts.items ≤ l.place;
    }

abbrev pub decreases-loop-step : goal.decreases-loop-step
decreases-loop-step l = length l.text - l.place
