use Rattle.std.proofs.Common.{◌≡◌, ◌≤◌, ◌+◌, ◌-◌, ◌++◌, Some, drop, length, length-drop, take, refl, ap, sym, subst, ◌∙◌, arith}
use Rattle.std.specs.Option.{option_or}
use Rattle.std.specs.Str.{IsCharBoundary}
use Rattle.std.proofs.lemmas.List.{append_assoc, take_all}
use Rattle.std.proofs.lemmas.Str.{IsCharBoundary-start}
use Rattle.lrpar_grammar_yacc.specs.Erasure.{AreApart}
use Rattle.lrpar_grammar_yacc.specs.Parts.{EndsAtAscii}
use Rattle.lrpar_grammar_yacc.specs.Steps.{action_after, ends, mid_before, mid_from, part_of, parts_from, parts_of, step_at, steps_from}
use Rattle.lrpar_grammar_yacc.proofs.EndLemmas.{ends_boundary}
use Rattle.lrpar_grammar_yacc.proofs.StepLemmas.{apart_step, end_after, or_or, steps_more}
use Rattle.lrpar_grammar_yacc.proofs.text.TextParts.read.Goals as goal

pub loop-step-init : goal.loop-step-init
loop-step-init c = record {
  within = omega arith;
  boundary = IsCharBoundary-start c.args.text.now c.utf8.text;
  few = omega arith;
  parts = ap (λ ps. ps ++ parts_of c.args.kind c.args.text.now) c.new-parts.ensures.items;
  mid = refl;
  apart = subst (AreApart c.args.text.now 0) (sym c.new-parts.ensures.items) (IsCharBoundary-start c.args.text.now c.utf8.text);
  before = omega (arith, ap (end_after 0) c.new-parts.ensures.items);
}

pub loop-step-preserved : goal.loop-step-preserved
loop-step-preserved c =
    let text = c.args.text.now in
    let kind = c.args.kind in
    let place = c.loop-step.place in
    let e = c.loop-step.expected in
    let prod = c.loop-step.prod in
    let last = c.loop-step.last in
    let mid = c.loop-step.mid_action in
    let old = c.loop-step.parts.items in
    let x = c.in-Some.step in
    let next = place + x.len in
    let bytes = c.as_bytes-bytes.result.now in
    let rest : take (length bytes - place) (drop place bytes) ≡ drop place text = take_all _ _ (omega (arith, length-drop place bytes)) ∙ ap (drop place) c.as_bytes-bytes.ensures.value in
    let is : step_at kind e (drop place text) ≡ Some x = ap (step_at kind e) (sym rest) ∙ sym c.in-Some.ensures.step in
    let fits = c.in-Some.ensures.within in
    let most : next ≤ length text = omega (arith, fits.most, ap length rest, length-drop place text) in
    let end : EndsAtAscii (drop place text) x.len = subst (λ s. EndsAtAscii s x.len) rest fits.end in
    let later = steps_from kind x.next 0 (drop next text) in
    let steps = steps_more kind e text place x is fits.some most in
    let pushed = c.in_ok-push_part.ensures in
    let boundary : IsCharBoundary text next = ends_boundary text place x.len c.utf8.text most end in
    let apart = apart_step text old place prod x x.kind c.loop-step.invariant.apart c.loop-step.invariant.before c.loop-step.invariant.boundary boundary fits.body in
    let new = c.push_part.new.parts.items in
    record {
      within = most;
      boundary = boundary;
      few = omega (arith, c.loop-step.invariant.few, c.ends-prod.ensures.few, fits.some);
      parts = ap (λ ps. ps ++ parts_from next (prod + c.ends-prod.result) later) pushed
          ∙ ap (λ n. (old ++ part_of place prod x x.kind) ++ parts_from next (prod + n) later) c.ends-prod.ensures.ends
          ∙ append_assoc old (part_of place prod x x.kind) (parts_from next (prod + ends x.kind) later)
          ∙ sym (ap (λ xs. old ++ parts_from place prod xs) steps) ∙ c.loop-step.invariant.parts;
      mid = ap (λ m. option_or m (mid_from next c.action_after-last.result later)) c.or-mid_action.ensures
          ∙ ap (λ b. option_or (option_or mid b) (mid_from next c.action_after-last.result later)) c.mid_before.ensures
          ∙ ap (λ a. option_or (option_or mid (mid_before x.kind last)) (mid_from next a later)) c.action_after-last.ensures
          ∙ or_or mid (mid_before x.kind last) (mid_from next (action_after place x.len x.kind last) later)
          ∙ sym (ap (λ xs. option_or mid (mid_from place last xs)) steps) ∙ c.loop-step.invariant.mid;
      apart = subst (AreApart text 0) (sym pushed) apart.0;
      before = omega (arith, apart.1, ap (end_after 0) pushed);
    }
