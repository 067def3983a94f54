use Rattle.std.proofs.Common.{◌≡◌, ◌≤◌, ◌+◌, ◌-◌, length, length-drop, take, drop, Some, get_or, sym, ap, ◌∙◌, arith}
use Rattle.std.proofs.lemmas.List.{take_all}
use Rattle.lrpar_grammar_code.specs.Code.{more, piece_len, run_len}
use Rattle.lrpar_grammar_code.proofs.CodeLemmas.{run_more}
use Rattle.lrpar_grammar_code.proofs.code.run_len.Goals as goal

pub loop-place-preserved : goal.loop-place-preserved
loop-place-preserved c =
    let text = c.args.code.now in
    let place = c.loop-place.place in
    let len = c.in_ok-len.len in
    let rest : take (length text - (place + 1)) (drop (place + 1) text) ≡ drop (place + 1) text = take_all _ _ (omega (arith, length-drop (place + 1) text)) in
    let fits = c.in_ok-len.ensures.within in
    let few : place + len ≤ length text = omega (arith, fits.1, ap length rest, length-drop (place + 1) text) in
    let piece : piece_len c.args.run (get_or text place 0) (drop (place + 1) text) ≡ Some len = ap (piece_len c.args.run (get_or text place 0)) (sym rest) ∙ sym c.in_ok-len.ensures.len in
    record {
      within = few;
      few = omega (arith, fits.0, c.loop-place.invariant.few, c.depth_after-depth.ensures.few);
      len = c.loop-place.invariant.len ∙ run_more c.args.run c.loop-place.depth text place len c.loop-place-test.true fits.0 few piece (sym c.is_end.ensures ∙ c.if-is_end.false)
          ∙ ap (λ d. more (place + len) (run_len c.args.run d 0 (drop (place + len) text))) (sym c.depth_after-depth.ensures.depth);
    }
