use Rattle.std.proofs.Common.{◌≡◌, ◌<◌, Bor, List, [], ℕ, get_or, length, map, sym, ap, arith, ◌∙◌}
use Rattle.std.proofs.lemmas.List.{get_or-map, length-map}
use Rattle.lrpar_grammar.proofs.SpelledPartsLemmas.{part_more}
use Rattle.lrpar_grammar.proofs.grammar.spelled_parts.positions_of.Goals as goal

pub loop-part-preserved : goal.loop-part-preserved
loop-part-preserved c =
    let refs : List (Bor (List (Bor (List ℕ)))) = c.args.parts.now in
    let texts_of = λ (texts : Bor (List (Bor (List ℕ)))). map (λ (text : Bor (List ℕ)). text.now) texts.now in
    let parts : List (List (List ℕ)) = map texts_of refs in
    let part = c.loop-part.part in
    let inside : part < length refs = c.loop-part-test.true in
    let within : part < length parts = omega (arith, length-map refs texts_of) in
    let texts = (get_or refs part (record { ref_ptr = (0, 0); now = [] })).now in
    let long : length texts ≡ length (get_or parts part []) =
    sym (length-map texts (λ text. text.now)) ∙ ap length (sym (get_or-map texts_of refs part (record { ref_ptr = (0, 0); now = [] }) [] inside)) in
    part_more parts part (length texts) c.loop-part.places.items c.push_positions.new.places.items within long c.loop-part.invariant c.in_ok-push_positions.ensures
