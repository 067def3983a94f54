use Rattle.std.proofs.Common.{◌≡◌, ◌-◌, ◌+◌, length, length-drop, take, drop, Some, sym, ap, subst, ◌∙◌, List, ℕ, arith}
use Rattle.std.proofs.lemmas.List.{take_all}
use Rattle.lrpar_grammar_words.specs.declared.word_order.Expected.TheVariants.{Declaration}
use Rattle.lrpar_grammar_words.specs.Words.{piece_at, word_at}
use Rattle.lrpar_grammar_words.specs.Outline.{outline_of, with_word}
use Rattle.lrpar_grammar_words.proofs.OutlineLemmas.{OutlinesTo, outlines_all, outlines_blank, outlines_none, outlines_word, refused_end, refused_piece, refused_word}
use Rattle.lrpar_grammar_words.proofs.outline.Outline.read.Goals as goal
use Rattle.lrpar_grammar_words.proofs.outline.Outline.read.Goals.{in-Some-word+in-Some-after+in_ok-add_word, in_default-word}

-- the rest of a text from a place on
rest_is : (bytes text : List ℕ) (place : ℕ) → bytes ≡ text → take (length bytes - place) (drop place bytes) ≡ drop place text
rest_is bytes text place same = take_all (length bytes - place) (drop place bytes) (omega (arith, length-drop place bytes)) ∙ ap (drop place) same

pub loop-place-init : goal.loop-place-init
loop-place-init c = record {
  within = omega arith;
  read = subst (λ o. OutlinesTo c.args.text.now 0 Declaration o) (sym c.new-outline.ensures) (outlines_none c.args.text.now);
}

pub returns-in_default-clause-refused : goal.returns-in_default-clause-refused
returns-in_default-clause-refused c =
    let text = c.args.text.now in
    let place = c.loop-place.place in
    let rest = rest_is c.as_bytes-bytes.result.now text place c.as_bytes-bytes.ensures.value in
    refused_piece text place c.loop-place.expected (outline_of c.loop-place.outline) (omega (arith, c.as_bytes-bytes.ensures.len))
    (ap piece_at (sym rest) ∙ sym c.piece_at.ensures.piece ∙ c.in_default.is) c.loop-place.invariant.read

pub returns-in_default-after-clause-refused : goal.returns-in_default-after-clause-refused
returns-in_default-after-clause-refused c =
    let text = c.args.text.now in
    let place = c.loop-place.place in
    let rest = rest_is c.as_bytes-bytes.result.now text place c.as_bytes-bytes.ensures.value in
    refused_word text place c.loop-place.expected (outline_of c.loop-place.outline) c.in-Some.piece c.in-Some-word.kind
    (ap piece_at (sym rest) ∙ sym c.in-Some.ensures.piece) c.in-Some-word.is (sym c.after.ensures ∙ c.in_default-after.is) c.loop-place.invariant.read

pub loop-place-preserved : goal.loop-place-preserved
loop-place-preserved c =
    let text = c.args.text.now in
    let place = c.loop-place.place in
    let piece = c.in-Some.piece in
    let next = place + piece.len in
    let bytes = c.as_bytes-bytes.result.now in
    let rest : take (length bytes - place) (drop place bytes) ≡ drop place text = rest_is bytes text place c.as_bytes-bytes.ensures.value in
    let is : piece_at (drop place text) ≡ Some piece = ap piece_at (sym rest) ∙ sym c.in-Some.ensures.piece in
    record {
      within = omega (arith, c.in-Some.ensures.within.most, ap length rest, length-drop place text);
      read = elim c.match-piece.branch [
        | in-Some-word+in-Some-after+in_ok-add_word w ↦
            let word = outlines_word text place c.loop-place.expected w.in-Some-after.next (outline_of c.loop-place.outline) piece w.in-Some-word.kind
            w.in-Some-after.role is w.in-Some-word.is (sym w.in-Some-after.ensures) c.loop-place.invariant.read in
            let taken : outline_of c.match-piece.outline ≡ with_word (outline_of c.loop-place.outline) w.in-Some-after.role (word_at place (drop place text) w.in-Some-word.kind piece.len) =
            ap outline_of w.outline-is ∙ w.in_ok-add_word.ensures ∙ ap (with_word (outline_of c.loop-place.outline) w.in-Some-after.role) w.word_at-word.ensures in
            subst (λ e. OutlinesTo text next e (outline_of c.match-piece.outline)) (sym w.expected-is) (subst (OutlinesTo text next w.in-Some-after.next) (sym taken) word)
        | in_default-word w ↦
            let blank = outlines_blank text place c.loop-place.expected (outline_of c.loop-place.outline) piece is w.in_default-word.is c.loop-place.invariant.read in
            subst (λ e. OutlinesTo text next e (outline_of c.match-piece.outline)) (sym w.expected-is)
            (subst (λ o. OutlinesTo text next c.loop-place.expected (outline_of o)) (sym w.outline-is) blank)
      ];
    }

pub returns-then-may_end-clause-outline : goal.returns-then-may_end-clause-outline
returns-then-may_end-clause-outline c =
    let text = c.args.text.now in
    let h1 = c.loop-place-test in
    outlines_all text c.loop-place.place c.loop-place.expected (outline_of c.loop-place.outline) (omega (arith, c.as_bytes-bytes.ensures.len)) (sym c.may_end.ensures ∙ c.if-may_end.true) c.loop-place.invariant.read

pub returns-clause-refused : goal.returns-clause-refused
returns-clause-refused c =
    let text = c.args.text.now in
    refused_end text c.loop-place.place c.loop-place.expected (outline_of c.loop-place.outline) (omega (arith, c.as_bytes-bytes.ensures.len)) (sym c.may_end.ensures ∙ c.if-may_end.false) c.loop-place.invariant.read
