use Rattle.std.proofs.Common.{◌≡◌, ◌-◌, ◌+◌, ◌++◌, ◌∷◌, [], length, length-drop, map, take, drop, Some, option_map, sym, ap, subst, ◌∙◌, List, ℕ, arith}
use Rattle.std.specs.Option.{option_to_list}
use Rattle.std.proofs.lemmas.List.{append-nil, map-append, take_all}
use Rattle.lrpar_grammar_words.specs.Words.{piece_at, placed, word_at}
use Rattle.lrpar_grammar_words.proofs.OutlineLemmas.{ReadsTo, reads_all, reads_more, reads_none, reads_stuck, word_of_piece}
use Rattle.lrpar_grammar_words.proofs.word_list.read_words.Goals as goal
use Rattle.lrpar_grammar_words.proofs.word_list.read_words.Goals.{in-Some-word+in_ok-push, in_default-word}

-- the rest of a text from a place on
rest_is : (bytes text : List ℕ) (place : ℕ) → bytes ≡ text → take (length bytes - place) (drop place bytes) ≡ drop place text
rest_is bytes text place same = take_all (length bytes - place) (drop place bytes) (omega (arith, length-drop place bytes)) ∙ ap (drop place) same

pub loop-place-init : goal.loop-place-init
loop-place-init c = record {
  within = omega arith;
  read = subst (λ s. ReadsTo c.args.text.now 0 (map placed s)) (sym c.new-words.ensures.items) (reads_none c.args.text.now);
}

pub returns-in_default : goal.returns-in_default
returns-in_default c =
    let text = c.args.text.now in
    let place = c.loop-place.place in
    let rest = rest_is c.as_bytes-bytes.result.now text place c.as_bytes-bytes.ensures.value in
    reads_stuck text place (map placed c.loop-place.words.items) (omega (arith, c.as_bytes-bytes.ensures.len))
    (ap piece_at (sym rest) ∙ sym c.piece_at.ensures.piece ∙ c.in_default.is) c.loop-place.invariant.read

pub loop-place-preserved : goal.loop-place-preserved
loop-place-preserved c =
    let text = c.args.text.now in
    let place = c.loop-place.place in
    let piece = c.in-Some.piece in
    let next = place + piece.len in
    let seen = map placed c.loop-place.words.items in
    let bytes = c.as_bytes-bytes.result.now in
    let rest : take (length bytes - place) (drop place bytes) ≡ drop place text = rest_is bytes text place c.as_bytes-bytes.ensures.value in
    let is : piece_at (drop place text) ≡ Some piece = ap piece_at (sym rest) ∙ sym c.in-Some.ensures.piece in
    let more = reads_more text place seen piece is c.loop-place.invariant.read in
    record {
      within = omega (arith, c.in-Some.ensures.within.most, ap length rest, length-drop place text);
      read = elim c.match-piece.branch [
        | in-Some-word+in_ok-push w ↦
            let kind = w.in-Some-word.kind in
            let word : word_of_piece place (drop place text) piece ≡ word_at place (drop place text) kind piece.len ∷ [] =
            ap (λ k. option_to_list (option_map (λ k. word_at place (drop place text) k piece.len) k)) w.in-Some-word.is in
            let pushed : map placed c.match-piece.words.items ≡ seen ++ word_at place (drop place text) kind piece.len ∷ [] =
            ap (λ v. map placed v.items) w.words-is ∙ ap (map placed) w.in_ok-push.ensures.items ∙ map-append placed c.loop-place.words.items _
            ∙ ap (λ x. seen ++ x ∷ []) w.word_at.ensures in
            subst (ReadsTo text next) (ap (λ s. seen ++ s) word ∙ sym pushed) more
        | in_default-word w ↦
            let blank : word_of_piece place (drop place text) piece ≡ [] =
            ap (λ k. option_to_list (option_map (λ k. word_at place (drop place text) k piece.len) k)) w.in_default-word.is in
            let same : map placed c.match-piece.words.items ≡ seen = ap (λ v. map placed v.items) w.words-is in
            subst (ReadsTo text next) (ap (λ s. seen ++ s) blank ∙ append-nil seen ∙ sym same) more
      ];
    }

pub returns : goal.returns
returns c =
    let text = c.args.text.now in
    (reads_all text c.loop-place.place (map placed c.loop-place.words.items) (omega (arith, c.as_bytes-bytes.ensures.len)) c.loop-place.invariant.read).0
