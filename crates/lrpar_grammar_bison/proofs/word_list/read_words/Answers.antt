use Rattle.std.proofs.Common.{◌≡◌, ◌≤◌, ◌-◌, ◌+◌, ◌++◌, ◌∷◌, [], length, length-drop, map, take, drop, Some, None, option_map, sym, ap, ◌∙◌, List, ℕ, arith}
use Rattle.std.specs.Option.{option_to_list}
use Rattle.std.proofs.lemmas.List.{append-nil, map-append, take_all}
use Rattle.lrpar_grammar_bison.specs.Words.{PlacedWord, piece_at, placed, word_at}
use Rattle.lrpar_grammar_bison.specs.WordList.{Reading, all_read, marks, read, read_from, with_words, word_of}
use Rattle.lrpar_grammar_bison.proofs.ListLemmas.{read_done, read_more, read_past, with_more}
use Rattle.lrpar_grammar_bison.proofs.word_list.read_words.Goals as goal
use Rattle.lrpar_grammar_bison.proofs.word_list.read_words.Goals.{in-Some-word+in_ok-push, in_default-word, then-loop-place-test+else-sections-lt2, else-loop-place-test}

-- the rest of a text from a place on
rest_is : (bytes text : List ℕ) (place : ℕ) → bytes ≡ text → take (length bytes - place) (drop place bytes) ≡ drop place text
rest_is bytes text place same = take_all (length bytes - place) (drop place bytes) (omega (arith, length-drop place bytes)) ∙ ap (drop place) same

-- these words, and nothing is stuck
abbrev no_more : List PlacedWord → Reading
no_more words = record { words = words; stuck = None }

pub loop-place-preserved : goal.loop-place-preserved
loop-place-preserved c =
    let text = c.args.text.now in
    let place = c.loop-place.place in
    let sections = c.loop-place.sections in
    let piece = c.in-Some.piece in
    let next = place + piece.len in
    let seen = map placed c.loop-place.words.items in
    let bytes = c.as_bytes-bytes.result.now in
    let rest : take (length bytes - place) (drop place bytes) ≡ drop place text = rest_is bytes text place c.as_bytes-bytes.ensures.value in
    let is : piece_at (drop place text) ≡ Some piece = ap piece_at (sym rest) ∙ sym c.in-Some.ensures.piece in
    let most : next ≤ length text = omega (arith, c.in-Some.ensures.within.most, ap length rest, length-drop place text) in
    let here = word_of place (drop place text) piece in
    let later = λ (n : ℕ). read_from next n 0 (drop next text) in
    let more : read_from place sections 0 (drop place text) ≡ with_words here (later (sections + marks piece.word)) =
    read_more text place sections piece is c.if-sections-lt2.true (omega (arith, c.loop-place-test.true, c.as_bytes-bytes.ensures.len)) c.in-Some.ensures.within.some most in
    let all : with_words (seen ++ here) (later (sections + marks piece.word)) ≡ read text =
    sym (with_more seen here (later (sections + marks piece.word))) ∙ ap (with_words seen) (sym more) ∙ c.loop-place.invariant.read in
    record {
      within = most;
      few = elim c.match-piece.branch [
        | in-Some-word+in_ok-push w ↦ omega (arith, w.sections-is, w.marks-sections.ensures.few, c.if-sections-lt2.true)
        | in_default-word w ↦ omega (arith, w.sections-is, c.if-sections-lt2.true)
      ];
      read = elim c.match-piece.branch [
        | in-Some-word+in_ok-push w ↦
            let kind = w.in-Some-word.kind in
            let word : here ≡ word_at place (drop place text) kind piece.len ∷ [] =
            ap (λ k. option_to_list (option_map (λ k. word_at place (drop place text) k piece.len) k)) w.in-Some-word.is in
            let pushed : map placed c.match-piece.words.items ≡ seen ++ word_at place (drop place text) kind piece.len ∷ [] =
            ap (λ v. map placed v.items) w.words-is ∙ ap (map placed) w.in_ok-push.ensures.items ∙ map-append placed c.loop-place.words.items _
            ∙ ap (λ x. seen ++ x ∷ []) w.word_at.ensures in
            let counted : c.match-piece.sections ≡ sections + marks piece.word =
            w.sections-is ∙ ap (λ n. sections + n) (w.marks-sections.ensures.marks ∙ sym (ap marks w.in-Some-word.is)) in
            ap (λ ws. with_words ws (later c.match-piece.sections)) (pushed ∙ ap (λ s. seen ++ s) (sym word)) ∙ ap (λ n. with_words (seen ++ here) (later n)) counted ∙ all
        | in_default-word w ↦
            let blank : here ≡ [] =
            ap (λ k. option_to_list (option_map (λ k. word_at place (drop place text) k piece.len) k)) w.in_default-word.is in
            let same : map placed c.match-piece.words.items ≡ seen ++ here = ap (λ v. map placed v.items) w.words-is ∙ sym (append-nil seen) ∙ ap (λ s. seen ++ s) (sym blank) in
            let none : sections ≡ sections + 0 = omega arith in
            let counted : c.match-piece.sections ≡ sections + marks piece.word = w.sections-is ∙ none ∙ ap (λ n. sections + n) (sym (ap marks w.in_default-word.is)) in
            ap (λ ws. with_words ws (later c.match-piece.sections)) same ∙ ap (λ n. with_words (seen ++ here) (later n)) counted ∙ all
      ];
    }

pub returns-clause-words : goal.returns-clause-words
returns-clause-words c =
    let text = c.args.text.now in
    let place = c.loop-place.place in
    let sections = c.loop-place.sections in
    let seen = map placed c.loop-place.words.items in
    let done : read_from place sections 0 (drop place text) ≡ all_read =
    elim c.loop-place-test.branch [
      | then-loop-place-test+else-sections-lt2 w ↦ read_done text place sections (omega (arith, w.if-sections-lt2.false))
      | else-loop-place-test w ↦ read_past text place sections (omega (arith, w.loop-place-test.false, c.as_bytes-bytes.ensures.len))
    ] in
    sym c.loop-place.invariant.read ∙ ap (with_words seen) done ∙ ap no_more (append-nil seen)
