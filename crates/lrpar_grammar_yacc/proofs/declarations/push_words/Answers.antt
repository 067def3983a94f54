use Rattle.std.proofs.Common.{◌≡◌, ◌≤◌, ◌+◌, ◌-◌, ◌++◌, ◌∷◌, [], length, length-drop, map, take, drop, Some, option_map, sym, ap, ◌∙◌, arith}
use Rattle.std.specs.Option.{option_to_list}
use Rattle.std.proofs.lemmas.List.{append-nil, append_assoc, map-append, take_all}
use Rattle.lrpar_grammar_words.specs.declared.words.WordKind.{WordKind}
use Rattle.lrpar_grammar_words.specs.Words.{piece_at, placed, word_at}
use Rattle.lrpar_grammar_yacc.specs.Declares.{words_from}
use Rattle.lrpar_grammar_yacc.proofs.DeclareLemmas.{word_of, words_more, words_past}
use Rattle.lrpar_grammar_yacc.proofs.declarations.push_words.Goals as goal
use Rattle.lrpar_grammar_yacc.proofs.declarations.push_words.Goals.{in-Some-word+in_ok-push, in_default-word}

pub loop-place-preserved : goal.loop-place-preserved
loop-place-preserved c =
    let text = c.args.text.now in
    let place = c.loop-place.place in
    let end = c.args.part.end in
    let x = c.in-Some.piece in
    let next = place + x.len in
    let old = map placed c.loop-place.words.items in
    let bytes = c.as_bytes-bytes.result.now in
    let rest : take (length bytes - place) (drop place bytes) ≡ drop place text = take_all _ _ (omega (arith, length-drop place bytes)) ∙ ap (drop place) c.as_bytes-bytes.ensures.value in
    let is : piece_at (drop place text) ≡ Some x = ap piece_at (sym rest) ∙ sym c.in-Some.ensures.piece in
    let some = c.in-Some.ensures.within.some in
    let most : next ≤ length text = omega (arith, c.in-Some.ensures.within.most, ap length rest, length-drop place text) in
    let later = words_from next (end - next) 0 (drop next text) in
    let more = words_more text place end x is c.loop-place-test.true some most in
    let all : old ++ (word_of place (drop place text) x ++ later) ≡ _ = ap (λ ws. old ++ ws) (sym more) ∙ c.loop-place.invariant.words in
    record {
      within = most;
      words = elim c.match-piece.branch [
        | in-Some-word+in_ok-push w ↦
            let kind = w.in-Some-word.kind in
            let word : word_of place (drop place text) x ≡ word_at place (drop place text) kind x.len ∷ [] =
            ap (λ k. option_to_list (option_map (λ (k : WordKind). word_at place (drop place text) k x.len) k)) w.in-Some-word.is in
            let pushed : map placed c.match-piece.words.items ≡ old ++ word_at place (drop place text) kind x.len ∷ [] =
            ap (λ v. map placed v.items) w.words-is ∙ ap (map placed) w.in_ok-push.ensures.items ∙ map-append placed c.loop-place.words.items _
            ∙ ap (λ x. old ++ x ∷ []) w.word_at.ensures in
            ap (λ ws. ws ++ later) pushed ∙ append_assoc old (word_at place (drop place text) kind x.len ∷ []) later ∙ ap (λ ws. old ++ (ws ++ later)) (sym word) ∙ all
        | in_default-word w ↦
            let blank : word_of place (drop place text) x ≡ [] =
            ap (λ k. option_to_list (option_map (λ (k : WordKind). word_at place (drop place text) k x.len) k)) w.in_default-word.is in
            ap (λ v. map placed v.items ++ later) w.words-is ∙ ap (λ ws. old ++ (ws ++ later)) (sym blank) ∙ all
      ];
    }

pub returns : goal.returns
returns c =
    let old = map placed c.loop-place.words.items in
    sym (append-nil old) ∙ ap (λ ws. old ++ ws) (sym (words_past c.args.text.now c.loop-place.place c.args.part.end (omega arith))) ∙ c.loop-place.invariant.words
