use Rattle.std.proofs.Common.{◌≡◌, ◌≤◌, ◌+◌, ◌-◌, not, true, Some, drop, length, length-drop, take, ap, sym, ◌∙◌, arith}
use Rattle.std.specs.Option.{is_none}
use Rattle.std.proofs.lemmas.List.{take_all}
use Rattle.lrpar_grammar_words.specs.Words.{piece_at}
use Rattle.lrpar_grammar_yacc.proofs.EndLemmas.{blank_ends, ends_later}
use Rattle.lrpar_grammar_yacc.proofs.PartLemmas.{blanks_more, no_word}
use Rattle.lrpar_grammar_yacc.proofs.parts.blanks_len.Goals as goal

pub loop-piece-preserved : goal.loop-piece-preserved
loop-piece-preserved c =
    let text = c.args.text.now in
    let place = c.loop-piece.place in
    let x = c.in-Some.piece in
    let next = place + x.len in
    let rest : take (length text - place) (drop place text) ≡ drop place text = take_all _ _ (omega (arith, length-drop place text)) in
    let is : piece_at (drop place text) ≡ Some x = ap piece_at (sym rest) ∙ sym c.in-Some.ensures.piece in
    let some = c.in-Some.ensures.within.some in
    let most : next ≤ length text = omega (arith, c.in-Some.ensures.within.most, ap length rest, length-drop place text) in
    let blank = sym c.is_some.ensures ∙ c.if-is_some.false in
    let none : is_none x.word ≡ true = ap not blank in
    record {
      within = most;
      len = omega (arith, c.loop-piece.invariant.len, blanks_more text place x is none some most);
      end = λ _. ends_later text place x.len (blank_ends (drop place text) x is (no_word x.word blank));
    }
