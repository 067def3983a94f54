use Rattle.std.proofs.Common.{◌≡◌, ◌<◌, ◌≤◌, ◌+◌, ◌-◌, not, true, Some, drop, get_or, length, length-drop, take, ap, sym, subst, ◌∙◌, arith}
use Rattle.std.specs.Option.{is_none}
use Rattle.std.proofs.lemmas.List.{get_or-drop, take_all}
use Rattle.lrpar_grammar_words.specs.Words.{piece_at}
use Rattle.lrpar_grammar_yacc.specs.Parts.{names_from}
use Rattle.lrpar_grammar_yacc.proofs.PartLemmas.{name_last, names_blank, names_name}
use Rattle.lrpar_grammar_yacc.proofs.parts.names_len.Goals as goal
use Rattle.lrpar_grammar_yacc.proofs.parts.names_len.Goals.{then-is_name, else-is_name+else-is_some}

pub loop-piece-preserved : goal.loop-piece-preserved
loop-piece-preserved c =
    let text = c.args.text.now in
    let place = c.loop-piece.place in
    let end = c.loop-piece.end in
    let x = c.in-Some.piece in
    let next = place + x.len in
    let now = c.if-is_name.end in
    let rest : take (length text - place) (drop place text) ≡ drop place text = take_all _ _ (omega (arith, length-drop place text)) in
    let is : piece_at (drop place text) ≡ Some x = ap piece_at (sym rest) ∙ sym c.in-Some.ensures.piece in
    let some = c.in-Some.ensures.within.some in
    let most : next ≤ length text = omega (arith, c.in-Some.ensures.within.most, ap length rest, length-drop place text) in
    elim c.if-is_name.branch [
      | then-is_name w ↦
          let name = sym c.is_name.ensures ∙ w.if-is_name.true in
          let last : get_or (take (length text - place) (drop place text)) (x.len - 1) 0 < 128 = name_last x.word _ x.len name c.in-Some.ensures.ascii in
          let last' : get_or (drop place text) (x.len - 1) 0 < 128 = subst (λ s. get_or s (x.len - 1) 0 < 128) rest last in
          let at : place + (x.len - 1) ≡ now - 1 = omega (arith, w.end-is, some) in
          record {
            within = most;
            few = omega (arith, w.end-is);
            len = c.loop-piece.invariant.len ∙ names_name text end place x is name some most ∙ ap (λ e. names_from e next 0 (drop next text)) (sym w.end-is);
            ascii = λ _. omega (arith, last', get_or-drop place text (x.len - 1) 0, ap (λ k. get_or text k 0) at);
          }
      | else-is_name+else-is_some w ↦
          let name = sym c.is_name.ensures ∙ w.if-is_name.false in
          let none : is_none x.word ≡ true = ap not (sym w.is_some.ensures ∙ w.if-is_some.false) in
          record {
            within = most;
            few = omega (arith, w.end-is, c.loop-piece.invariant.few);
            len = c.loop-piece.invariant.len ∙ names_blank text end place x is name none some most ∙ ap (λ e. names_from e next 0 (drop next text)) (sym w.end-is);
            ascii = λ some_end. let same = ap (λ e. get_or text (e - 1) 0) w.end-is in omega (arith, same, c.loop-piece.invariant.ascii (omega (arith, w.end-is)));
          }
    ]
