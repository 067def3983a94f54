use Rattle.std.proofs.Common.{◌≡◌, ◌∙◌, ◌++◌, ◌∷◌, [], Ok, ap, append_assoc, sym}
use Rattle.std.specs.Vec.Iter.{into_iter_items}
use Rattle.lrpar_parse.specs.Lexed.{first_error, lexemes_of}
use Rattle.lrpar_parse.proofs.lexed.lexemes_before_error.Goals as goal

pub loop-answer-preserved : goal.loop-answer-preserved
loop-answer-preserved g c =
    let l = c.loop-answer in
    let rest = into_iter_items c.next.new.self in
    let left : into_iter_items l.answer-iterator ≡ Ok c.in-Ok.lexeme ∷ rest = c.in-Some.ensures.steps.0 ∙ ap (λ answer. answer ∷ rest) c.in-Ok.is in
    record {
      lexemes = ap (λ lexemes. lexemes ++ lexemes_of rest) c.in_ok-push-in-Ok.ensures.items ∙ (append_assoc l.lexemes.items (c.in-Ok.lexeme ∷ []) (lexemes_of rest)
          ∙ (sym (ap (λ answers. l.lexemes.items ++ lexemes_of answers) left) ∙ l.invariant.lexemes));
      error = sym (ap first_error left) ∙ l.invariant.error;
    }
