use Rattle.std.proofs.Common.{◌++◌, chars, encode_utf8_all, string_bytes, sym, ap, ◌∙◌, append_assoc}
use Rattle.std.proofs.lemmas.List.{nil_from_length}
use Rattle.std.proofs.lemmas.Str.{IsUtf8-past_char, chars-nil, chars_past_char, encodes-append}
use Rattle.std.specs.Str.Iter.{chars_rest}
use Rattle.lrpar_lexer_lrlex.specs.Escapes.{without_needless, written}
use Rattle.lrpar_lexer_lrlex.proofs.escapes.unescaped.Goals as goal

pub chars-preserved : goal.chars-preserved
chars-preserved c =
    let step = c.in-Some.ensures.steps.0 in
    let e = c.chars.is_escaped in
    let out = string_bytes c.chars.text in
    let later = chars (chars_rest c.next.new.self) in
    record {
      utf8 = IsUtf8-past_char _ _ _ c.chars.invariant.utf8 step;
      text = rw (c.in_ok-push_char.ensures, c.escapes_next-is_escaped.ensures)
          (append_assoc out (encode_utf8_all (written e c.in-Some.c)) _
          ∙ ap (λ l. out ++ l) (sym (encodes-append (written e c.in-Some.c) _))
          ∙ ap (λ cs. out ++ encode_utf8_all (without_needless e cs)) (sym (chars_past_char _ _ _ c.chars.invariant.utf8 step)) ∙ c.chars.invariant.text);
    }

pub returns : goal.returns
returns c =
    let none = ap chars (nil_from_length _ c.in-None.ensures.steps.0.0) ∙ chars-nil in
    c.in_ok-push_end.ensures
    ∙ ap (λ cs. string_bytes c.chars.text ++ encode_utf8_all (without_needless c.chars.is_escaped cs)) (sym none) ∙ c.chars.invariant.text
