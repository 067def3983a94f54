use Rattle.std.proofs.Common.{◌≡◌, ◌++◌, chars, encode_utf8_all, string_bytes}
use Rattle.std.specs.Str.{IsUtf8}
use Rattle.lrpar_lexer_lrlex.specs.Escapes.{unescaped, without_needless}
use Rattle.lrpar_lexer_lrlex.proofs.escapes.unescaped.Given as goal

-- what is left adds to the text so far what is missing
abbrev pub invariant-chars : goal.invariant-chars
invariant-chars l = record {
  utf8 : IsUtf8 l.c-iterator.rest.now;
  text : string_bytes l.text ++ encode_utf8_all (without_needless l.is_escaped (chars l.c-iterator.rest.now)) ≡ unescaped l.pattern;
}
