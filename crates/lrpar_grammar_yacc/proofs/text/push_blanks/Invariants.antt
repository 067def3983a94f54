use Rattle.std.proofs.Common.{◌≡◌, ◌++◌, string_bytes, take}
use Rattle.lrpar_grammar_yacc.specs.Erasure.{blanks}
use Rattle.lrpar_grammar_yacc.proofs.text.push_blanks.Given as goal

-- a blank for each byte so far
abbrev pub invariant-loop-byte : goal.invariant-loop-byte
invariant-loop-byte l = string_bytes l.erased ≡ string_bytes l.initial.erased ++ blanks (take l.byte-index l.text)
