use Rattle.std.proofs.Common.{map, take}
use Rattle.std.specs.String.{string_bytes}
use Rattle.lrpar_parse_lexemes.specs.Repairs.{repairs_of}
use Rattle.lrpar_parse_lexemes.specs.PrintedSequence.{parts_of}
use Rattle.lrpar_parse_errors.proofs.ErrorTextLemmas.{AreListed}
use Rattle.lrpar_parse_errors.proofs.error_text.push_repairs.Given as goal

-- the sequences so far are listed
abbrev pub invariant-loop-i : goal.invariant-loop-i
invariant-loop-i g l =
    let index = g.StorageT.StorageIndex.index in
    let span = λ (x : g.row.LexemeT.Denot). (g.LexemeT.Lexeme.parts x).span in
    AreListed (g.N.TokenNames.prints l.names) (g.L.NonStreamingLexer.text l.lexer) l.most
    (map (parts_of span) (repairs_of index (take l.i l.sequences))) (string_bytes l.initial.out) (string_bytes l.out)
