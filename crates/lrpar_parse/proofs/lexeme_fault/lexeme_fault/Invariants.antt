use Rattle.std.proofs.Common.{map}
use Rattle.lrpar_grammar.specs.Sentence.{HasGoodTokens, HasOrderedStarts}
use Rattle.lrpar_parse_lexemes.specs.Lexemes.{facts_of}
use Rattle.lrpar_parse.proofs.LexemeLemmas.{IsPreviousStart}
use Rattle.lrpar_parse.proofs.lexeme_fault.lexeme_fault.Given as goal

-- no lexeme so far has a fault
abbrev pub invariant-loop-i : goal.invariant-loop-i
invariant-loop-i g l =
    let facts = map (λ x. facts_of g.StorageT.StorageIndex.index (g.LexemeT.Lexeme.parts x)) l.lexemes in
    record {
      tokens : HasGoodTokens l.grm facts l.i;
      starts : HasOrderedStarts facts l.i;
      previous : IsPreviousStart facts l.i l.previous;
    }
