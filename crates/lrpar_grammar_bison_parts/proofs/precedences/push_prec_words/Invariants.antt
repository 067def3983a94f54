use Rattle.std.proofs.Common.{◌≡◌, ◌++◌, map, option_map, replicate, None}
use Rattle.lrpar_grammar_words.specs.Words.{placed as text_placed}
use Rattle.lrpar_grammar_bison_parts.proofs.precedences.push_prec_words.Given as goal

-- nothing for each action so far
abbrev pub invariant-loop : goal.invariant-loop
invariant-loop l = map (option_map text_placed) l.words.items ≡ map (option_map text_placed) l.initial.words.items ++ replicate l.counter None
