use Rattle.std.proofs.Common.{◌≡◌, ◌<◌, ℕ, false, map, take, get_or}
use Rattle.lrpar_grammar_words.specs.Words.{PlacedWord, placed}
use Rattle.lrpar_grammar_reader.specs.Names.{AreNumbers, is_among}
use Rattle.lrpar_grammar_reader.proofs.names.Names.of_epps.Given as goal

-- the words so far have distinct names, and are numbered
abbrev pub invariant-loop-word : goal.invariant-loop-word
invariant-loop-word l =
    let epps = map placed l.outline.epps.items in
    record {
      words : map placed l.words.items ≡ take l.word-index epps;
      numbers : AreNumbers l.numbers (map placed l.words.items);
      distinct : (k : ℕ) (d : PlacedWord) → k < l.word-index → is_among (get_or epps k d).name (take k epps) ≡ false;
    }
