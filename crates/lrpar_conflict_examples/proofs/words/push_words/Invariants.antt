use Rattle.std.proofs.Common.{◌≡◌, ◌++◌, length, map}
use Rattle.std.specs.String.{string_bytes}
use Rattle.lrpar_conflict_examples.specs.Fits.{AreTokensOf}
use Rattle.lrpar_conflict_examples.specs.Words.{words_text}
use Rattle.lrpar_conflict_examples.proofs.words.push_words.Given as goal

-- with the words that are left, the text so far is the whole
abbrev pub invariant-loop-token : goal.invariant-loop-token
invariant-loop-token g l =
    let index = g.StorageT.StorageIndex.index in
    record {
      fit : AreTokensOf l.grm (map (λ t. index t.0) l.rest);
      whole : string_bytes l.out ++ words_text l.grm (map (λ t. index t.0) l.rest)
          ≡ string_bytes l.fn.out ++ words_text l.grm (map (λ t. index t.0) l.fn.tokens);
    }

abbrev pub decreases-loop-token : goal.decreases-loop-token
decreases-loop-token g l = length l.rest
