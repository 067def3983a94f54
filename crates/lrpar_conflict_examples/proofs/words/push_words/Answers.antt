use Rattle.std.proofs.Common.{ap, map}
use Rattle.std.specs.String.{string_bytes}
use Rattle.lrpar_conflict_examples.specs.Words.{word_text}
use Rattle.lrpar_conflict_examples.proofs.TextLemmas.{next_text}
use Rattle.lrpar_conflict_examples.proofs.words.push_words.Goals as goal

pub loop-token-preserved : goal.loop-token-preserved
loop-token-preserved g c =
    let index = g.StorageT.StorageIndex.index in
    let parted = c.in-Some.ensures.cases.0 in
    let fit = rw parted at c.loop-token.invariant.fit in
    record {
      fit = fit.1;
      whole = next_text (word_text c.args.grm.now) (map (λ t. index t.0) c.loop-token.rest.now) (map (λ t. index t.0) c.in-Some.others.now) (index c.in-Some.token.now.0)
          (string_bytes c.loop-token.out) (string_bytes c.push_word.new.out) _ (ap (map (λ t. index t.0)) parted) c.in_ok-push_word.ensures c.loop-token.invariant.whole;
    }
