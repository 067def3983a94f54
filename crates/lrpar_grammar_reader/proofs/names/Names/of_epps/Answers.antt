use Rattle.std.proofs.Common.{map, take, false, true}
use Rattle.lrpar_grammar_words.specs.Words.{placed}
use Rattle.lrpar_grammar_reader.proofs.FaultsLemmas.{known_is, new_more, repeated_at, unrepeated_more}
use Rattle.lrpar_grammar_reader.proofs.names.Names.of_epps.Goals as goal

pub returns-then-contains_key-clause-err : goal.returns-then-contains_key-clause-err
returns-then-contains_key-clause-err c = (
  c.requires,
  let epps = c.args.outline.now.epps.items in
      let items = c.deref-word-items.result.now in
      let i = c.loop-word.word-index in
      repeated_at epps items i _ c.span.result c.deref-word-items.ensures.value c.loop-word-test.true
      (known_is c.loop-word.numbers (map placed c.loop-word.words.items) (take i (map placed epps)) _ c.contains_key.result true
      c.loop-word.invariant.numbers c.loop-word.invariant.words c.contains_key.ensures c.if-contains_key.true) c.span.ensures c.loop-word.invariant.distinct,
)

pub loop-word-preserved : goal.loop-word-preserved
loop-word-preserved c =
    let epps = c.args.outline.now.epps.items in
    let items = c.deref-word-items.result.now in
    let i = c.loop-word.word-index in
    let new = known_is c.loop-word.numbers (map placed c.loop-word.words.items) (take i (map placed epps)) _ c.contains_key.result false
    c.loop-word.invariant.numbers c.loop-word.invariant.words c.contains_key.ensures c.if-contains_key.false in
    record {
      words = new_more epps items c.loop-word.words.items c.add.new.first.items i _ c.deref-word-items.ensures.value c.loop-word-test.true
          c.loop-word.invariant.words new c.in_ok-add.ensures.words;
      numbers = c.in_ok-add.ensures.numbers;
      distinct = unrepeated_more epps items i _ c.deref-word-items.ensures.value c.loop-word-test.true new c.loop-word.invariant.distinct;
    }
