use Rattle.std.proofs.Common.{map, ap, sym, ◌∙◌, nat_cmp, arith}
use Rattle.std.specs.Map.{lookup}
use Rattle.std.specs.BTreeMap.{is_at}
use Rattle.std.specs.Cmp.Lexicographic.{slice_cmp}
use Rattle.std.proofs.lemmas.List.{length-map, take_all}
use Rattle.lrpar_grammar_words.specs.Words.{placed}
use Rattle.lrpar_grammar_reader.specs.Names.{first_of_each, number_of}
use Rattle.lrpar_grammar_reader.proofs.NamesLemmas.{first_more_placed}
use Rattle.lrpar_grammar_reader.proofs.names.Names.first_of_each.Goals as goal

pub loop-word-init : goal.loop-word-init
unfolding first_of_each
loop-word-init c = record {
  words = ap (map placed) c.new-first.ensures.items;
  numbers = λ q. ap (lookup (is_at (λ k. slice_cmp nat_cmp q k.now))) c.new-numbers.ensures.empty
      ∙ ap (λ s. number_of q (map placed s)) (sym c.new-first.ensures.items);
}

pub returns : goal.returns
returns c =
    let words = map placed c.args.words.now in
    c.loop-word.invariant.words ∙ ap first_of_each (take_all c.loop-word.word-index words (omega (arith, length-map c.args.words.now placed)))

pub loop-word-preserved : goal.loop-word-preserved
loop-word-preserved c =
    let step = rw c.loop-word.invariant.words at c.in_ok-add.ensures.words in
    record {
      words = step ∙ first_more_placed c.args.words.now c.loop-word.word-index _ c.loop-word-test.true;
      numbers = c.in_ok-add.ensures.numbers;
    }
