use Rattle.std.proofs.Common.{◌≡◌, string_bytes, arith}
use Rattle.lrpar_grammar_places.proofs.ListLemmas.{follows_more, numbers_more}
use Rattle.lrpar_grammar.proofs.grammar.tokens.numbered_names.Goals as goal

pub loop-number-preserved : goal.loop-number-preserved
loop-number-preserved g c =
    let index = g.StorageT.StorageIndex.index in
    let is : index c.unwrap.result ≡ c.loop-number.number = rw c.unwrap.ensures at c.from_index.ensures.back in
    record {
      names = follows_more (λ pair. pair.0.now) (λ token. string_bytes token.name) c.args.tokens.now c.loop-number.number c.index-tokens-number.result
          c.loop-number.pairs.items c.push.new.self.items _
          (omega arith) c.index-tokens-number.is c.loop-number.invariant.names c.in_ok-push.ensures.items c.as_str.ensures.value;
      numbers = numbers_more (λ pair. index pair.1.0) c.loop-number.number c.loop-number.pairs.items c.push.new.self.items _
          c.loop-number.invariant.numbers c.in_ok-push.ensures.items is;
    }
