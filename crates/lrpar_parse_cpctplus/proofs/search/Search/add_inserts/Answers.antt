use Rattle.std.proofs.Common.{◌≤◌, arith, length, map}
use Rattle.std.proofs.lemmas.List.{length-map}
use Rattle.lrpar_grammar.specs.Grammar.{end_token}
use Rattle.lrpar_parse_cpctplus.specs.RoundView.{plain_attempts}
use Rattle.lrpar_parse_cpctplus.proofs.AddLemmas.{inserts_begin, inserts_end, inserts_more, once_ascending}
use Rattle.lrpar_parse_cpctplus.proofs.NumberLemmas.{mapped_at}
use Rattle.lrpar_parse_cpctplus.proofs.search.Search.add_inserts.Goals as goal

pub loop-token-init : goal.loop-token-init
loop-token-init g c =
    let index = g.StorageT.StorageIndex.index in
    let search = c.args.self.now in
    inserts_begin search.terms.now.costs (end_token search.point.now.checked.grammar) c.args.from c.args.weight (map (λ t. index t.0) c.args.tokens.now)
    (plain_attempts index c.args.attempts.now.items)

pub loop-token-preserved : goal.loop-token-preserved
loop-token-preserved g c =
    let index = g.StorageT.StorageIndex.index in
    let search = c.args.self.now in
    let l = c.loop-token in
    let tokens = map (λ t. index t.0) c.args.tokens.now in
    let here = mapped_at (λ t. index t.0) c.args.tokens.now l.token-index c.token-item.result c.loop-token-test.true c.token-item.is in
    inserts_more search.terms.now.costs (end_token search.point.now.checked.grammar) c.args.from c.args.weight tokens l.token-index (index c.token-item.result.0)
    (plain_attempts index c.args.attempts.now.items) (plain_attempts index l.attempts.items) (plain_attempts index c.add_insert.new.attempts.items)
    (once_ascending tokens c.requires.ascending) here.0 here.1 l.invariant c.in_ok-add_insert.ensures.adds

pub returns : goal.returns
returns g c =
    let index = g.StorageT.StorageIndex.index in
    let search = c.args.self.now in
    let l = c.loop-token in
    let tokens = map (λ t. index t.0) c.args.tokens.now in
    let past : length tokens ≤ l.token-index = omega (arith, length-map c.args.tokens.now (λ t. index t.0), c.loop-token-test.false) in
    record {
      adds = inserts_end search.terms.now.costs (end_token search.point.now.checked.grammar) c.args.from c.args.weight tokens l.token-index
          (plain_attempts index c.args.attempts.now.items) (plain_attempts index l.attempts.items) past l.invariant;
    }
