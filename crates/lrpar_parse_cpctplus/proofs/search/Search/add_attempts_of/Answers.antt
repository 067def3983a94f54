use Rattle.std.proofs.Common.{map}
use Rattle.std.proofs.lemmas.Result.{on_ok_weaker}
use Rattle.lrpar_parse_lexemes.specs.Views.{token_by}
use Rattle.lrpar_parse_cpctplus.specs.GraphView.{configured_at}
use Rattle.lrpar_parse_cpctplus.specs.RoundView.{plain_attempts}
use Rattle.lrpar_parse_cpctplus.proofs.AddLemmas.{attempts_of}
use Rattle.lrpar_parse_cpctplus.proofs.search.Search.add_attempts_of.Goals as goal

pub add_inserts-requires : goal.add_inserts-requires
add_inserts-requires g c = record { ascending = c.find_tokens-tokens.ensures.tokens.ascending }

pub returns-clause-adds : goal.returns-clause-adds
returns-clause-adds g c =
    let index = g.StorageT.StorageIndex.index in
    let search = c.args.self.now in
    on_ok_weaker c.add_delete.result
    (attempts_of (token_by index g.LexemeT.Lexeme.parts) search.terms.now.costs search.point.now (configured_at c.args.stacks.now.stacks c.args.at) c.args.from c.args.weight
    (map (λ t. index t.0) c.find_tokens-tokens.result.now) c.find_tokens-tokens.ensures.tokens.exact (plain_attempts index c.args.attempts.now.items)
    (plain_attempts index c.add_inserts.new.attempts.items) (plain_attempts index c.add_delete.new.attempts.items) c.in_ok-add_inserts.ensures.adds)
    c.add_delete.ensures.adds
