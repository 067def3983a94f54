use Rattle.lrpar_parse_lexemes.specs.Views.{token_by}
use Rattle.lrpar_parse_repair.proofs.SomeWorksLemmas.{repairs_by_first, repairs_by_second}
use Rattle.lrpar_parse_repair.proofs.laws.or_repairs_where_one_does.Goals as goal

pub returns : goal.returns
returns g c =
    let token = token_by g.StorageT.StorageIndex.index g.LexemeT.Lexeme.parts in
    record {
      second = λ both d. repairs_by_second token (g.A.Recoverer.allows both.first) (g.B.Recoverer.allows both.second) d;
      first = λ both d. repairs_by_first token (g.A.Recoverer.allows both.first) (g.B.Recoverer.allows both.second) d;
    }
