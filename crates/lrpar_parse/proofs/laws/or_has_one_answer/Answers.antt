use Rattle.lrpar_parse_lexemes.specs.Views.{token_by}
use Rattle.lrpar_parse.proofs.OneAnswerLemmas.{one_of_two}
use Rattle.lrpar_parse.proofs.laws.or_has_one_answer.Goals as goal

pub returns : goal.returns
returns g c =
    let token = token_by g.StorageT.StorageIndex.index g.LexemeT.Lexeme.parts in
    λ both d k. one_of_two token (g.A.Recoverer.allows both.first) (g.B.Recoverer.allows both.second) d k
