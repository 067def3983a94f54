use Rattle.lrpar_parse_lexemes.specs.Views.{facts_by}
use Rattle.lrpar_parse.proofs.EveryTextLemmas.{accepts_every_text}
use Rattle.lrpar_parse.proofs.every_text.every_text_is_accepted.Goals as goal

pub returns : goal.returns
returns g c = λ r. accepts_every_text (facts_by g.StorageT.StorageIndex.index g.LexemeT.Lexeme.parts) (g.R.Recoverer.allows r)
