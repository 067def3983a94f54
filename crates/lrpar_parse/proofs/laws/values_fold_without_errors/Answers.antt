use Rattle.lrpar_grammar_places.specs.Span.{nowhere}
use Rattle.lrpar_parse_lexemes.specs.Views.{span_by}
use Rattle.lrpar_parse.proofs.CarriedLemmas.{value_folds}
use Rattle.lrpar_parse.proofs.laws.values_fold_without_errors.Goals as goal

pub returns : goal.returns
returns g c =
    λ grammar tree value given.
    value_folds (span_by g.LexemeT.Lexeme.parts) (g.V.Values.gives c.args._values.now) grammar c.args._lexer.now nowhere tree value given.folds
