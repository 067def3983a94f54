use Rattle.lrpar_parse_lexemes.specs.Views.{span_by, token_by}
use Rattle.lrpar_parse.specs.Parser.{subject}
use Rattle.lrpar_parse.proofs.ActedLemmas.{acted_parse, is_value, argument_folds}
use Rattle.lrpar_parse.proofs.ParseLemmas.{refusal_as}
use Rattle.lrpar_parse.proofs.parser.RTParserBuilder.parse_actions.Goals as goal

pub value_of-requires : goal.value_of-requires
value_of-requires g c =
    let index = g.StorageT.StorageIndex.index in
    let parts = g.LexerTypesT.LexemeT.Lexeme.parts in
    let about = subject index parts g.R.Recoverer.allows c.args.self.now in
    let actions = c.args.actions.now in
    let by = argument_folds about (token_by index parts) (span_by parts) (g.A.Actions.fact actions) (g.A.Actions.answers actions) c.args.lexer.now c.args.param.now in
    is_value about (token_by index parts) (span_by parts) (g.A.Actions.fact actions) (g.A.Actions.answers actions) c.args.lexer.now c.args.param.now _ _ (λ t e is. by t e is.represents is.suit)
    c.in-Ok.entry c.argument_of.result c.in-Ok.errors c.argument_of.ensures (rw c.in-Ok.is at c.parse_to_entry.ensures.parse)

pub returns-in-Ok : goal.returns-in-Ok
returns-in-Ok g c =
    let index = g.StorageT.StorageIndex.index in
    let parts = g.LexerTypesT.LexemeT.Lexeme.parts in
    let about = subject index parts g.R.Recoverer.allows c.args.self.now in
    let actions = c.args.actions.now in
    let by = argument_folds about (token_by index parts) (span_by parts) (g.A.Actions.fact actions) (g.A.Actions.answers actions) c.args.lexer.now c.args.param.now in
    record {
      parse = acted_parse about (token_by index parts) (span_by parts) (g.A.Actions.fact actions) (g.A.Actions.answers actions) c.args.lexer.now c.args.param.now _ _ (λ t e is. by t e is.represents is.suit)
          c.in-Ok.entry c.argument_of.result c.in-Ok.errors c.argument_of.ensures (rw c.in-Ok.is at c.parse_to_entry.ensures.parse) c.value_of.result c.value_of.ensures;
    }

pub returns-in-Err : goal.returns-in-Err
returns-in-Err g c = record { parse = refusal_as _ _ _ _ _ _ c.in-Err.fault (rw c.in-Err.is at c.parse_to_entry.ensures.parse) }
