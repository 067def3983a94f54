use Rattle.std.proofs.Common.{ap, ◌∙◌}
use Rattle.std.specs.String.{string_bytes}
use Rattle.lrpar_parse_lexemes.specs.Repairs.{repairs_of}
use Rattle.lrpar_parse_lexemes.specs.declared.pp_fault.PpFault.TheVariants.{Memory}
use Rattle.lrpar_parse_errors.proofs.SequenceTextLemmas.{err_same}
use Rattle.lrpar_grammar_places.proofs.FaultLemmas.{no_value}
use Rattle.lrpar_parse_errors.proofs.LexParseTextLemmas.{lexing_text, parsing_fault, parsing_text}
use Rattle.lrpar_parse_errors.proofs.errors.LexParseError.text_by.Goals as goal

pub returns-in_err-push_position-in-LexError-clause-text : goal.returns-in_err-push_position-in-LexError-clause-text
returns-in_err-push_position-in-LexError-clause-text g c = no_value c.from_residual.result _ _ c.from_residual.ensures.1

pub returns-in_err-push_position-in-LexError-clause-fault : goal.returns-in_err-push_position-in-LexError-clause-fault
returns-in_err-push_position-in-LexError-clause-fault g c = err_same c.from_residual.result _ Memory c.from_residual.ensures.1 tt

pub returns-in_ok-push_position-in-LexError-clause-text : goal.returns-in_ok-push_position-in-LexError-clause-text
returns-in_ok-push_position-in-LexError-clause-text g c =
    lexing_text (λ x. (g.LexemeT.Lexeme.parts x).span) (g.N.TokenNames.prints c.args.names.now)
    g.ErrorT.LexError.place (g.L.NonStreamingLexer.text c.args.lexer.now) c.args.self.now c.in-LexError.error c.span.result
    (string_bytes c.new-out.result) (string_bytes c.push_position.new.out) c.in-LexError.is c.span.ensures.place c.new-out.ensures.bytes
    c.in_ok-push_position-in-LexError.ensures

pub returns-in_err-push_position-in-ParseError-clause-text : goal.returns-in_err-push_position-in-ParseError-clause-text
returns-in_err-push_position-in-ParseError-clause-text g c =
    no_value c.from_residual-in_err-push_position-in-ParseError.result _ _ c.from_residual-in_err-push_position-in-ParseError.ensures.1

pub returns-in_err-push_position-in-ParseError-clause-fault : goal.returns-in_err-push_position-in-ParseError-clause-fault
returns-in_err-push_position-in-ParseError-clause-fault g c =
    err_same c.from_residual-in_err-push_position-in-ParseError.result _ Memory c.from_residual-in_err-push_position-in-ParseError.ensures.1 tt

pub returns-in_err-push_repairs-in-ParseError-clause-text : goal.returns-in_err-push_repairs-in-ParseError-clause-text
returns-in_err-push_repairs-in-ParseError-clause-text g c =
    no_value c.from_residual-in_err-push_repairs-in-ParseError.result _ _ c.from_residual-in_err-push_repairs-in-ParseError.ensures.1

pub returns-in_err-push_repairs-in-ParseError-clause-fault : goal.returns-in_err-push_repairs-in-ParseError-clause-fault
returns-in_err-push_repairs-in-ParseError-clause-fault g c =
    err_same c.from_residual-in_err-push_repairs-in-ParseError.result _ c.in_err-push_repairs-in-ParseError.field-0.0
    c.from_residual-in_err-push_repairs-in-ParseError.ensures.1
    (parsing_fault (λ x. (g.LexemeT.Lexeme.parts x).span) (g.N.TokenNames.prints c.args.names.now)
    g.StorageT.StorageIndex.index c.args.self.now c.in-ParseError.error (repairs_of g.StorageT.StorageIndex.index c.deref.result.now)
    c.in_err-push_repairs-in-ParseError.field-0.0 c.in-ParseError.is
    (ap (repairs_of g.StorageT.StorageIndex.index) c.deref.ensures.value ∙ c.repairs.ensures.repairs) c.in_err-push_repairs-in-ParseError.ensures.fault)

pub returns-in_ok-push_repairs-in-ParseError-clause-text : goal.returns-in_ok-push_repairs-in-ParseError-clause-text
returns-in_ok-push_repairs-in-ParseError-clause-text g c =
    parsing_text (λ x. (g.LexemeT.Lexeme.parts x).span) (g.N.TokenNames.prints c.args.names.now)
    g.ErrorT.LexError.place (g.L.NonStreamingLexer.text c.args.lexer.now) c.args.self.now c.in-ParseError.error c.lexeme.result.now
    (repairs_of g.StorageT.StorageIndex.index c.deref.result.now) c.span-in-ParseError.result (string_bytes c.new-out.result)
    (string_bytes c.push_position-in-ParseError.new.out) (string_bytes c.push_repairs.new.out) c.in-ParseError.is c.span-in-ParseError.ensures.span
    c.lexeme.ensures.lexeme (ap (repairs_of g.StorageT.StorageIndex.index) c.deref.ensures.value ∙ c.repairs.ensures.repairs) c.new-out.ensures.bytes
    c.in_ok-push_position-in-ParseError.ensures c.in_ok-push_repairs-in-ParseError.ensures.text
