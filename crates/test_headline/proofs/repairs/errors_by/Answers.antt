use Rattle.std.proofs.Common.{◌≡◌, List, None, IfOk, subst}
use Rattle.lrpar_parse.specs.Lexed.{first_error, lexemes_of}
use Rattle.lrpar_parse.specs.Parser.{Parser, subject}
use Rattle.lrpar_parse_repair.specs.PlainSteps.{plain_sequences}
use Rattle.lrpar_parse_repair.specs.Sequences.{PlainStep}
use Rattle.test_headline.specs.Answered.{OfAnswer}
use Rattle.test_headline.specs.Worked.{EachListsWhatWorks}
use Rattle.test_headline.proofs.WorkedLemmas.{errors_list_what_works}
use Rattle.test_headline.proofs.repairs.errors_by.Goals as goal

pub returns : goal.returns
returns g c =
    let index = g.StorageT.StorageIndex.index in
    let parts = g.LexerTypesT.LexemeT.Lexeme.parts in
    let supplied = plain_sequences index c.args.sequences.items in
    let parser : c.recoverer-parser.result ≡ record { checked = c.args.checked.now; recoverer = supplied; shifts = 3 } = cc in
    subst
    (λ (p : Parser (List (List PlainStep))). IfOk c.parse_noaction.result (λ errors. OfAnswer (g.L.Lexer.allows c.args.lexer.now) (λ lexed. first_error lexed ≡ None →
    EachListsWhatWorks (subject index parts (λ recoverer _ answer. answer ≡ recoverer) p) p.recoverer (lexemes_of lexed) errors.items)))
    parser
    (errors_list_what_works (subject g.StorageT.StorageIndex.index g.LexerTypesT.LexemeT.Lexeme.parts (λ recoverer _ answer. answer ≡ recoverer) c.recoverer-parser.result)
    (g.L.Lexer.allows c.args.lexer.now) c.recoverer-parser.result.recoverer (λ point answer is. is) c.parse_noaction.result c.parse_noaction.ensures.parse)
