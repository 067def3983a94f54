use Rattle.lrpar_parse_run.specs.WholeRunView.{subject}
use Rattle.lrpar_parse_run.proofs.WholeRunLemmas.{error_of_listed}
use Rattle.lrpar_parse_run.proofs.whole_run.WholeRun.record_error.Goals as goal

pub returns : goal.returns
returns g c =
    let index = g.StorageT.StorageIndex.index in
    let self = c.args.self.now in
    let about = subject index g.LexerTypesT.LexemeT.Lexeme.parts g.R.Recoverer.allows self in
    let listed = c.in_ok-listed.listed.items in
    let error = c.in_ok-error.field-0 in
    record {
      is = c.in_ok-listed.ensures;
      error = error;
      error_is = error_of_listed about self.lexemes.now index c.args.stack.now.states c.args.place listed c.deref.result.now c.deref.ensures.value error c.in_ok-error.ensures;
      added = c.in_ok-push.ensures.items;
    }
