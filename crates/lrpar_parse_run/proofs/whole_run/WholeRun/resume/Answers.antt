use Rattle.std.proofs.Common.{List, None, Some, refl, subst, sym}
use Rattle.lrpar_table_stacks.proofs.StackLemmas.{path_is_stack}
use Rattle.lrpar_parse_run.specs.WholeRunView.{subject}
use Rattle.lrpar_parse_run.specs.Recovering.{GoesOnBy, IsListedBy}
use Rattle.lrpar_parse_repair.specs.PlainSteps.{plain_sequences, plain_steps}
use Rattle.lrpar_parse_repair.specs.Sequences.{PlainStep}
use Rattle.lrpar_parse_run.proofs.WholeRunLemmas.{first_replays, first_sequence, no_sequence}
use Rattle.lrpar_parse_run.proofs.whole_run.WholeRun.resume.Goals as goal

pub record_error-requires-clause-stop : goal.record_error-requires-clause-stop
record_error-requires-clause-stop g c =
    let run_stack = c.requires.there.run_stack in
    let table = c.stable-stable.ensures.table in
    let stack = path_is_stack c.args.self.now.run.checked.now.table (rw table at c.tokens_len-lemma.ensures.end) (rw table at c.rules_len-second_lemma.ensures.end) run_stack.symbols c.args.stack.now.states run_stack.path in
    record { valid = c.requires.there.valid; shifts = c.requires.shifts; stack = stack; fails = c.requires.fails; within = c.requires.there.within }

pub returns-in_default : goal.returns-in_default
returns-in_default g c =
    let index = g.StorageT.StorageIndex.index in
    let self = c.args.self.now in
    let about = subject index g.LexerTypesT.LexemeT.Lexeme.parts g.R.Recoverer.allows self in
    let old = c.args.stack.now in
    let empty = no_sequence index c.in_ok-listed.listed.items c.deref.result.now c.deref.ensures.value (rw c.in_default.is at c.first.ensures.value) in
    record {
      run_stack = c.requires.there.run_stack;
      there = tt;
      recovered = record {
        listed = plain_sequences index c.in_ok-listed.listed.items;
        recorded = c.in_ok-listed.ensures;
        goes_on =
            let Goes : List (List PlainStep) → Type 0 = λ l. GoesOnBy about (g.B.Build.builds self.run.build.now) self.lexemes.now l old c.args.stop old None in
            subst Goes (sym empty) refl;
      };
    }

pub replay-requires-clause-works : goal.replay-requires-clause-works
replay-requires-clause-works g c =
    let index = g.StorageT.StorageIndex.index in
    let self = c.args.self.now in
    let about = subject index g.LexerTypesT.LexemeT.Lexeme.parts g.R.Recoverer.allows self in
    let old = c.args.stack.now in
    let first = c.in-Some.first.now in
    let are = first_sequence index c.in_ok-listed.listed.items c.deref.result.now first c.deref-2.result.now c.deref.ensures.value c.in-Some.ensures.value c.deref-2.ensures.value in
    let Lists : List (List PlainStep) → Type 0 = λ l. IsListedBy about self.lexemes.now (record { stack = old.states; place = c.args.stop }) l in
    first_replays about (g.B.Build.builds self.run.build.now) self.lexemes.now old old c.args.stop c.args.stop
    (plain_steps index c.deref-2.result.now) are.0 (subst Lists are.1 c.in_ok-listed.ensures.is)

pub returns : goal.returns
returns g c =
    let index = g.StorageT.StorageIndex.index in
    let self = c.args.self.now in
    let about = subject index g.LexerTypesT.LexemeT.Lexeme.parts g.R.Recoverer.allows self in
    let old = c.args.stack.now in
    let first = c.in-Some.first.now in
    let are = first_sequence index c.in_ok-listed.listed.items c.deref.result.now first c.deref-2.result.now c.deref.ensures.value c.in-Some.ensures.value c.deref-2.ensures.value in
    record {
      run_stack = c.in_ok-next.ensures.there.run_stack;
      there = c.in_ok-next.ensures.there;
      recovered = record {
        listed = plain_sequences index c.in_ok-listed.listed.items;
        recorded = c.in_ok-listed.ensures;
        goes_on =
            let Goes : List (List PlainStep) → Type 0 =
            λ l. GoesOnBy about (g.B.Build.builds self.run.build.now) self.lexemes.now l old c.args.stop c.replay.new.stack (Some c.in_ok-next.next) in
            subst Goes (sym are.1) c.in_ok-next.ensures.replayed;
      };
    }
