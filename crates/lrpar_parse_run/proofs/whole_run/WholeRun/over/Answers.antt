use Rattle.std.proofs.Common.{◌≡◌, ◌∙◌, [], None, Some, List, ap, arith, length, refl, subst, sym}
use Rattle.std.specs.List.{AllZip}
use Rattle.lrpar_parse_run.specs.WholeRunView.{subject}
use Rattle.lrpar_parse_run.specs.RepairAnswer.{IsRepairErrorOf}
use Rattle.lrpar_parse_run.specs.RunStack.{Stacked}
use Rattle.lrpar_parse_lexemes.specs.Views.{facts_by}
use Rattle.lrpar_parse_run.proofs.AskedLemmas.{far_fails}
use Rattle.lrpar_parse_run.proofs.WholeRunLemmas.{accepted_answer, stop_ends, stop_feeds, stop_goes_on, stop_smaller, there_accepts, there_first}
use Rattle.lrpar_parse_run.proofs.whole_run.WholeRun.over.Goals as goal

pub stops-init : goal.stops-init
stops-init g c =
    let index = g.StorageT.StorageIndex.index in
    let self = c.args.self.now in
    let about = subject index g.LexerTypesT.LexemeT.Lexeme.parts g.R.Recoverer.allows self in
    let build = self.run.build.now in
    let d = self.run.checked.now in
    let start : index c.start_state.result.0 ≡ d.table.start = c.start_state.ensures.start ∙ ap (λ t. t.start) c.stable-stable.ensures.table in
    let is = rw start at c.in_ok-stack.ensures in
    let first = there_first about (g.B.Build.builds build) self.lexemes.now c.in_ok-stack.stack is in
    let none : c.new-errors.result.items ≡ [] = c.new-errors.ensures.items in
    record {
      here = record {
        can = c.requires.can;
        valid = c.requires.valid;
        starts = c.starts_rise.ensures;
        run_stack = record { symbols = first.represents.symbols; path = first.represents.path; suit = first.represents.suit };
        rises = (0, omega arith, subst (λ (es : List g.row.B-Entry.Denot). (g.B.Build.builds build).rises es 0) (sym (ap (λ (s : Stacked g.row.B-Entry.Denot). s.entries) is)) (g.met.B.Build.rising build d.grammar).with_none);
        within = omega arith;
      };
      there = ([], first, subst (AllZip (IsRepairErrorOf about self.lexemes.now) []) (sym none) tt);
      on = λ some. absurd (omega (arith, some, ap length none));
    }

pub run_far-requires : goal.run_far-requires
run_far-requires g c = c.stops.invariant.here

pub into_entry-requires : goal.into_entry-requires
into_entry-requires g c =
    let self = c.args.self.now in
    let about = subject g.StorageT.StorageIndex.index g.LexerTypesT.LexemeT.Lexeme.parts g.R.Recoverer.allows self in
    let there = c.stops.invariant.there in
    let far = rw c.in_default.is at c.in_ok-stop.ensures.far in
    let found = there_accepts about (g.B.Build.builds self.run.build.now) self.lexemes.now c.stable-stable.ensures.runs c.stops.stack c.stops.place there.0 there.1 c.run_far.new.stack far in
    (found.0, found.1)

pub returns-in_default : goal.returns-in_default
returns-in_default g c =
    let self = c.args.self.now in
    let about = subject g.StorageT.StorageIndex.index g.LexerTypesT.LexemeT.Lexeme.parts g.R.Recoverer.allows self in
    let there = c.stops.invariant.there in
    let far = rw c.in_default.is at c.in_ok-stop.ensures.far in
    accepted_answer about (g.B.Build.builds self.run.build.now) self.lexemes.now (Some c.into_entry.result, c.stops.errors) c.stable-stable.ensures.checked c.stable-stable.ensures.runs c.stops.stack c.stops.place there.0 there.1 c.run_far.new.stack
    far c.into_entry.result c.into_entry.ensures refl there.2

pub resume-requires : goal.resume-requires
resume-requires g c =
    let self = c.args.self.now in
    let far = rw c.in-Some.is at c.in_ok-stop.ensures.far in
    record {
      there = rw c.in-Some.is at c.in_ok-stop.ensures.there;
      shifts = c.requires.shifts;
      fails = far_fails (facts_by g.StorageT.StorageIndex.index g.LexerTypesT.LexemeT.Lexeme.parts) (g.B.Build.builds self.run.build.now) self.run.checked.now self.lexemes.now
          c.stops.stack c.stops.place c.in-Some.stop c.run_far.new.stack c.stable-stable.ensures.runs c.requires.valid c.stops.invariant.here.run_stack far;
    }

pub returns-in_default-2 : goal.returns-in_default-2
returns-in_default-2 g c =
    let self = c.args.self.now in
    let about = subject g.StorageT.StorageIndex.index g.LexerTypesT.LexemeT.Lexeme.parts g.R.Recoverer.allows self in
    let there = c.stops.invariant.there in
    let far = rw c.in-Some.is at c.in_ok-stop.ensures.far in
    stop_ends about (g.B.Build.builds self.run.build.now) self.lexemes.now c.stable-stable.ensures.runs c.stops.stack c.stops.place there.0 there.1 c.run_far.new.stack c.in-Some.stop far
    c.stops.errors.items c.resume.new.errors.items there.2 c.resume.new.stack c.in_ok-next.field-0 c.in_ok-next.ensures.recovered c.stable-stable.ensures.checked (None, c.resume.new.errors) c.in_default-2.is refl refl

pub stops-smaller : goal.stops-smaller
stops-smaller g c =
    let self = c.args.self.now in
    let about = subject g.StorageT.StorageIndex.index g.LexerTypesT.LexemeT.Lexeme.parts g.R.Recoverer.allows self in
    let there = c.stops.invariant.there in
    let far = rw c.in-Some.is at c.in_ok-stop.ensures.far in
    stop_smaller about (g.B.Build.builds self.run.build.now) self.lexemes.now c.stable-stable.ensures.runs c.stops.stack c.stops.place there.0 there.1 c.run_far.new.stack c.in-Some.stop far
    c.stops.errors.items c.resume.new.errors.items there.2 c.resume.new.stack c.in_ok-next.field-0 c.in_ok-next.ensures.recovered c.in-Some-2.next c.in-Some-2.is
    c.requires.shifts (rw c.in-Some-2.is at c.in_ok-next.ensures.there).within c.stops.invariant.on

pub stops-preserved : goal.stops-preserved
stops-preserved g c =
    let self = c.args.self.now in
    let about = subject g.StorageT.StorageIndex.index g.LexerTypesT.LexemeT.Lexeme.parts g.R.Recoverer.allows self in
    let builds = g.B.Build.builds self.run.build.now in
    let there = c.stops.invariant.there in
    let far = rw c.in-Some.is at c.in_ok-stop.ensures.far in
    record {
      here = rw c.in-Some-2.is at c.in_ok-next.ensures.there;
      there =
          stop_goes_on about builds self.lexemes.now c.stable-stable.ensures.runs c.stops.stack c.stops.place there.0 there.1 c.run_far.new.stack c.in-Some.stop far
          c.stops.errors.items c.resume.new.errors.items there.2 c.resume.new.stack c.in_ok-next.field-0 c.in_ok-next.ensures.recovered c.in-Some-2.next c.in-Some-2.is;
      on = λ _.
          stop_feeds about builds self.lexemes.now c.stable-stable.ensures.runs c.stops.stack c.stops.place there.0 there.1 c.run_far.new.stack c.in-Some.stop far
          c.stops.errors.items c.resume.new.errors.items there.2 c.resume.new.stack c.in_ok-next.field-0 c.in_ok-next.ensures.recovered c.in-Some-2.next c.in-Some-2.is;
    }
