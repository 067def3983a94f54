use Rattle.std.proofs.Common.{◌≡◌, ◌<◌, ◌+◌, ◌∙◌, ℕ, length, ap, arith, refl, subst, true}
use Rattle.std.specs.Prelude.{map}
use Rattle.std.proofs.lemmas.Option.{slice_get_read}
use Rattle.lrpar_grammar.specs.Sentence.{LexemeFacts}
use Rattle.lrpar_table_stacks.specs.Reduction.{Feeds}
use Rattle.lrpar_parse_lexemes.specs.Lexemes.{facts_of, start_at}
use Rattle.lrpar_parse_lexemes.specs.Views.{facts_by}
use Rattle.lrpar_parse_run.proofs.MovesLemmas.{replayed_delete, replayed_insert, replayed_shift, rise_past, rise_to_next, rise_to_same}
use Rattle.lrpar_parse_run.proofs.RunningLemmas.{run_is_ready, run_on}
use Rattle.lrpar_table_stacks.proofs.RunLemmas.{token_at_lexeme}
use Rattle.lrpar_parse_repair.proofs.TokenLemmas.{good_token}
use Rattle.lrpar_parse_run.proofs.run.Run.step.Goals as goal

pub feed-requires : goal.feed-requires
feed-requires g c =
    let index = g.StorageT.StorageIndex.index in
    let works = rw c.in-Insert.is at c.requires.works in
    let same : index (g.LexemeT.Lexeme.parts c.new_faulty-lexeme.result).token ≡ index c.in-Insert.token.0 = ap (λ p. index p.token) c.new_faulty-lexeme.ensures.parts in
    record {
      ready = run_is_ready c.requires.there;
      runs = c.requires.runs;
      feeds = record { token = rw same works.3.0; works = (works.0, works.1, rw same works.3.1) };
    }

pub returns-in_ok-feed-in-Insert : goal.returns-in_ok-feed-in-Insert
returns-in_ok-feed-in-Insert g c =
    let index = g.StorageT.StorageIndex.index in
    let facts = facts_by index g.LexemeT.Lexeme.parts in
    let self = c.args.self.now in
    let d = self.checked.now in
    let builds = g.B.Build.builds self.build.now in
    let lexemes = c.args.lexemes.now in
    let i = c.args.place in
    let x = c.new_faulty-lexeme.result in
    let works = rw c.in-Insert.is at c.requires.works in
    let s = c.start_of.result in
    let t = index c.in-Insert.token.0 in
    let start_is : (facts x).span.start ≡ start_at (map facts lexemes) i = ap (λ p. p.span.start) c.new_faulty-lexeme.ensures.parts ∙ c.start_of.ensures in
    let zero : s + 0 ≡ s = omega arith in
    let made : ℕ → ℕ → LexemeFacts = λ a b. record { token = t; span = record { start = a; end = b }; faulty = true } in
    let shifts = c.in_ok-feed-in-Insert.ensures.shifts in
    record {
      there = run_on c.requires.there c.in_ok-feed-in-Insert.ensures.run_stack
          (rise_to_same facts builds d (g.met.B.Build.rising self.build.now d.grammar) (start_at (map facts lexemes) i) x c.args.stack.now c.feed.new.stack start_is shifts c.requires.there.rises)
          c.requires.there.within;
      replayed = rw c.in-Insert.is
          (replayed_insert facts builds d lexemes c.args.stack.now c.feed.new.stack i t x works.3.0
          (ap (facts_of index) c.new_faulty-lexeme.ensures.parts ∙ (ap (made s) zero ∙ ap (λ n. made n n) c.start_of.ensures)) shifts);
    }

pub returns-in-Delete : goal.returns-in-Delete
returns-in-Delete g c =
    let facts = facts_by g.StorageT.StorageIndex.index g.LexemeT.Lexeme.parts in
    let self = c.args.self.now in
    let d = self.checked.now in
    let builds = g.B.Build.builds self.build.now in
    let lexemes = c.args.lexemes.now in
    let i = c.args.place in
    let works = rw c.in-Delete.is at c.requires.works in
    let within : i < length lexemes = works.3.0 in
    let there = c.requires.there in
    record {
      there = run_on there there.run_stack
          (rise_past facts builds d (g.met.B.Build.rising self.build.now d.grammar) lexemes i c.args.stack.now.entries there.starts within there.rises)
          (omega (arith, within));
      replayed = rw c.in-Delete.is (replayed_delete facts builds d lexemes c.args.stack.now i within);
    }

pub feed-requires-in-Shift : goal.feed-requires-in-Shift
feed-requires-in-Shift g c =
    let facts = facts_by g.StorageT.StorageIndex.index g.LexemeT.Lexeme.parts in
    let d = c.args.self.now.checked.now in
    let lexemes = c.args.lexemes.now in
    let x = c.index-lexemes-place.result in
    let works = rw c.in-Shift.is at c.requires.works in
    let is = slice_get_read lexemes (length lexemes) c.args.place x refl works.3.0 c.index-lexemes-place.is in
    let same = token_at_lexeme (λ x. (facts x).token) d.grammar lexemes c.args.place x is in
    record {
      ready = run_is_ready c.requires.there;
      runs = c.requires.runs;
      feeds = record {
        token = good_token facts d.grammar lexemes c.args.place x c.requires.there.valid is;
        works = (works.0, works.1, subst (λ (t : ℕ). Feeds d.grammar d.table t c.args.stack.now.states works.0 works.1) same works.3.1);
      };
    }

pub returns-in_ok-feed-in-Shift : goal.returns-in_ok-feed-in-Shift
returns-in_ok-feed-in-Shift g c =
    let facts = facts_by g.StorageT.StorageIndex.index g.LexemeT.Lexeme.parts in
    let self = c.args.self.now in
    let d = self.checked.now in
    let builds = g.B.Build.builds self.build.now in
    let lexemes = c.args.lexemes.now in
    let i = c.args.place in
    let x = c.index-lexemes-place.result in
    let works = rw c.in-Shift.is at c.requires.works in
    let within : i < length lexemes = works.3.0 in
    let is = slice_get_read lexemes (length lexemes) i x refl within c.index-lexemes-place.is in
    let shifts = c.in_ok-feed-in-Shift.ensures.shifts in
    record {
      there = run_on c.requires.there c.in_ok-feed-in-Shift.ensures.run_stack
          (rise_to_next facts builds d (g.met.B.Build.rising self.build.now d.grammar) lexemes i x c.args.stack.now c.feed-in-Shift.new.stack c.requires.there.starts is shifts c.requires.there.rises)
          (omega (arith, within));
      replayed = rw c.in-Shift.is
          (replayed_shift facts builds d lexemes c.args.stack.now c.feed-in-Shift.new.stack i x within is shifts);
    }
