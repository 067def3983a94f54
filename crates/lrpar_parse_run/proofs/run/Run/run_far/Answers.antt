use Rattle.std.proofs.Common.{◌≡◌, ◌<◌, ◌∙◌, Some, inl, inr, length, ap, arith, refl, subst, sym}
use Rattle.std.specs.Prelude.{map}
use Rattle.std.proofs.lemmas.Option.{slice_get_read}
use Rattle.lrpar_grammar.specs.Grammar.{end_token, tokens_len}
use Rattle.lrpar_table_rows.specs.PlainRows.{plain_action}
use Rattle.lrpar_table_rows.specs.Table.{Accepts, Fails}
use Rattle.lrpar_table_stacks.specs.Reduction.{top_action}
use Rattle.lrpar_parse_lexemes.specs.Views.{facts_by}
use Rattle.lrpar_parse_lexemes.specs.Lexemes.{start_at}
use Rattle.lrpar_parse_run.specs.Moves.{GoesFar, RiseUpTo}
use Rattle.lrpar_parse_run.proofs.FarLemmas.{come_more, come_none, come_to_accept, come_to_last, come_to_stop}
use Rattle.lrpar_parse_run.proofs.MovesLemmas.{rise_by_settle, rise_to_next}
use Rattle.lrpar_parse_repair.proofs.TokenLemmas.{good_token}
use Rattle.lrpar_parse_run.proofs.RunningLemmas.{run_is_ready, run_on}
use Rattle.lrpar_parse_run.proofs.StackedLemmas.{no_reduce, no_shift}
use Rattle.lrpar_parse_run.proofs.run.Run.run_far.Goals as goal

pub loop-at-init : goal.loop-at-init
loop-at-init g c =
    let facts = facts_by g.StorageT.StorageIndex.index g.LexemeT.Lexeme.parts in
    let self = c.args.self.now in
    record {
      there = c.requires;
      past = omega arith;
      come = come_none facts (g.B.Build.builds self.build.now) self.checked.now c.args.lexemes.now c.args.stack.now c.args.place;
    }

pub feed_lexeme-requires : goal.feed_lexeme-requires
feed_lexeme-requires g c =
    let facts = facts_by g.StorageT.StorageIndex.index g.LexemeT.Lexeme.parts in
    let d = c.args.self.now.checked.now in
    let lexemes = c.args.lexemes.now in
    let l = c.loop-at in
    let x = c.index-lexemes-at.result in
    let is = slice_get_read lexemes (length lexemes) l.at x refl c.loop-at-test.true c.index-lexemes-at.is in
    let good : (facts x).token < end_token d.grammar = good_token facts d.grammar lexemes l.at x c.requires.valid is in
    let all : d.table.tokens ≡ tokens_len d.grammar = c.stable-lemma.ensures.checked.safe.shape.tokens in
    record {
      ready = run_is_ready l.invariant.there;
      runs = c.stable-lemma.ensures.runs;
      lexeme = record { token = omega (arith, good, all); inner = λ same. omega (arith, good, same) };
    }

pub returns-then-not-branch : goal.returns-then-not-branch
returns-then-not-branch g c =
    let facts = facts_by g.StorageT.StorageIndex.index g.LexemeT.Lexeme.parts in
    let self = c.args.self.now in
    let d = self.checked.now in
    let builds = g.B.Build.builds self.build.now in
    let lexemes = c.args.lexemes.now in
    let l = c.loop-at in
    let x = c.index-lexemes-at.result in
    let is = slice_get_read lexemes (length lexemes) l.at x refl c.loop-at-test.true c.index-lexemes-at.is in
    let sticks = c.in_ok-feed_lexeme.ensures.sticks c.if-not-branch.true in
    record {
      run_stack = c.in_ok-feed_lexeme.ensures.run_stack;
      there = run_on c.requires c.in_ok-feed_lexeme.ensures.run_stack
          (rise_by_settle facts builds d (g.met.B.Build.rising self.build.now d.grammar) (facts x).token (start_at (map facts lexemes) l.at) l.stack c.feed_lexeme.new.stack sticks.settles l.invariant.there.rises)
          l.invariant.there.within;
      far = come_to_stop facts builds d lexemes c.args.stack.now c.args.place l.stack l.at l.invariant.come c.feed_lexeme.new.stack x is sticks;
    }

pub loop-at-preserved : goal.loop-at-preserved
loop-at-preserved g c =
    let facts = facts_by g.StorageT.StorageIndex.index g.LexemeT.Lexeme.parts in
    let builds = g.B.Build.builds c.args.self.now.build.now in
    let d = c.args.self.now.checked.now in
    let l = c.loop-at in
    let x = c.index-lexemes-at.result in
    let lexemes = c.args.lexemes.now in
    let is = slice_get_read lexemes (length lexemes) l.at x refl c.loop-at-test.true c.index-lexemes-at.is in
    let shifts = c.in_ok-feed_lexeme.ensures.shifts c.if-not-branch.false in
    record {
      there = run_on c.requires c.in_ok-feed_lexeme.ensures.run_stack
          (rise_to_next facts builds d (g.met.B.Build.rising c.args.self.now.build.now d.grammar) lexemes l.at x l.stack c.feed_lexeme.new.stack c.requires.starts is shifts l.invariant.there.rises)
          (omega (arith, c.loop-at-test.true));
      past = omega (arith, l.invariant.past);
      come = come_more facts builds d lexemes c.args.stack.now c.args.place l.stack l.at l.invariant.come c.feed_lexeme.new.stack x l.invariant.past is shifts;
    }

pub unreachable-requires : goal.unreachable-requires
unreachable-requires g c =
    let index = g.StorageT.StorageIndex.index in
    let self = c.args.self.now in
    let d = self.checked.now in
    let builds = g.B.Build.builds self.build.now in
    let end : index c.eof_token_idx-end.result.0 ≡ end_token d.grammar = rw c.grm.ensures at c.eof_token_idx-end.ensures in
    let settles = rw end at c.in_ok-settle.ensures.settles in
    let action = rw end at c.in_ok-settle.ensures.action_is in
    elim c.in-Reduce.is [
      | inl (p, reduce) ↦ no_reduce index builds d _ _ c.settle.new.stack c.in_ok-settle.field-0 p settles action reduce
      | inr (s, shift) ↦ no_shift index builds.suits d c.settle.new.stack c.in_ok-settle.field-0 s c.stable-lemma.ensures.runs c.in_ok-settle.ensures.run_stack action shift
    ]

pub settle-requires-clause-ready : goal.settle-requires-clause-ready
settle-requires-clause-ready g c = run_is_ready c.loop-at.invariant.there

pub returns-in-Accept : goal.returns-in-Accept
returns-in-Accept g c =
    let index = g.StorageT.StorageIndex.index in
    let self = c.args.self.now in
    let d = self.checked.now in
    let lexemes = c.args.lexemes.now in
    let l = c.loop-at in
    let end : index c.eof_token_idx-end.result.0 ≡ end_token d.grammar = rw c.grm.ensures at c.eof_token_idx-end.ensures in
    let settles = rw end at c.in_ok-settle.ensures.settles in
    let last : l.at ≡ length lexemes = omega (arith, c.loop-at-test.false, l.invariant.there.within) in
    let accepts : top_action d.table (end_token d.grammar) c.settle.new.stack.states ≡ Accepts =
    sym (rw end at c.in_ok-settle.ensures.action_is) ∙ ap (plain_action index) c.in-Accept.is in
    record {
      run_stack = c.in_ok-settle.ensures.run_stack;
      there = tt;
      far = come_to_accept (facts_by index g.LexemeT.Lexeme.parts) (g.B.Build.builds self.build.now) d lexemes c.args.stack.now c.args.place l.stack l.at l.invariant.come c.settle.new.stack last settles accepts;
    }

pub returns-in-Error : goal.returns-in-Error
returns-in-Error g c =
    let index = g.StorageT.StorageIndex.index in
    let facts = facts_by index g.LexemeT.Lexeme.parts in
    let self = c.args.self.now in
    let d = self.checked.now in
    let builds = g.B.Build.builds self.build.now in
    let lexemes = c.args.lexemes.now in
    let l = c.loop-at in
    let end : index c.eof_token_idx-end.result.0 ≡ end_token d.grammar = rw c.grm.ensures at c.eof_token_idx-end.ensures in
    let settles = rw end at c.in_ok-settle.ensures.settles in
    let last : l.at ≡ length lexemes = omega (arith, c.loop-at-test.false, l.invariant.there.within) in
    let fails : top_action d.table (end_token d.grammar) c.settle.new.stack.states ≡ Fails =
    sym (rw end at c.in_ok-settle.ensures.action_is) ∙ ap (plain_action index) c.in-Error.is in
    let before = subst (λ n. RiseUpTo builds.rises l.stack.entries (start_at (map facts lexemes) n)) last l.invariant.there.rises in
    let here = come_to_last facts builds d lexemes c.args.stack.now c.args.place l.stack l.at l.invariant.come c.settle.new.stack last settles fails in
    record {
      run_stack = c.in_ok-settle.ensures.run_stack;
      there = run_on c.requires c.in_ok-settle.ensures.run_stack
          (rise_by_settle facts builds d (g.met.B.Build.rising self.build.now d.grammar) (end_token d.grammar) (start_at (map facts lexemes) (length lexemes)) l.stack c.settle.new.stack settles before)
          (omega arith);
      far = subst (λ n. GoesFar facts builds d lexemes c.args.stack.now c.args.place (Some n) c.settle.new.stack) last here;
    }
