use Rattle.std.proofs.Common.{◌≡◌, ◌∙◌, ap, sym}
use Rattle.lrpar_table_stacks.specs.Reduction.{top_action}
use Rattle.lrpar_table_rows.specs.PlainRows.{plain_action}
use Rattle.lrpar_table_rows.specs.Table.{Fails, ShiftTo}
use Rattle.lrpar_parse_run.proofs.StackedLemmas.{run_stack_shift}
use Rattle.lrpar_parse_run.proofs.run.Run.feed_lexeme.Goals as goal

pub returns-in_ok-shift-in-Shift : goal.returns-in_ok-shift-in-Shift
returns-in_ok-shift-in-Shift g c =
    let index = g.StorageT.StorageIndex.index in
    let d = c.args.self.now.checked.now in
    let settled = c.settle.new.stack in
    let token = (g.LexemeT.Lexeme.parts c.args.lexeme).token in
    let pushed = c.in_ok-shift-in-Shift.ensures in
    let shifts : top_action d.table (index token) settled.states ≡ ShiftTo (index c.in-Shift.state.0) =
    sym (rw c.tok_id.ensures.token at c.in_ok-state.ensures.action_is) ∙ ap (plain_action index) c.in-Shift.is in
    record {
      run_stack = run_stack_shift (g.B.Build.builds c.args.self.now.build.now).suits d (index token) _ settled c.shift.new.self pushed.entries.entry c.requires.runs
          c.in_ok-state.ensures.run_stack shifts pushed.states pushed.entries.of_entries pushed.entries.suit;
      shifts = λ _.
          record {
            mid = settled;
            settles = rw c.tok_id.ensures.token at c.in_ok-state.ensures.settles;
            next = index c.in-Shift.state.0;
            shifts = shifts;
            of_states = pushed.states;
            entry = pushed.entries.entry;
            made = pushed.entries.made;
            suit = pushed.entries.suit;
            of_entries = pushed.entries.of_entries;
          };
      sticks = λ no. absurd (cc);
    }

pub returns-in-Error : goal.returns-in-Error
returns-in-Error g c =
    let index = g.StorageT.StorageIndex.index in
    let d = c.args.self.now.checked.now in
    let token = (g.LexemeT.Lexeme.parts c.args.lexeme).token in
    let fails : top_action d.table (index token) c.settle.new.stack.states ≡ Fails =
    sym (rw c.tok_id.ensures.token at c.in_ok-state.ensures.action_is) ∙ ap (plain_action index) c.in-Error.is in
    record {
      run_stack = c.in_ok-state.ensures.run_stack;
      shifts = λ no. absurd (cc);
      sticks = λ _. record { settles = rw c.tok_id.ensures.token at c.in_ok-state.ensures.settles; fails = fails };
    }
