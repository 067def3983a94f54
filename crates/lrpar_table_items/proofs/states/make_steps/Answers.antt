use Rattle.std.proofs.Common.{map}
use Rattle.lrpar_grammar.specs.Grammar.{Nonterminal}
use Rattle.lrpar_table_rows.specs.PlainRows.{goto_entry}
use Rattle.lrpar_table_items.specs.Cores.{core_set}
use Rattle.lrpar_table_items.proofs.NumberLemmas.{kept_twice, steps_kept}
use Rattle.lrpar_table_items.proofs.states.make_steps.Goals as goal

pub returns-clause-steps : goal.returns-clause-steps
returns-clause-steps g c =
    let index = g.StorageT.StorageIndex.index in
    let early = c.in_ok-gotos.ensures.kernels.kept in
    let late = c.in_ok-shifts.ensures.kernels in record {
      kernels = record {
        numbered = late.numbered;
        kept = kept_twice c.args.kernels.now c.make_steps_by.new.kernels c.make_steps_by-2.new.kernels early late.kept;
      };
      gotos =
          steps_kept c.args.grm.now c.make_steps_by.new.kernels c.make_steps_by-2.new.kernels (map (core_set index) c.args.successors.now.items.items) Nonterminal
          (map (goto_entry index) c.in_ok-gotos.gotos.items) late.kept c.in_ok-gotos.ensures.steps;
      shifts = c.in_ok-shifts.ensures.steps;
    }
