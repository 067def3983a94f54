use Rattle.std.proofs.Common.{◌∙◌, sym, ap, arith, [], ◌∷◌}
use Rattle.std.proofs.lemmas.List.{map-append}
use Rattle.std.specs.Option.{option_map}
use Rattle.lrpar_table_sentences.specs.AccessStrings.{step_of, steps_of, accesses_of}
use Rattle.lrpar_table_sentences.proofs.BackLemmas.{backing_ends, backing_goes}
use Rattle.lrpar_table_sentences.proofs.back.push_back.Goals as goal

pub back-preserved : goal.back-preserved
back-preserved g c =
    let longer = c.in_ok-push.ensures.len in
    let before = c.back.invariant.0 in
    let index = g.StorageT.StorageIndex.index in
    let accesses = accesses_of index c.args.accesses.now in (
      omega (arith, longer, before),
      backing_goes accesses (index c.args.s.0) (steps_of index c.args.out.now.items) (index c.back.state.0) (steps_of index c.back.out.items) c.back.invariant.1
          (step_of index c.in-Some.step) (steps_of index c.push.new.self.items) (sym c.last_step.ensures ∙ ap (option_map (step_of index)) c.in-Some.is)
          (ap (steps_of index) c.in_ok-push.ensures.items ∙ map-append (step_of index) c.back.out.items (c.in-Some.step ∷ [])),
    )

pub returns-clause-steps : goal.returns-clause-steps
returns-clause-steps g c =
    let index = g.StorageT.StorageIndex.index in
    let accesses = accesses_of index c.args.accesses.now in
    backing_ends accesses (index c.args.s.0) (steps_of index c.args.out.now.items) (index c.back.state.0) (steps_of index c.back.out.items) c.back.invariant.1
    (sym c.in_default.ensures)
