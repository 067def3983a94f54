use Rattle.lrpar_conflict_derivations.proofs.minimal_sentences.push_sentence.Goals as goal

pub push_moves-requires-clause-some : goal.push_moves-requires-clause-some
push_moves-requires-clause-some g c = let some = (c.in-Some.ensures.shortest c.args.grm.now c.requires.shortest).some in (some.0, some.1)
