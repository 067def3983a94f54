use Rattle.lrpar_conflict_derivations.proofs.minimal_sentences.push_sentences.Goals as goal

pub push_all_moves-requires-clause-some : goal.push_all_moves-requires-clause-some
push_all_moves-requires-clause-some g c = let some = (c.in-Some.ensures.shortest c.args.grm.now c.requires.shortest).some in (some.0, some.1)

pub returns-in_ok-push_all_moves-in-Some : goal.returns-in_ok-push_all_moves-in-Some
returns-in_ok-push_all_moves-in-Some g c = let pushed = c.in_ok-push_all_moves-in-Some.ensures in λ _. (pushed.0, pushed.1.fit, pushed.2)
