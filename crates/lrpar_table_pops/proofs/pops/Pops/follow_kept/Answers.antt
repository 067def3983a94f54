use Rattle.std.proofs.Common.{List, ap, subst, ℕ, ◌∙◌}
use Rattle.lrpar_table_pops.specs.Exits.{HasExit}
use Rattle.lrpar_table_pops.specs.StoredPops.{at_of}
use Rattle.lrpar_table_pops.specs.declared.exits.Exit.{Exit}
use Rattle.lrpar_table_pops.proofs.FollowAllLemmas.{stored_find}
use Rattle.lrpar_table_pops.proofs.pops.Pops.follow_kept.Goals as goal

pub returns-in-Some-clause-follows : goal.returns-in-Some-clause-follows
returns-in-Some-clause-follows g c = λ acts table s at action leads are alone found.
    let index = g.StorageT.StorageIndex.index in
    let n = index c.args.next.0 in
    c.add_all.ensures.stays table s at
    (λ q has.
    leads q (are.by_token n (index c.args.token.0) q
    (subst (λ (t : ℕ). HasExit (at_of c.args.self.now n t) q) c.from.ensures (subst (λ (l : List Exit). HasExit l q) c.in-Some.ensures.exits has)))) found

pub returns-in-Some-clause-all : goal.returns-in-Some-clause-all
returns-in-Some-clause-all g c =
    let index = g.StorageT.StorageIndex.index in
    let n = index c.args.next.0 in
    stored_find c.args.grm.now (at_of c.args.self.now n (index c.args.token.0)) c.in-Some.exits.now c.args.found.now c.add_all.new.self
    (c.in-Some.ensures.exits ∙ ap (at_of c.args.self.now n) c.from.ensures) c.add_all.ensures.all
