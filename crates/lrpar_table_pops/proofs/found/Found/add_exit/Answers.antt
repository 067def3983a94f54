use Rattle.std.proofs.Common.{subst, sym}
use Rattle.lrpar_table_pops.specs.Exits.{LeavesIn}
use Rattle.lrpar_table_pops.specs.declared.exits.Way.{Way}
use Rattle.lrpar_table_pops.proofs.FoundLemmas.{finished_stays}
use Rattle.std.proofs.Common.{◌≡◌, refl, ℕ}
use Rattle.std.specs.Prelude.{IsTrue}
use Rattle.lrpar_grammar.specs.Tokens.{has}
use Rattle.lrpar_table_pops.specs.declared.exits.Way.TheVariants.{Acceptance}
use Rattle.lrpar_table_pops.specs.FoundAll.{IsAmong}
use Rattle.lrpar_table_pops.specs.Pops.{Dropping}
use Rattle.lrpar_table_pops.proofs.FoundAllLemmas.{accepted_among, exits_find, finds_by, dropped_among}
use Rattle.lrpar_table_pops.proofs.found.Found.add_exit.Goals as goal

pub returns-in-Acceptance-clause-stays : goal.returns-in-Acceptance-clause-stays
returns-in-Acceptance-clause-stays g c = λ table s at leads found.
    finished_stays c.args.grm.now table s at c.args.self.now.exits c.unite.new.self c.args.self.now.reduced.items c.args.above.now.tokens
    c.unite.ensures.adds (λ q h. leads q (subst (λ (w : Way). LeavesIn w c.args.above.now.tokens q) (sym c.in-Acceptance.is) h)) found

pub returns-in-Reduction-clause-stays : goal.returns-in-Reduction-clause-stays
returns-in-Reduction-clause-stays g c = λ table s at leads found.
    c.add_reduction.ensures.stays table s at
    (λ q h. leads q (subst (λ (w : Way). LeavesIn w c.args.above.now.tokens q) (sym c.in-Reduction.is) (h.0, h.1, sym h.2))) found

pub returns-in-Acceptance-clause-all : goal.returns-in-Acceptance-clause-all
returns-in-Acceptance-clause-all g c =
    let above = c.args.above.now in
    exits_find c.args.grm.now (λ w t. (w ≡ Acceptance) × IsTrue (has above.tokens t)) (IsAmong c.args.grm.now (λ w t. (w ≡ above.way) × IsTrue (has above.tokens t)))
    c.args.self.now _ c.unite.ensures.all refl refl (accepted_among c.args.grm.now above.way above.tokens c.in-Acceptance.is)

pub returns-in-Reduction-clause-all : goal.returns-in-Reduction-clause-all
returns-in-Reduction-clause-all g c =
    let above = c.args.above.now in
    finds_by c.args.grm.now (λ q. (t : ℕ) × IsTrue (has above.tokens t) × (q ≡ Dropping c.in-Reduction.prod c.in-Reduction.left t))
    (IsAmong c.args.grm.now (λ w t. (w ≡ above.way) × IsTrue (has above.tokens t))) c.args.self.now c.add_reduction.new.self
    (dropped_among c.args.grm.now above.way above.tokens c.in-Reduction.prod c.in-Reduction.left c.in-Reduction.is) c.add_reduction.ensures.all
