use Rattle.lrpar_table_pops.proofs.FoundLemmas.{reduced_stays}
use Rattle.std.proofs.Common.{◌≡◌, ◌-◌, refl}
use Rattle.lrpar_table_pops.specs.declared.exits.Way.TheVariants.{Reduction}
use Rattle.lrpar_table_pops.specs.Pops.{Dropping}
use Rattle.lrpar_table_pops.proofs.FoundAllLemmas.{asks_dropped, exits_find}
use Rattle.lrpar_table_pops.proofs.found.Found.reduce.Goals as goal

pub returns-else-symbols-eq0-clause-stays : goal.returns-else-symbols-eq0-clause-stays
returns-else-symbols-eq0-clause-stays g c = λ table s at leads found.
    reduced_stays c.args.grm.now table s at c.args.self.now.exits c.insert.new.self c.args.self.now.reduced.items c.args.prod c.args.symbols c.args.token
    c.if-symbols-eq0.false c.insert.ensures.adds leads found

pub returns-else-symbols-eq0-clause-all : goal.returns-else-symbols-eq0-clause-all
returns-else-symbols-eq0-clause-all g c =
    let p = c.args.prod in
    let symbols = c.args.symbols in
    let token = c.args.token in
    exits_find c.args.grm.now (λ w t. (w ≡ Reduction p (symbols - 1)) × (t ≡ token)) (λ q. q ≡ Dropping p symbols token) c.args.self.now _ c.insert.ensures.all refl refl (λ q h.
    asks_dropped c.args.grm.now (λ w t. (w ≡ Reduction p (symbols - 1)) × (t ≡ token)) p symbols token q c.if-symbols-eq0.false h (refl, refl))
