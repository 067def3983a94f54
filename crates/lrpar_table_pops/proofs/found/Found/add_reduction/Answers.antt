use Rattle.std.proofs.Common.{ap, ◌∙◌, ℕ, sym}
use Rattle.lrpar_table_pops.specs.Pops.{Dropping}
use Rattle.lrpar_table_pops.proofs.FoundLemmas.{dropped_stays}
use Rattle.std.proofs.Common.{◌≡◌, ◌-◌, refl}
use Rattle.std.specs.Prelude.{IsTrue}
use Rattle.lrpar_grammar.specs.Tokens.{has}
use Rattle.lrpar_table_pops.specs.declared.exits.Way.TheVariants.{Reduction}
use Rattle.lrpar_table_pops.proofs.FoundAllLemmas.{asks_dropped, exits_find}
use Rattle.lrpar_table_pops.proofs.found.Found.add_reduction.Goals as goal

pub returns-then-symbols-eq0-clause-stays : goal.returns-then-symbols-eq0-clause-stays
returns-then-symbols-eq0-clause-stays g c = λ table s at leads found.
    c.add_here.ensures.stays table s at (λ q h. leads q (h.0, h.1, h.2 ∙ ap (λ (n : ℕ). Dropping c.args.prod n h.0) (sym c.if-symbols-eq0.true))) found

pub returns-else-symbols-eq0-clause-stays : goal.returns-else-symbols-eq0-clause-stays
returns-else-symbols-eq0-clause-stays g c = λ table s at leads found.
    dropped_stays c.args.grm.now table s at c.args.self.now.exits c.unite.new.self c.args.self.now.reduced.items c.args.prod c.args.symbols c.args.tokens.now
    c.if-symbols-eq0.false c.unite.ensures.adds leads found

pub returns-else-symbols-eq0-clause-all : goal.returns-else-symbols-eq0-clause-all
returns-else-symbols-eq0-clause-all g c =
    let p = c.args.prod in
    let symbols = c.args.symbols in
    exits_find c.args.grm.now (λ w t. (w ≡ Reduction p (symbols - 1)) × IsTrue (has c.args.tokens.now t))
    (λ q. (t : ℕ) × IsTrue (has c.args.tokens.now t) × (q ≡ Dropping p symbols t)) c.args.self.now _ c.unite.ensures.all refl refl (λ q h.
    asks_dropped c.args.grm.now (λ w t. (w ≡ Reduction p (symbols - 1)) × IsTrue (has c.args.tokens.now t)) p symbols h.0 q c.if-symbols-eq0.false h.2 (refl, h.1))
