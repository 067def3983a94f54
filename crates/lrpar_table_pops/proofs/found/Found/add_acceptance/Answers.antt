use Rattle.lrpar_table_pops.proofs.FoundLemmas.{accepted_stays}
use Rattle.std.proofs.Common.{◌≡◌, refl, sym}
use Rattle.lrpar_table_pops.specs.declared.exits.Way.TheVariants.{Acceptance}
use Rattle.lrpar_grammar.specs.Grammar.{end_token}
use Rattle.lrpar_table_pops.specs.Pops.{Done}
use Rattle.lrpar_table_pops.proofs.FoundAllLemmas.{asks_done, exits_find}
use Rattle.lrpar_table_pops.proofs.found.Found.add_acceptance.Goals as goal

pub returns-clause-stays : goal.returns-clause-stays
returns-clause-stays c = λ g table s at leads found.
    accepted_stays g table s at c.args.self.now.exits c.insert.new.self c.args.self.now.reduced.items c.args.token c.insert.ensures.adds leads found

pub returns-clause-all : goal.returns-clause-all
returns-clause-all c = λ g.
    exits_find g (λ w t. (w ≡ Acceptance) × (t ≡ c.args.token)) (λ q. (q ≡ Done) × (c.args.token ≡ end_token g)) c.args.self.now _ c.insert.ensures.all refl refl (λ q h.
    asks_done g (λ w t. (w ≡ Acceptance) × (t ≡ c.args.token)) q h.0 (refl, sym h.1))
