use Rattle.std.proofs.lemmas.Option.{IfSome_then}
use Rattle.lrpar_table_pops.proofs.GoodLemmas.{dropped_good, here_good}
use Rattle.std.proofs.Common.{Bool, List, subst, sym}
use Rattle.std.specs.Prelude.{IsTrue}
use Rattle.lrpar_grammar.specs.Tokens.{has}
use Rattle.lrpar_table_pops.proofs.GoodAllLemmas.{lookahead_way, taken_dropped, taken_here}
use Rattle.lrpar_table_pops.proofs.good.good_drops.Goals as goal

pub returns-then-symbols-eq0-clause-good : goal.returns-then-symbols-eq0-clause-good
returns-then-symbols-eq0-clause-good g c =
    IfSome_then c.good_here.result c.good_here.ensures.tokens
    (λ tokens are. here_good c.args.grm.now c.args.good.now c.args.reduced.now c.args.prod c.args.symbols tokens.now c.if-symbols-eq0.true are)

pub returns-else-symbols-eq0-clause-good : goal.returns-else-symbols-eq0-clause-good
returns-else-symbols-eq0-clause-good g c =
    IfSome_then c.tokens_at.result c.tokens_at.ensures.tokens
    (λ tokens found. dropped_good c.args.grm.now c.args.good.now c.args.reduced.now c.args.prod c.args.symbols tokens.now c.if-symbols-eq0.false found)

pub returns-then-symbols-eq0-clause-all : goal.returns-then-symbols-eq0-clause-all
returns-then-symbols-eq0-clause-all g c =
    IfSome_then c.good_here.result c.good_here.ensures.tokens (λ tokens are t taken.
    subst (λ (bits : List Bool). IsTrue (has bits t)) (sym are)
    (taken_here c.args.grm.now c.args.good.now c.args.reduced.now c.args.prod c.args.symbols t c.if-symbols-eq0.true taken).1)

pub returns-then-symbols-eq0-clause-none : goal.returns-then-symbols-eq0-clause-none
returns-then-symbols-eq0-clause-none g c = λ none t taken.
    let h = taken_here c.args.grm.now c.args.good.now c.args.reduced.now c.args.prod c.args.symbols t c.if-symbols-eq0.true taken in
    c.good_here.ensures.none none t h.0 h.1

pub returns-else-symbols-eq0-clause-all : goal.returns-else-symbols-eq0-clause-all
returns-else-symbols-eq0-clause-all g c =
    IfSome_then c.tokens_at.result c.tokens_at.ensures.all (λ tokens all t taken.
    all t (taken_dropped c.args.grm.now c.args.good.now c.args.reduced.now c.args.prod c.args.symbols t c.if-symbols-eq0.false taken))

pub returns-else-symbols-eq0-clause-none : goal.returns-else-symbols-eq0-clause-none
returns-else-symbols-eq0-clause-none g c = λ none t taken.
    let h = taken_dropped c.args.grm.now c.args.good.now c.args.reduced.now c.args.prod c.args.symbols t c.if-symbols-eq0.false taken in
    c.tokens_at.ensures.none none (lookahead_way c.args.good.now _ t h)
