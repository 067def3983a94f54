use Rattle.std.proofs.Common.{subst, sym}
use Rattle.std.proofs.lemmas.Option.{IfSome_then}
use Rattle.lrpar_table_pops.specs.Exits.{control_of}
use Rattle.lrpar_table_pops.specs.Good.{AllGoOn}
use Rattle.lrpar_table_pops.specs.declared.exits.Way.{Way}
use Rattle.lrpar_table_pops.proofs.GoodLemmas.{accepted_good}
use Rattle.lrpar_table_pops.specs.AllGood.{IsGoodExit}
use Rattle.lrpar_table_pops.proofs.GoodAllLemmas.{lookahead_way}
use Rattle.lrpar_table_pops.proofs.good.good_tokens.Goals as goal

pub returns-in-Acceptance-clause-good : goal.returns-in-Acceptance-clause-good
returns-in-Acceptance-clause-good g c =
    IfSome_then c.tokens_at.result c.tokens_at.ensures.tokens (λ tokens found.
    subst (λ (w : Way). AllGoOn c.args.grm.now c.args.good.now c.args.reduced.now (control_of w) tokens.now) (sym c.in-Acceptance.is)
    (accepted_good c.args.grm.now c.args.good.now c.args.reduced.now tokens.now found))

pub returns-in-Reduction-clause-good : goal.returns-in-Reduction-clause-good
returns-in-Reduction-clause-good g c =
    IfSome_then c.good_drops.result c.good_drops.ensures.good (λ tokens all.
    subst (λ (w : Way). AllGoOn c.args.grm.now c.args.good.now c.args.reduced.now (control_of w) tokens.now) (sym c.in-Reduction.is) all)

pub returns-in-Acceptance-clause-all : goal.returns-in-Acceptance-clause-all
returns-in-Acceptance-clause-all g c =
    IfSome_then c.tokens_at.result c.tokens_at.ensures.all (λ tokens all t taken.
    all t (subst (λ (w : Way). IsGoodExit c.args.grm.now c.args.good.now c.args.reduced.now w t) c.in-Acceptance.is taken))

pub returns-in-Acceptance-clause-none : goal.returns-in-Acceptance-clause-none
returns-in-Acceptance-clause-none g c = λ none t taken.
    c.tokens_at.ensures.none none
    (lookahead_way c.args.good.now _ t (subst (λ (w : Way). IsGoodExit c.args.grm.now c.args.good.now c.args.reduced.now w t) c.in-Acceptance.is taken))

pub returns-in-Reduction-clause-all : goal.returns-in-Reduction-clause-all
returns-in-Reduction-clause-all g c =
    IfSome_then c.good_drops.result c.good_drops.ensures.all (λ tokens all t taken.
    all t (subst (λ (w : Way). IsGoodExit c.args.grm.now c.args.good.now c.args.reduced.now w t) c.in-Reduction.is taken))

pub returns-in-Reduction-clause-none : goal.returns-in-Reduction-clause-none
returns-in-Reduction-clause-none g c = λ none t taken.
    c.good_drops.ensures.none none t (subst (λ (w : Way). IsGoodExit c.args.grm.now c.args.good.now c.args.reduced.now w t) c.in-Reduction.is taken)
