use Rattle.std.proofs.Common.{sym, subst, true≢false, ◌∙◌}
use Rattle.std.specs.List.{All}
use Rattle.std.proofs.lemmas.List.Elements.{All-map}
use Rattle.lrpar_grammar.specs.Kept.{split_prod_of}
use Rattle.lrpar_grammar_reader.specs.SpansFit.{NamesFit, ProductionFits}
use Rattle.lrpar_grammar.proofs.FitLemmas.{prods_fit_listed}
use Rattle.lrpar_grammar.proofs.grammar.value.YaccGrammar.spans_fit.Goals as goal

pub returns-then-names_fit : goal.returns-then-names_fit
returns-then-names_fit g c =
    let index = g.StorageT.StorageIndex.index in
    let src = c.args.src.now in
    let prods = c.self.inside.prods.items in
    let names : NamesFit c.args.self.now src = c.names_fit.ensures.0 c.if-names_fit.true in (
      λ h. record {
        names = names;
        prods = subst (λ v. All (ProductionFits src) v.prods) c.self.view_is
            (All-map (ProductionFits src) (split_prod_of index) prods (rw c.deref.ensures.value at (c.prods_fit.ensures.0 h)));
      },
      λ fit. c.prods_fit.ensures.1 (rw c.deref.ensures.value
          (prods_fit_listed index src prods (subst (λ v. All (ProductionFits src) v.prods) (sym c.self.view_is) fit.prods))),
    )

pub returns-else-names_fit : goal.returns-else-names_fit
returns-else-names_fit g c = (λ h. absurd (true≢false (sym h ∙ c.if-names_fit.false)), λ fit. c.names_fit.ensures.1 fit.names)
