use Rattle.std.proofs.Common.{sym, subst, true≢false, ◌∙◌}
use Rattle.std.specs.List.{All}
use Rattle.std.proofs.lemmas.List.Elements.{All-map}
use Rattle.lrpar_grammar_reader.specs.Parts.{token_name_of}
use Rattle.lrpar_grammar_places.specs.Span.{IsPartOf}
use Rattle.lrpar_grammar_reader.specs.SpansFit.{NamesFit}
use Rattle.lrpar_grammar.proofs.FitLemmas.{rules_fit_all, rules_fit_listed, tokens_fit_listed}
use Rattle.lrpar_grammar.proofs.grammar.value.YaccGrammar.names_fit.Goals as goal

pub returns-then-rules_fit : goal.returns-then-rules_fit
returns-then-rules_fit g c =
    let src = c.args.src.now in
    let kept = c.self.inside in
    let rules : All (λ r. IsPartOf src r.span) kept.rules.items = rw c.deref.ensures.value at (c.rules_fit.ensures.0 c.if-rules_fit.true) in (
      λ h. subst (λ v. NamesFit v src) c.self.view_is (record {
        rules = rules_fit_all src kept.rules.items c.utf8.src rules;
        tokens = All-map (λ t. IsPartOf src t.span) token_name_of kept.tokens.items (rw c.deref-then-rules_fit.ensures.value at (c.tokens_fit.ensures.0 h));
      }),
      λ fit. c.tokens_fit.ensures.1 (rw c.deref-then-rules_fit.ensures.value
          (tokens_fit_listed src kept.tokens.items (subst (λ v. All (λ t. IsPartOf src t.span) v.tokens) (sym c.self.view_is) fit.tokens))),
    )

pub returns-else-rules_fit : goal.returns-else-rules_fit
returns-else-rules_fit g c =
    let src = c.args.src.now in (
      λ h. absurd (true≢false (sym h ∙ c.if-rules_fit.false)),
      λ fit. c.rules_fit.ensures.1 (rw c.deref.ensures.value
          (rules_fit_listed src c.self.inside.rules.items (subst (λ v. All (λ r. IsPartOf src r.span) v.rules) (sym c.self.view_is) fit.rules))),
    )
