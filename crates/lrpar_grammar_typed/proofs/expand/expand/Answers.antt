use Rattle.std.proofs.Common.{◌≡◌, ◌∙◌, ◌++◌, ◌∷◌, ◌+◌, ◌<◌, ◌≤◌, [], Some, get_or, length, map, take, ap, refl, sym, subst}
use Rattle.std.specs.List.{slice_get}
use Rattle.std.specs.String.{string_bytes}
use Rattle.std.proofs.lemmas.List.{take_all, take_more}
use Rattle.std.proofs.lemmas.Option.{slice_get_read}
use Rattle.lrpar_grammar_typed.specs.Expanding.{IsExpanded}
use Rattle.lrpar_grammar_typed.specs.Expansion.{AreAlternatives, AreApart, AreDistinct, HaveProdsOfForms, IsExpansionOf, IsStart, declared_start, rule_names, token_names}
use Rattle.lrpar_grammar_typed.proofs.ExpandingLemmas.{ok_both}
use Rattle.lrpar_grammar_typed.proofs.ExpansionLemmas.{expanded_appended, expanded_extended, finished_apart, finished_expansion, finished_forms, finished_rules, finished_tokens}
use Rattle.lrpar_grammar_typed.proofs.expand.expand.Goals as goal
use Rattle.lrpar_grammar_typed.proofs.expand.expand.Goals.{After-finish}

pub loop-rule-init : goal.loop-rule-init
loop-rule-init c =
    let text = c.args.text.now in
    let all = c.args.file.now.rules.items in
    let e = c.declare_rules.new.self in
    let declared : IsExpanded text all [] e =
    subst (λ ds. IsExpanded text ds [] e) c.deref-2.ensures.value
    (subst (λ t. IsExpanded t c.deref-2.result.now [] e) c.new-expander.ensures.text (c.in_ok-declare_rules.ensures {u = tt})) in
    expanded_extended text all [] e c.declare.new.self declared c.in_ok-start.ensures.extends c.in_ok-start.ensures.sound

pub loop-rule-preserved : goal.loop-rule-preserved
loop-rule-preserved c =
    let text = c.args.text.now in
    let all = c.args.file.now.rules.items in
    let b = c.expand_prods.new.self in
    let e = c.add_prods.new.self in
    let i = c.loop-rule.rule-index in
    let rule = c.rule-item.result in
    let prods = c.in_ok-prods.prods.items in
    let step = c.in_ok-prods.ensures in
    let items : c.deref-rule-items.result.now ≡ all = c.deref-rule-items.ensures.value in
    let within : i < length all = subst (λ ds. i < length ds) items c.loop-rule-test.true in
    let is : rule ≡ get_or all i rule = subst (λ ds. rule ≡ get_or ds i rule) items c.rule-item.is in
    let at : slice_get all i ≡ Some rule = slice_get_read all (length all) i rule refl within is in
    let expanded = expanded_extended text all (take i all) c.loop-rule.expander b c.loop-rule.invariant step.extends step.sound in
    let are : AreAlternatives b.text.now b.grammar rule.alternatives.items prods =
    subst (λ xs. AreAlternatives b.text.now b.grammar xs prods) c.deref-in-loop-rule.ensures.value step.prods in
    let next = expanded_appended text all (take i all) b e rule i prods expanded at (c.in_ok-add_prods.ensures {u = tt}) are in
    let more : take (i + 1) all ≡ take i all ++ rule ∷ [] = take_more all i rule within ∙ ap (λ d. take i all ++ d ∷ []) (sym is) in
    subst (λ ds. IsExpanded text all ds e) (sym more) next

-- each definition was taken
every : (c : After-finish) → take c.loop-rule.rule-index c.args.file.now.rules.items ≡ c.args.file.now.rules.items
every c =
    let all = c.args.file.now.rules.items in
    let none : length all ≤ c.loop-rule.rule-index = subst (λ ds. length ds ≤ c.loop-rule.rule-index) c.deref-rule-items.ensures.value c.loop-rule-test.false in
    take_all c.loop-rule.rule-index all none

pub returns-clause-expansion : goal.returns-clause-expansion
returns-clause-expansion c =
    let e = c.loop-rule.expander in
    let all = c.args.file.now.rules.items in
    ok_both c.finish.result (λ g. g.rules ≡ e.grammar.rules) (λ g. g.tokens ≡ e.grammar.tokens) (IsExpansionOf c.args.text.now c.args.file.now.rules.items) c.finish.ensures.rules c.finish.ensures.tokens
    (finished_expansion c.args.text.now all (take c.loop-rule.rule-index all) e c.loop-rule.invariant (every c))

pub returns-clause-forms : goal.returns-clause-forms
returns-clause-forms c =
    let e = c.loop-rule.expander in
    let all = c.args.file.now.rules.items in
    ok_both c.finish.result (λ g. g.rules ≡ e.grammar.rules) (λ g. g.tokens ≡ e.grammar.tokens) (λ g. HaveProdsOfForms g.rules.items) c.finish.ensures.rules c.finish.ensures.tokens
    (finished_forms c.args.text.now all (take c.loop-rule.rule-index all) e c.loop-rule.invariant (every c))

pub returns-clause-rules : goal.returns-clause-rules
returns-clause-rules c =
    let e = c.loop-rule.expander in
    let all = c.args.file.now.rules.items in
    ok_both c.finish.result (λ g. g.rules ≡ e.grammar.rules) (λ g. g.tokens ≡ e.grammar.tokens) (λ g. AreDistinct (rule_names g)) c.finish.ensures.rules c.finish.ensures.tokens
    (finished_rules c.args.text.now all (take c.loop-rule.rule-index all) e c.loop-rule.invariant (every c))

pub returns-clause-tokens : goal.returns-clause-tokens
returns-clause-tokens c =
    let e = c.loop-rule.expander in
    let all = c.args.file.now.rules.items in
    ok_both c.finish.result (λ g. g.rules ≡ e.grammar.rules) (λ g. g.tokens ≡ e.grammar.tokens) (λ g. AreDistinct (token_names g)) c.finish.ensures.rules c.finish.ensures.tokens
    (finished_tokens c.args.text.now all (take c.loop-rule.rule-index all) e c.loop-rule.invariant (every c))

pub returns-clause-apart : goal.returns-clause-apart
returns-clause-apart c =
    let e = c.loop-rule.expander in
    let all = c.args.file.now.rules.items in
    ok_both c.finish.result (λ g. g.rules ≡ e.grammar.rules) (λ g. g.tokens ≡ e.grammar.tokens) (λ g. AreApart g) c.finish.ensures.rules c.finish.ensures.tokens
    (finished_apart c.args.text.now all (take c.loop-rule.rule-index all) e c.loop-rule.invariant (every c))

pub returns-clause-start : goal.returns-clause-start
returns-clause-start c =
    let text = c.args.text.now in
    let start = declared_start c.args.file.now.declarations.items in
    let e = c.loop-rule.expander in
    let names = rule_names e.grammar in
    let same = c.in_ok-start.ensures.start ∙ ap declared_start c.deref-3.ensures.value in
    ok_both c.finish.result (λ g. g.rules ≡ e.grammar.rules) (λ g. IsStart e.text.now c.in_ok-start.start names g.start)
    (λ g. IsStart text start (rule_names g) g.start) c.finish.ensures.rules c.finish.ensures.start
    (λ g rules is.
    subst (λ rs. IsStart text start (map (λ r. string_bytes r.name) rs.items) g.start) (sym rules)
    (subst (λ s. IsStart text s names g.start) same (subst (λ t. IsStart t c.in_ok-start.start names g.start) c.loop-rule.invariant.same_text is)))
