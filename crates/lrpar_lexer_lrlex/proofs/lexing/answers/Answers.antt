use Rattle.std.proofs.Common.{◌+◌, ◌++◌, ◌∷◌, [], Err, sym, subst, ◌∙◌, ap}
use Rattle.std.proofs.lemmas.Bool.{cond-false, cond-true}
use Rattle.std.proofs.lemmas.Str.{IsCharBoundary-start}
use Rattle.lrpar_lexer.specs.Answers.{plain_answers}
use Rattle.lrpar_lexer.specs.Lexing.{lexemes_of}
use Rattle.lrpar_lexer.proofs.AnswerLemmas.{plain_push_error}
use Rattle.lrpar_lexer_lrlex.specs.LexingIn.{LexesIn}
use Rattle.lrpar_lexer_lrlex.specs.StateRules.{active, moved, plain_state_rules}
use Rattle.lrpar_lexer_lrlex.proofs.LexingInLemmas.{LeadsTo, leads_at_first, leads_on, leads_to_end, leads_to_error, leads_to_fall}
use Rattle.lrpar_lexer_lrlex.proofs.lexing.answers.Goals as goal

pub places-init : goal.places-init
places-init g c =
    let index = g.StorageT.StorageIndex.index in
    let rules = plain_state_rules index c.args.rules.now in
    let text = c.args.text.now in
    record {
      programs = c.in_ok-matchers.ensures;
      boundary = IsCharBoundary-start text c.utf8.text;
      active = c.in_ok-active.ensures ∙ ap (active rules) (sym c.new-stack.ensures.top);
      leads = subst (λ b. LeadsTo rules text 0 c.new-stack.result.top c.new-stack.result.below.items (plain_answers index b)) (sym c.new-answers.ensures.items)
          (subst (λ t. LeadsTo rules text 0 t c.new-stack.result.below.items []) (sym c.new-stack.ensures.top)
          (subst (λ b. LeadsTo rules text 0 0 b []) (sym c.new-stack.ensures.below) (leads_at_first rules text)));
    }

pub returns-in_default : goal.returns-in_default
returns-in_default g c =
    let index = g.StorageT.StorageIndex.index in
    let rules = plain_state_rules index c.args.rules.now in
    let text = c.args.text.now in
    subst (LexesIn rules text 0 0 []) (sym (plain_push_error index c.places.answers.items c.push.new.self.items c.at.result c.in_ok-push.ensures.items))
    (subst (λ e. LexesIn rules text 0 0 [] (plain_answers index c.places.answers.items ++ Err e ∷ [])) (sym c.at.ensures)
    (leads_to_error rules text c.places.at c.places.stack.top c.places.stack.below.items (plain_answers index c.places.answers.items) c.places-test.true
    c.in_default.ensures.found c.places.invariant.leads))

pub returns-then-not-goes : goal.returns-then-not-goes
returns-then-not-goes g c =
    let index = g.StorageT.StorageIndex.index in
    let rules = plain_state_rules index c.args.rules.now in
    let text = c.args.text.now in
    let top = c.places.stack.top in
    let below = c.places.stack.below.items in
    subst (LexesIn rules text 0 0 []) (sym (plain_push_error index c.places.answers.items c.push-then-not-goes.new.self.items c.nothing_below.result c.in_ok-push-2.ensures.items))
    (subst (λ e. LexesIn rules text 0 0 [] (plain_answers index c.places.answers.items ++ Err e ∷ [])) (sym c.nothing_below.ensures)
    (leads_to_fall rules text c.places.at top below c.in-Some.rule c.in-Some.len (plain_answers index c.places.answers.items) c.places-test.true
    c.in-Some.ensures.found
    (ap (λ t. moved t top below) (sym c.target_of-target.ensures) ∙ c.in_ok-goes.ensures.moved ∙ cond-false c.in_ok-goes.goes _ _ c.if-not-goes.true)
    c.places.invariant.leads))

pub places-preserved : goal.places-preserved
places-preserved g c =
    let index = g.StorageT.StorageIndex.index in
    let rules = plain_state_rules index c.args.rules.now in
    let text = c.args.text.now in
    let at = c.places.at in
    let top = c.places.stack.top in
    let below = c.places.stack.below.items in
    let so_far = plain_answers index c.places.answers.items in
    record {
      programs = c.read_at.ensures.same ∙ c.places.invariant.programs;
      boundary = c.in-Some.ensures.boundary;
      active = c.in_ok-next.ensures;
      leads = subst (LeadsTo rules text (at + c.in-Some.len) _ _)
          (sym (c.in_ok-push_lexeme.ensures ∙ ap (λ t. so_far ++ lexemes_of t at c.in-Some.len) c.token_of.ensures))
          (leads_on rules text at top below c.in-Some.rule c.in-Some.len _ _ so_far c.places-test.true c.in-Some.ensures.found
          (ap (λ t. moved t top below) (sym c.target_of-target.ensures) ∙ c.in_ok-goes.ensures.moved ∙ cond-true c.in_ok-goes.goes _ _ c.if-not-goes.false)
          c.places.invariant.leads);
    }

pub returns : goal.returns
returns g c =
    let index = g.StorageT.StorageIndex.index in
    leads_to_end (plain_state_rules index c.args.rules.now) c.args.text.now c.places.at c.places.stack.top c.places.stack.below.items
    (plain_answers index c.places.answers.items) c.places-test.false c.places.invariant.leads
