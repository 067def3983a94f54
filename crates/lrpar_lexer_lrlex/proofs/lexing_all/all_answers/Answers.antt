use Rattle.std.proofs.Common.{◌+◌, [], sym, subst, ◌∙◌, ap, option_map}
use Rattle.std.proofs.lemmas.Str.{IsCharBoundary-start}
use Rattle.lrpar_lexer.specs.Answers.{plain_answers}
use Rattle.lrpar_lexer_lrlex.specs.StateRules.{active, plain_state_rules}
use Rattle.lrpar_lexer_lrlex.proofs.LexingAllInLemmas.{LeadsToAll, all_at_first, all_on, all_to_end}
use Rattle.lrpar_lexer_lrlex.proofs.lexing_all.all_answers.Goals as goal

pub places-init : goal.places-init
places-init g c =
    let index = g.StorageT.StorageIndex.index in
    let rules = plain_state_rules index c.args.rules.now in
    let unmatched = index c.args.unmatched.0 in
    let text = c.args.text.now in
    record {
      programs = c.in_ok-matchers.ensures;
      boundary = IsCharBoundary-start text c.utf8.text;
      active = c.in_ok-active.ensures ∙ ap (active rules) (sym c.new-stack.ensures.top);
      leads = subst (λ b. LeadsToAll rules unmatched text 0 c.new-stack.result.top c.new-stack.result.below.items (plain_answers index b))
          (sym c.new-answers.ensures.items)
          (subst (λ t. LeadsToAll rules unmatched text 0 t c.new-stack.result.below.items []) (sym c.new-stack.ensures.top)
          (subst (λ b. LeadsToAll rules unmatched text 0 0 b []) (sym c.new-stack.ensures.below) (all_at_first rules unmatched text)));
    }

pub places-preserved : goal.places-preserved
places-preserved g c =
    let index = g.StorageT.StorageIndex.index in
    let rules = plain_state_rules index c.args.rules.now in
    let unmatched = index c.args.unmatched.0 in
    let text = c.args.text.now in
    let at = c.places.at in
    let len = c.in_ok-token.len in
    record {
      programs = c.next_lexeme.ensures.same ∙ c.places.invariant.programs;
      boundary = c.in_ok-token.ensures.boundary;
      active = c.in_ok-next.ensures;
      leads = subst (LeadsToAll rules unmatched text (at + len) _ _) (sym c.in_ok-push_lexeme.ensures)
          (all_on rules unmatched text at c.places.stack.top c.places.stack.below.items (option_map (λ token. index token.0) c.in_ok-token.token) len _ _
          (plain_answers index c.places.answers.items) c.places-test.true c.in_ok-token.ensures.next c.places.invariant.leads);
    }

pub returns : goal.returns
returns g c =
    let index = g.StorageT.StorageIndex.index in
    all_to_end (plain_state_rules index c.args.rules.now) (index c.args.unmatched.0) c.args.text.now c.places.at c.places.stack.top
    c.places.stack.below.items (plain_answers index c.places.answers.items) c.places-test.false c.places.invariant.leads
