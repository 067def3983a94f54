use Rattle.std.proofs.Common.{◌+◌, ◌∙◌, ap, option_map, subst, sym}
use Rattle.std.proofs.lemmas.Str.{IsCharBoundary-start}
use Rattle.lrpar_lexer.specs.Answers.{plain_answers}
use Rattle.lrpar_lexer.specs.Rules.{plain_rules}
use Rattle.lrpar_lexer.proofs.LexingAllLemmas.{LeadsToAll, all_at_first, all_on, all_to_end}
use Rattle.lrpar_lexer.proofs.lexing_all.all_answers.Goals as goal

pub places-init : goal.places-init
places-init g c =
    let index = g.StorageT.StorageIndex.index in
    let rules = plain_rules index c.args.rules.now in
    let unmatched = index c.args.unmatched.0 in
    record {
      programs = c.in_ok-matchers.ensures;
      boundary = IsCharBoundary-start c.args.text.now c.utf8.text;
      leads = subst (LeadsToAll rules unmatched c.args.text.now 0) (sym (ap (plain_answers index) c.new-answers.ensures.items))
          (all_at_first rules unmatched c.args.text.now);
    }

pub places-preserved : goal.places-preserved
places-preserved g c =
    let index = g.StorageT.StorageIndex.index in
    let rules = plain_rules index c.args.rules.now in
    let unmatched = index c.args.unmatched.0 in
    let text = c.args.text.now in
    let next = c.next_lexeme-len.result in
    record {
      programs = c.next_lexeme-len.ensures.same ∙ c.places.invariant.programs;
      boundary = c.next_lexeme-len.ensures.boundary;
      leads = subst (LeadsToAll rules unmatched text (c.places.at + next.1)) (sym c.in_ok-push_lexeme.ensures)
          (all_on rules unmatched text c.places.at next.1 (option_map (λ token. index token.0) next.0) (plain_answers index c.places.answers.items)
          c.places-test.true c.next_lexeme-len.ensures.next c.places.invariant.leads);
    }

pub returns : goal.returns
returns g c =
    let index = g.StorageT.StorageIndex.index in
    all_to_end (plain_rules index c.args.rules.now) (index c.args.unmatched.0) c.args.text.now c.places.at (plain_answers index c.places.answers.items)
    c.places-test.false c.places.invariant.leads
