use Rattle.std.proofs.Common.{◌∙◌, ap, refl, sym}
use Rattle.std.proofs.lemmas.Bool.{cond-false, cond-true}
use Rattle.lrpar_lexer.specs.Matchers.{programs_of}
use Rattle.lrpar_lexer.specs.Matching.{IsUnmatched}
use Rattle.lrpar_lexer_lrlex.specs.LexingIn.{patterns_in}
use Rattle.lrpar_lexer_lrlex.specs.LexingAllIn.{skips}
use Rattle.lrpar_lexer_lrlex.specs.StateRules.{moved, plain_state_rules}
use Rattle.lrpar_lexer_lrlex.proofs.LexingAllInLemmas.{goes_in, keeps_in, run_in, top_stays}
use Rattle.lrpar_lexer_lrlex.proofs.lexing_all.next_lexeme.Goals as goal

pub returns-in_default : goal.returns-in_default
returns-in_default g c =
    let index = g.StorageT.StorageIndex.index in
    let rules = plain_state_rules index c.args.rules.now in
    let text = c.args.text.now in
    let top = c.args.stack.now.top in
    let run : IsUnmatched (patterns_in rules top) text c.args.at c.measure_unmatched-run.result =
    run_in index c.args.rules.now top (programs_of c.read_at.new.matchers) c.args.active.now text c.args.at c.measure_unmatched-run.result
    (c.read_at.ensures.same ∙ c.requires.ready.programs) c.requires.ready.active c.in_default.ensures.found c.measure_unmatched-run.ensures.unmatched in
    record {
      next = skips c.measure_unmatched-run.result run;
      some = run.some;
      boundary = run.boundary;
      stays = λ _. refl;
      same = c.measure_unmatched-run.ensures.same ∙ c.read_at.ensures.same;
    }

pub returns-then-not-goes : goal.returns-then-not-goes
returns-then-not-goes g c =
    let index = g.StorageT.StorageIndex.index in
    let rules = plain_state_rules index c.args.rules.now in
    let top = c.args.stack.now.top in
    let below = c.args.stack.now.below.items in
    let same = c.in_ok-goes.ensures.stays c.if-not-goes.true in
    record {
      next = keeps_in rules (index c.args.unmatched.0) c.args.text.now c.args.at top below c.in-Some.rule c.in-Some.len c.in-Some.ensures.found _ _
          (ap (λ t. moved t top below) (sym c.target_of-target.ensures) ∙ c.in_ok-goes.ensures.moved
          ∙ cond-false c.in_ok-goes.goes _ _ c.if-not-goes.true) same;
      some = c.in-Some.ensures.some;
      boundary = c.in-Some.ensures.boundary;
      stays = λ _. same.0;
      same = c.read_at.ensures.same;
    }

pub returns : goal.returns
returns g c =
    let index = g.StorageT.StorageIndex.index in
    let rules = plain_state_rules index c.args.rules.now in
    let top = c.args.stack.now.top in
    let below = c.args.stack.now.below.items in
    let on = c.in_ok-goes.ensures.moved ∙ cond-true c.in_ok-goes.goes _ _ c.if-not-goes.false in
    record {
      next = goes_in rules (index c.args.unmatched.0) c.args.text.now c.args.at top below c.in-Some.rule c.in-Some.len c.in-Some.ensures.found _ _ _
          c.token_of.ensures (ap (λ t. moved t top below) (sym c.target_of-target.ensures) ∙ on);
      some = c.in-Some.ensures.some;
      boundary = c.in-Some.ensures.boundary;
      stays = λ none. top_stays _ top _ below _ on none;
      same = c.read_at.ensures.same;
    }
