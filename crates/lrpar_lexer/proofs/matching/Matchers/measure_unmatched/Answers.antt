use Rattle.std.proofs.Common.{◌∙◌, arith, option_map, refl, subst, sym}
use Rattle.std.specs.List.{AllZip}
use Rattle.lrpar_lexer.specs.Anchored.{FindsAtStart}
use Rattle.lrpar_lexer.specs.Matching.{tried_of}
use Rattle.lrpar_lexer.proofs.UnmatchedLemmas.{none_later_first, none_later_more, run_before_match, run_to_end}
use Rattle.lrpar_lexer.proofs.matching.Matchers.measure_unmatched.Goals as goal

pub run-init : goal.run-init
run-init c = record {
  same = refl;
  some = omega arith;
  within = omega arith;
  later = λ patterns find all. none_later_first (tried_of patterns (option_map (λ x. x.now) c.args.chosen)) c.args.text.now c.args.at;
}

pub run-preserved : goal.run-preserved
run-preserved c = record {
  same = c.matches_at.ensures.same ∙ c.run.invariant.same;
  some = omega arith;
  within = omega arith;
  later = λ patterns find all.
      none_later_more (tried_of patterns (option_map (λ x. x.now) c.args.chosen)) c.args.text.now c.args.at c.run.len c.matches_at.result c.if-matches_at.false
      (c.matches_at.ensures.matches patterns (subst (λ ps. AllZip FindsAtStart ps patterns) (sym c.run.invariant.same) find) all)
      (c.run.invariant.later patterns find all);
}

pub returns-then-matches_at : goal.returns-then-matches_at
returns-then-matches_at c = record {
  unmatched = λ patterns find all none.
      run_before_match (tried_of patterns (option_map (λ x. x.now) c.args.chosen)) c.args.text.now c.args.at c.run.len c.matches_at.result c.run.invariant.some c.if-matches_at.true
      (c.matches_at.ensures.matches patterns (subst (λ ps. AllZip FindsAtStart ps patterns) (sym c.run.invariant.same) find) all)
      none (c.run.invariant.later patterns find all);
  same = c.matches_at.ensures.same ∙ c.run.invariant.same;
}

pub returns : goal.returns
returns c = record {
  unmatched = λ patterns find all none.
      run_to_end (tried_of patterns (option_map (λ x. x.now) c.args.chosen)) c.args.text.now c.args.at c.run.len c.run.invariant.some (omega arith) none (c.run.invariant.later patterns find all);
  same = c.run.invariant.same;
}
