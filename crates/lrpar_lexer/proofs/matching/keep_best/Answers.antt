use Rattle.std.proofs.Common.{◌+◌, map, refl, subst, sym, take, ◌∙◌, arith}
use Rattle.std.specs.List.{AllZip}
use Rattle.std.proofs.lemmas.List.{length-map, take_all}
use Rattle.std.proofs.lemmas.Option.{IfSome_then}
use Rattle.lrpar_lexer.specs.Anchored.{FindsAtStart}
use Rattle.lrpar_lexer.specs.Matching.{Improves}
use Rattle.lrpar_lexer.specs.Searches.{program_of}
use Rattle.lrpar_lexer.proofs.WalkLemmas.{improves_at}
use Rattle.lrpar_lexer.proofs.WinnerLemmas.{improves_none}
use Rattle.lrpar_lexer.proofs.matching.keep_best.Goals as goal

pub rules-init : goal.rules-init
rules-init c = record { same = refl; best = λ patterns find. improves_none patterns c.args.rest.now c.args.so_far }

pub rules-preserved : goal.rules-preserved
rules-preserved c =
    let rest = c.args.rest.now in
    let rules = c.args.rules.now in
    let i = c.rules.rule-index in
    let items = c.rules.matchers.items in
    record {
      same = c.match_of-found.ensures.same ∙ c.rules.invariant.same;
      best = λ patterns find.
          subst (Improves patterns rest (take (i + 1) rules) c.args.so_far) (sym c.better-best.ensures)
          (improves_at (map program_of items) patterns rest rules i c.args.so_far c.rules.best c.match_of-found.result c.rules-test.true
          (subst (λ ps. AllZip FindsAtStart ps patterns) (sym c.rules.invariant.same) find) (c.rules.invariant.best patterns find)
          (IfSome_then c.match_of-found.result c.match_of-found.ensures.known (λ _ k. omega (arith, k, length-map items program_of)))
          c.match_of-found.ensures.found);
    }

pub returns : goal.returns
returns c = record {
  best = λ patterns find.
      subst (λ rs. Improves patterns c.args.rest.now rs c.args.so_far c.rules.best) (take_all c.rules.rule-index c.args.rules.now c.rules-test.false)
      (c.rules.invariant.best patterns find);
  same = c.rules.invariant.same;
}
