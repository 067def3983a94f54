use Rattle.std.proofs.Common.{List, None, ap, get_or, map, refl, subst, sym, ◌∙◌, arith}
use Rattle.std.specs.List.{AllZip}
use Rattle.regex.specs.Patterns.{Re}
use Rattle.lrpar_lexer.specs.Anchored.{FindsAtStart}
use Rattle.lrpar_lexer.specs.Matching.{Improves}
use Rattle.lrpar_lexer.specs.Searches.{program_of}
use Rattle.lrpar_lexer.proofs.WalkLemmas.{covered_finish, covered_start, covered_step, covered_stop, empty_of_test, none_in_empty, some_of_test}
use Rattle.lrpar_lexer.proofs.WinnerLemmas.{wins_if_covered}
use Rattle.lrpar_lexer.proofs.matching.find_winner_met.Goals as goal

pub returns-then-is_empty : goal.returns-then-is_empty
returns-then-is_empty c = record {
  winner = λ patterns find.
      none_in_empty c.args.tree.now.nodes.items patterns c.args.rest.now
      (empty_of_test c.as_bytes-bytes.result.now c.args.rest.now c.is_empty.result c.as_bytes-bytes.ensures.value c.is_empty.ensures c.if-is_empty.true);
  same = refl;
}

pub walk-init : goal.walk-init
walk-init c =
    let rest = c.args.rest.now in
    let bytes = c.as_bytes-bytes.result.now in
    record {
      same = c.keep_best-best.ensures.same;
      within = c.first-node.ensures.within;
      real = λ patterns find. (c.keep_best-best.ensures.best patterns find).real tt;
      covered = λ patterns find.
          covered_start c.args.tree.now.nodes.items patterns rest (map program_of c.args.matchers.now.items) c.first-node.result c.keep_best-best.result
          c.utf8.rest (some_of_test bytes rest c.is_empty.result c.as_bytes-bytes.ensures.value c.is_empty.ensures c.if-is_empty.false)
          (omega (arith, c.type_inv.rest 0))
          (c.first-node.ensures.first ∙ ap (λ l. get_or l 0 0) c.as_bytes-bytes.ensures.value) c.requires find
          (subst (λ rs. Improves patterns rest rs None c.keep_best-best.result) c.rules.ensures (c.keep_best-best.ensures.best patterns find));
    }

pub walk-preserved : goal.walk-preserved
walk-preserved c =
    let rest = c.args.rest.now in
    let improves = λ (patterns : List Re) (find : AllZip FindsAtStart (map program_of c.args.matchers.now.items) patterns).
    subst (λ rs. Improves patterns rest rs c.walk.best c.keep_best-best-in-walk.result) c.rules-in-walk.ensures
    (c.keep_best-best-in-walk.ensures.best patterns (subst (λ ps. AllZip FindsAtStart ps patterns) (sym c.walk.invariant.same) find)) in
    record {
      same = c.keep_best-best-in-walk.ensures.same ∙ c.walk.invariant.same;
      within = c.in-Some.ensures.within;
      real = λ patterns find. (improves patterns find).real (c.walk.invariant.real patterns find);
      covered = λ patterns find.
          covered_step c.args.tree.now.nodes.items patterns rest c.as_bytes-bytes.result.now c.walk.byte-index c.walk.node _ c.in-Some.next c.walk.best
          c.keep_best-best-in-walk.result c.as_bytes-bytes.ensures.value c.walk-test.true refl c.in-Some.ensures.next (improves patterns find)
          (c.walk.invariant.covered patterns find);
    }

pub returns-in_default-clause-winner : goal.returns-in_default-clause-winner
returns-in_default-clause-winner c patterns find =
    let rest = c.args.rest.now in
    wins_if_covered patterns rest c.walk.best (c.walk.invariant.real patterns find)
    (covered_stop c.args.tree.now.nodes.items patterns rest c.as_bytes-bytes.result.now c.walk.byte-index c.walk.node _ c.walk.best
    c.as_bytes-bytes.ensures.value c.walk-test.true refl c.in_default.ensures.next (c.walk.invariant.covered patterns find))

pub returns : goal.returns
returns c =
    let rest = c.args.rest.now in
    record {
      winner = λ patterns find.
          wins_if_covered patterns rest c.walk.best (c.walk.invariant.real patterns find)
          (covered_finish c.args.tree.now.nodes.items patterns rest c.as_bytes-bytes.result.now c.walk.byte-index c.walk.node c.walk.best
          c.as_bytes-bytes.ensures.value c.walk-test.false (c.walk.invariant.covered patterns find));
      same = c.walk.invariant.same;
    }
