use Rattle.std.proofs.Common.{◌<◌, List, length, [], ◌∷◌, get_or, refl, sym, subst, ◌∙◌, arith}
use Rattle.std.specs.List.{All, AllZip}
use Rattle.std.proofs.lemmas.List.{length-map}
use Rattle.std.proofs.lemmas.Option.{slice_get_within}
use Rattle.regex.specs.Patterns.{Re, empty}
use Rattle.lrpar_lexer.specs.Anchored.{FindsAtStart}
use Rattle.lrpar_lexer.specs.Matching.{Improves, chosen_of}
use Rattle.lrpar_lexer.specs.Matchers.{programs_of}
use Rattle.lrpar_lexer.proofs.ChosenLemmas.{chosen_improves, covered_below_more}
use Rattle.lrpar_lexer.proofs.WinnerLemmas.{wins_if_covered}
use Rattle.lrpar_lexer.proofs.matching.Matchers.find_winner_among.Goals as goal

pub chosen-init : goal.chosen-init
chosen-init c = record {
  same = refl;
  marked = c.mark.ensures;
  real = λ patterns find all. tt;
  covered = λ patterns find all place pattern below. absurd (omega (arith, below));
}

pub chosen-preserved : goal.chosen-preserved
chosen-preserved c =
    let place = c.chosen.place in
    let rest = c.args.rest.now in
    let chosen = c.args.chosen.now in
    let find_here = λ (patterns : List Re) (find : AllZip FindsAtStart (programs_of c.args.self.now) patterns).
    subst (λ ps. AllZip FindsAtStart ps patterns) (sym c.chosen.invariant.same) find in
    let improves = λ (patterns : List Re) (find : AllZip FindsAtStart (programs_of c.args.self.now) patterns) (all : All (λ i. i < length patterns) chosen).
    subst (Improves (chosen_of patterns chosen) rest (place ∷ []) c.chosen.best) (sym c.better-best.ensures)
    (chosen_improves (programs_of c.chosen.self) patterns rest chosen place _ c.chosen.best c.match_if_marked-found.result _ c.chosen-test.true
    (find_here patterns find) all c.match_if_marked-found.ensures.known c.match_if_marked-found.ensures.found) in
    record {
      same = c.match_if_marked-found.ensures.same ∙ c.chosen.invariant.same;
      marked = c.match_if_marked-found.ensures.marked;
      real = λ patterns find all. (improves patterns find all).real (c.chosen.invariant.real patterns find all);
      covered = λ patterns find all.
          covered_below_more (chosen_of patterns chosen) rest place c.chosen.best c.better-best.result (improves patterns find all)
          (c.chosen.invariant.covered patterns find all);
    }

pub returns : goal.returns
returns c = record {
  winner = λ patterns find all.
      let tried = chosen_of patterns c.args.chosen.now in
      wins_if_covered tried c.args.rest.now c.chosen.best (c.chosen.invariant.real patterns find all)
      (λ i pattern is. c.chosen.invariant.covered patterns find all i pattern
      (omega (arith, slice_get_within tried i pattern is, length-map c.args.chosen.now (λ i. get_or patterns i empty), c.chosen-test.false)) is);
  same = c.chosen.invariant.same;
}
