use Rattle.std.proofs.Common.{◌+◌, ◌<◌, ◌≤◌, ℕ, ◌++◌, ◌∷◌, [], None, Some, Err, Option, arith, drop, length, map, option_map, sym, subst, ◌∙◌, ap}
use Rattle.std.proofs.lemmas.Str.{IsCharBoundary-start}
use Rattle.lrpar_lexer.specs.Answers.{plain_answers}
use Rattle.lrpar_lexer.specs.Lexing.{Lexes}
use Rattle.lrpar_lexer.specs.Matching.{NoneMatches, Wins}
use Rattle.lrpar_lexer.specs.Rules.{pattern_of, plain_rules}
use Rattle.lrpar_lexer.proofs.AnswerLemmas.{plain_push_error}
use Rattle.lrpar_lexer.proofs.LexingLemmas.{LeadsTo, boundary_past, leads_at_first, leads_on, leads_to_end, leads_to_error, none_matches, reads_winner, winner_of_rules, winner_within, wins_within}
use Rattle.lrpar_lexer.proofs.lexing.answers.Goals as goal

pub places-init : goal.places-init
places-init g c =
    let index = g.StorageT.StorageIndex.index in
    let rules = plain_rules index c.args.rules.now in
    record {
      programs = c.in_ok-matchers.ensures;
      boundary = IsCharBoundary-start c.args.text.now c.utf8.text;
      leads = subst (LeadsTo rules c.args.text.now 0) (sym (ap (plain_answers index) c.new-answers.ensures.items)) (leads_at_first rules c.args.text.now);
    }

pub returns-in_default : goal.returns-in_default
returns-in_default g c =
    let index = g.StorageT.StorageIndex.index in
    let rules = plain_rules index c.args.rules.now in
    let text = c.args.text.now in
    let none : NoneMatches (map pattern_of c.args.rules.now) (drop c.places.at text) =
    winner_of_rules c.args.rules.now _ text c.range_from.result.now c.places.at None c.places.invariant.programs c.range_from.ensures.value
    c.in_default.ensures.winner in
    subst (Lexes rules text 0) (sym (plain_push_error index c.places.answers.items c.push.new.self.items c.at.result c.in_ok-push.ensures.items))
    (subst (λ e. Lexes rules text 0 (plain_answers index c.places.answers.items ++ Err e ∷ [])) (sym c.at.ensures)
    (leads_to_error rules text c.places.at (plain_answers index c.places.answers.items) c.places-test.true
    (none_matches index c.args.rules.now text c.places.at none) c.places.invariant.leads))

pub token_of-requires : goal.token_of-requires
token_of-requires g c =
    let index = g.StorageT.StorageIndex.index in
    wins_within index c.args.rules.now c.args.text.now c.places.at c.in-Some.winner.rule c.in-Some.winner.len
    (winner_of_rules c.args.rules.now _ c.args.text.now c.range_from.result.now c.places.at (Some c.in-Some.winner)
    c.places.invariant.programs c.range_from.ensures.value c.in-Some.ensures.winner)

pub places-preserved : goal.places-preserved
places-preserved g c =
    let index = g.StorageT.StorageIndex.index in
    let rules = plain_rules index c.args.rules.now in
    let text = c.args.text.now in
    let token : Option ℕ = option_map (λ token. index token.0) c.token_of.result in
    let wins : Wins (map pattern_of c.args.rules.now) (drop c.places.at text) c.in-Some.winner.rule c.in-Some.winner.len =
    winner_of_rules c.args.rules.now _ text c.range_from.result.now c.places.at (Some c.in-Some.winner)
    c.places.invariant.programs c.range_from.ensures.value c.in-Some.ensures.winner in
    record {
      programs = c.find_winner.ensures.same ∙ c.places.invariant.programs;
      boundary = boundary_past text c.places.at c.in-Some.winner.len c.places.invariant.boundary.0 wins.matches.boundary;
      leads = subst (LeadsTo rules text (c.places.at + c.in-Some.winner.len)) (sym c.in_ok-push_lexeme.ensures)
          (leads_on rules text c.places.at c.in-Some.winner.len token (plain_answers index c.places.answers.items) c.places-test.true
          (reads_winner index c.args.rules.now text c.places.at c.in-Some.winner.rule c.in-Some.winner.len token wins c.token_of.ensures) c.places.invariant.leads);
    }

pub returns : goal.returns
returns g c =
    let index = g.StorageT.StorageIndex.index in
    leads_to_end (plain_rules index c.args.rules.now) c.args.text.now c.places.at (plain_answers index c.places.answers.items) c.places-test.false
    c.places.invariant.leads

pub push_lexeme-requires : goal.push_lexeme-requires
push_lexeme-requires g c =
    let index = g.StorageT.StorageIndex.index in
    let len = c.in-Some.winner.len in
    let wins : Wins (map pattern_of c.args.rules.now) (drop c.places.at c.args.text.now) c.in-Some.winner.rule len =
    winner_of_rules c.args.rules.now _ c.args.text.now c.range_from.result.now c.places.at (Some c.in-Some.winner)
    c.places.invariant.programs c.range_from.ensures.value c.in-Some.ensures.winner in
    let within : (0 < len) × (c.places.at + len ≤ length c.args.text.now) =
    winner_within index c.args.rules.now c.args.text.now c.places.at c.in-Some.winner.rule len c.places.invariant.boundary.0 wins in
    omega arith

pub overflow_add-at : goal.overflow_add-at
overflow_add-at g c =
    let index = g.StorageT.StorageIndex.index in
    let len = c.in-Some.winner.len in
    let wins : Wins (map pattern_of c.args.rules.now) (drop c.places.at c.args.text.now) c.in-Some.winner.rule len =
    winner_of_rules c.args.rules.now _ c.args.text.now c.range_from.result.now c.places.at (Some c.in-Some.winner)
    c.places.invariant.programs c.range_from.ensures.value c.in-Some.ensures.winner in
    let within : (0 < len) × (c.places.at + len ≤ length c.args.text.now) =
    winner_within index c.args.rules.now c.args.text.now c.places.at c.in-Some.winner.rule len c.places.invariant.boundary.0 wins in
    omega arith

pub places-smaller : goal.places-smaller
places-smaller g c =
    let index = g.StorageT.StorageIndex.index in
    let len = c.in-Some.winner.len in
    let wins : Wins (map pattern_of c.args.rules.now) (drop c.places.at c.args.text.now) c.in-Some.winner.rule len =
    winner_of_rules c.args.rules.now _ c.args.text.now c.range_from.result.now c.places.at (Some c.in-Some.winner)
    c.places.invariant.programs c.range_from.ensures.value c.in-Some.ensures.winner in
    let within : (0 < len) × (c.places.at + len ≤ length c.args.text.now) =
    winner_within index c.args.rules.now c.args.text.now c.places.at c.in-Some.winner.rule len c.places.invariant.boundary.0 wins in
    omega arith
