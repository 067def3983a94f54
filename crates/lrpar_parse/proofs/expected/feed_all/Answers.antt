use Rattle.std.proofs.Common.{◌≡◌, ◌∙◌, ◌++◌, ◌∷◌, [], List, ℕ, ap, arith, refl, subst, sym}
use Rattle.lrpar_table_check.specs.ExpectedRuns.{FeedsFront}
use Rattle.lrpar_table_stacks.specs.Stack.{IsStack, states_of}
use Rattle.lrpar_table_rows.specs.Table.{Table}
use Rattle.lrpar_parse_lexemes.specs.Views.{facts_by, token_by}
use Rattle.lrpar_parse.proofs.ExpectedLemmas.{fed_none, known_token, lexeme_fed, lexeme_stops}
use Rattle.lrpar_parse.proofs.expected.feed_all.Goals as goal

pub loop-place-init : goal.loop-place-init
loop-place-init g c =
    let index = g.StorageT.StorageIndex.index in
    let d = c.args.checked.now in
    let lexemes = c.args.lexemes.now in
    let token = token_by index g.LexemeT.Lexeme.parts in
    let start = c.start_state-start.result in
    let items : c.push.new.self.items ≡ start ∷ [] = c.in_ok-push.ensures.items ∙ ap (λ l. l ++ start ∷ []) c.new-stack.ensures.items in
    let number : index start.0 ≡ d.table.start = c.start_state-start.ensures.start ∙ ap (λ (t : Table). t.start) c.stable.ensures.table in
    let states : states_of index c.push.new.self.items ≡ d.table.start ∷ [] = ap (states_of index) items ∙ ap (λ (n : ℕ). n ∷ []) number in
    record {
      stack = subst (λ (st : List ℕ). IsStack d.table st) (sym states) (refl, tt);
      fed = subst (λ (st : List ℕ). FeedsFront token d.grammar d.table lexemes 0 st) (sym states) (fed_none token d lexemes);
    }

pub feed_if_expected-requires-clause-token : goal.feed_if_expected-requires-clause-token
feed_if_expected-requires-clause-token g c =
    let index = g.StorageT.StorageIndex.index in
    let known =
    known_token (facts_by index g.LexemeT.Lexeme.parts) c.args.checked.now c.stable.ensures.checked c.args.lexemes.now c.requires.valid c.loop-place.place
    c.index-lexemes-place.result c.loop-place-test.true c.index-lexemes-place.is in
    let same = ap index c.tok_id.ensures.token in
    omega (arith, known.1, same)

pub returns-then-not-branch : goal.returns-then-not-branch
returns-then-not-branch g c =
    let index = g.StorageT.StorageIndex.index in
    let d = c.args.checked.now in
    let stops =
    lexeme_stops (facts_by index g.LexemeT.Lexeme.parts) d c.stable.ensures.checked c.args.lexemes.now c.requires.valid c.loop-place.place
    (states_of index c.loop-place.stack.items) c.loop-place.invariant.fed c.index-lexemes-place.result c.loop-place-test.true c.index-lexemes-place.is
    (index c.tok_id.result) (ap index c.tok_id.ensures.token) _ (states_of index c.feed_if_expected.new.stack.items)
    c.in_ok-feed_if_expected.ensures c.if-not-branch.true in
    record {
      furthest = stops.1;
      stack = subst (λ (st : List ℕ). IsStack d.table st) (sym stops.0) c.loop-place.invariant.stack;
    }

pub loop-place-preserved : goal.loop-place-preserved
loop-place-preserved g c =
    let index = g.StorageT.StorageIndex.index in
    let more =
    lexeme_fed (facts_by index g.LexemeT.Lexeme.parts) c.args.checked.now c.stable.ensures.checked c.args.lexemes.now c.requires.valid c.loop-place.place
    (states_of index c.loop-place.stack.items) c.loop-place.invariant.fed c.index-lexemes-place.result c.loop-place-test.true c.index-lexemes-place.is
    (index c.tok_id.result) (ap index c.tok_id.ensures.token) _ (states_of index c.feed_if_expected.new.stack.items)
    c.in_ok-feed_if_expected.ensures c.if-not-branch.false in
    record { stack = more.0; fed = more.1 }
