use Rattle.std.proofs.Common.{◌≡◌, ◌<◌, ◌≤◌, ap, arith, length, subst, sym}
use Rattle.lrpar_table_stacks.specs.Expected.{tokens_of}
use Rattle.lrpar_parse_lexemes.specs.Views.{token_by}
use Rattle.lrpar_parse_completion.proofs.NearestLemmas.{NoneNearer, nearest_at_end, nearest_before, none_nearer_more}
use Rattle.lrpar_parse_completion.proofs.nearest.Search.nearest.Goals as goal

pub loop-place-init : goal.loop-place-init
loop-place-init g c = λ i n after low. absurd (omega (arith, after, low))

pub first_going_on-requires-clause-tried : goal.first_going_on-requires-clause-tried
first_going_on-requires-clause-tried g c = rw c.deref.ensures.value c.in_ok-stacks.ensures

pub loop-place-preserved : goal.loop-place-preserved
loop-place-preserved g c =
    let index = g.StorageT.StorageIndex.index in
    let token = token_by index g.LexemeT.Lexeme.parts in
    let at = c.args.self.now.point.now in
    let tokens = tokens_of index c.args.self.now.tokens.now in
    let none = rw c.in_default.is at c.in_ok-inserted.ensures in
    none_nearer_more token at tokens c.args.self.now.most c.loop-place.place c.loop-place.invariant none

pub returns-in-Some : goal.returns-in-Some
returns-in-Some g c =
    let index = g.StorageT.StorageIndex.index in
    let token = token_by index g.LexemeT.Lexeme.parts in
    let at = c.args.self.now.point.now in
    let tokens = tokens_of index c.args.self.now.tokens.now in
    let j = c.loop-place.place in
    let found = rw c.in-Some.is at c.in_ok-inserted.ensures in
    let after : at.place ≤ j = omega arith in
    let low : j < length at.lexemes = rw (sym c.lexemes-place-end.ensures.lexemes) c.loop-place-test.true in
    nearest_before token at tokens c.args.self.now.most j c.in-Some.inserted after low c.loop-place.invariant found.0 found.1

pub returns-in_default-2 : goal.returns-in_default-2
returns-in_default-2 g c = rw c.in_default-2.is at c.in_ok-inserted-2.ensures

pub returns : goal.returns
returns g c =
    let index = g.StorageT.StorageIndex.index in
    let token = token_by index g.LexemeT.Lexeme.parts in
    let at = c.args.self.now.point.now in
    let tokens = tokens_of index c.args.self.now.tokens.now in
    let most = c.args.self.now.most in
    let found = rw c.in-Some-2.is at c.in_ok-inserted-2.ensures in
    let within = c.lexemes-place-end.ensures.stop.within in
    let long = ap (λ xs. length xs) c.lexemes-place-end.ensures.lexemes in
    let last : c.loop-place.place ≡ length at.lexemes =
    omega (arith, c.loop-place-test.false, c.loop-place.auto.place-end, within, long) in
    let none = subst (NoneNearer token at tokens most) last c.loop-place.invariant in
    rw c.lexemes-place.ensures.lexemes (nearest_at_end token at tokens most c.in-Some-2.inserted within none found)
