use Rattle.std.proofs.Common.{◌≡◌, ◌≤◌, ◌+◌, arith, length, subst, sym}
use Rattle.std.proofs.lemmas.List.{length-map}
use Rattle.lrpar_table_stacks.specs.Expected.{tokens_of}
use Rattle.lrpar_table_stacks.specs.Stack.{IsStack, states_of}
use Rattle.lrpar_parse_lexemes.specs.Views.{token_by}
use Rattle.lrpar_parse_completion.specs.Trying.{IsFewest}
use Rattle.lrpar_parse_completion.proofs.FeedLemmas.{fed_at, token_is}
use Rattle.lrpar_parse_completion.proofs.NearestLemmas.{NotBefore, fed_next, fewest_here, never_at_all, never_past, not_here_more}
use Rattle.lrpar_parse_completion.proofs.nearest.Search.feed_to_end.Goals as goal

pub tokens-init : goal.tokens-init
tokens-init g c =
    let at = c.args.self.now.point.now in
    record {
      fed = c.requires.stack;
      stack = subst (IsStack at.checked.table) (sym c.requires.stack) c.lexemes-place.ensures.stop.stack;
      before = λ n low. absurd (omega (arith, low));
    }

pub tokens-preserved : goal.tokens-preserved
tokens-preserved g c =
    let index = g.StorageT.StorageIndex.index in
    let token = token_by index g.LexemeT.Lexeme.parts in
    let at = c.args.self.now.point.now in
    let all = c.args.self.now.tokens.now in
    let l = c.tokens in
    let t = c.token-item.result in
    let now = states_of index l.stack.items in
    let next = states_of index c.feed.new.stack.items in
    let same = token_is index all l.inserted t c.tokens-test.true c.token-item.is in
    let fed = fed_at index at.checked.grammar at.checked.table all l.inserted t now next (c.tokens-test.true, same) c.in_ok-feed.ensures.fed c.if-not-branch.false in
    let says = rw (c.deref.ensures.value, c.lexemes-place.ensures.lexemes) at c.in_ok-goes_on.ensures in
    record {
      fed = fed_next at.checked.grammar at.checked.table at.stack (tokens_of index all) l.inserted now next fed.0 l.invariant.fed fed.1;
      stack = c.in_ok-feed.ensures.stack;
      before = not_here_more token at (tokens_of index all) (length at.lexemes) l.inserted now l.invariant.fed says c.if-branch.false l.invariant.before;
    }

pub returns-then-branch : goal.returns-then-branch
returns-then-branch g c =
    let index = g.StorageT.StorageIndex.index in
    let token = token_by index g.LexemeT.Lexeme.parts in
    let at = c.args.self.now.point.now in
    let l = c.tokens in
    let tokens = tokens_of index c.args.self.now.tokens.now in
    let now = states_of index l.stack.items in
    let some : l.inserted ≤ length tokens = omega (arith, c.tokens-test.true, length-map c.args.self.now.tokens.now (λ x. index x.0)) in
    let says = rw (c.deref.ensures.value, c.lexemes-place.ensures.lexemes) at c.in_ok-goes_on.ensures in
    fewest_here token at tokens (length at.lexemes) l.inserted now some l.invariant.fed (says.0 c.if-branch.true) l.invariant.before

pub returns-then-not-branch : goal.returns-then-not-branch
returns-then-not-branch g c =
    let index = g.StorageT.StorageIndex.index in
    let at = c.args.self.now.point.now in
    let tokens = tokens_of index c.args.self.now.tokens.now in
    let l = c.tokens in
    let t = c.token-item.result in
    let now = states_of index l.stack.items in
    let same = token_is index c.args.self.now.tokens.now l.inserted t c.tokens-test.true c.token-item.is in
    let token = token_by index g.LexemeT.Lexeme.parts in
    let next = states_of index c.feed.new.stack.items in
    let none =
    fed_at index at.checked.grammar at.checked.table c.args.self.now.tokens.now l.inserted t now next (c.tokens-test.true, same)
    c.in_ok-feed.ensures.fed c.if-not-branch.true in
    let says = rw (c.deref.ensures.value, c.lexemes-place.ensures.lexemes) at c.in_ok-goes_on.ensures in
    never_past token at tokens (length at.lexemes) l.inserted now next none.0 l.invariant.fed none.1
    (not_here_more token at tokens (length at.lexemes) l.inserted now l.invariant.fed says c.if-branch.false l.invariant.before)

pub returns-then-branch-2 : goal.returns-then-branch-2
returns-then-branch-2 g c =
    let index = g.StorageT.StorageIndex.index in
    let token = token_by index g.LexemeT.Lexeme.parts in
    let at = c.args.self.now.point.now in
    let l = c.tokens in
    let tokens = tokens_of index c.args.self.now.tokens.now in
    let now = states_of index l.stack.items in
    let some : l.inserted ≤ length tokens = omega (arith, c.tokens-test.false, length-map c.args.self.now.tokens.now (λ x. index x.0)) in
    let says = rw (c.deref-2.ensures.value, c.lexemes-place.ensures.lexemes) at c.in_ok-goes_on-2.ensures in
    let same : l.inserted ≡ length c.args.self.now.tokens.now = omega (arith, c.tokens-test.false) in
    subst (IsFewest token at tokens (length at.lexemes)) same
    (fewest_here token at tokens (length at.lexemes) l.inserted now some l.invariant.fed (says.0 c.if-branch-2.true) l.invariant.before)

pub returns-else-branch-2 : goal.returns-else-branch-2
returns-else-branch-2 g c =
    let index = g.StorageT.StorageIndex.index in
    let token = token_by index g.LexemeT.Lexeme.parts in
    let at = c.args.self.now.point.now in
    let end = length at.lexemes in
    let all = c.args.self.now.tokens.now in
    let tokens = tokens_of index all in
    let l = c.tokens in
    let now = states_of index l.stack.items in
    let last : l.inserted + 1 ≡ length tokens + 1 = omega (arith, c.tokens-test.false, length-map all (λ x. index x.0)) in
    let says = rw (c.deref-2.ensures.value, c.lexemes-place.ensures.lexemes) at c.in_ok-goes_on-2.ensures in
    let before = not_here_more token at tokens end l.inserted now l.invariant.fed says c.if-branch-2.false l.invariant.before in
    never_at_all token at tokens end (subst (NotBefore token at tokens end) last before)
