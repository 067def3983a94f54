use Rattle.std.proofs.Common.{◌≡◌, ◌≤◌, ◌+◌, ◌⊎◌, ◌∙◌, ap, arith, inl, inr, length, min, refl, subst, sym, take}
use Rattle.std.proofs.lemmas.Bool.{cases_lt}
use Rattle.std.proofs.lemmas.List.{length-map, length-take}
use Rattle.lrpar_table_stacks.specs.Expected.{tokens_of}
use Rattle.lrpar_table_stacks.specs.Stack.{states_of}
use Rattle.lrpar_parse_completion.specs.Trying.{AreTried, stacks_of}
use Rattle.lrpar_parse_completion.proofs.FeedLemmas.{fed_at, stacks_pushed, token_front}
use Rattle.lrpar_parse_completion.proofs.NearestLemmas.{Trying, trying_ends, trying_first, trying_more, trying_stops}
use Rattle.lrpar_parse_completion.proofs.nearest.Search.push_stacks.Goals as goal

pub tokens-init : goal.tokens-init
tokens-init g c =
    let index = g.StorageT.StorageIndex.index in
    let at = c.args.self.now.point.now in
    rw (c.requires.empty, c.in_ok-stack.ensures.items, c.stack.ensures.stack)
    (trying_first at.checked.grammar at.checked.table at.stack (tokens_of index c.args.self.now.tokens.now) c.stack.ensures.stop.stack)

pub feed-requires : goal.feed-requires
feed-requires g c = c.tokens.invariant.now_stack

pub tokens-preserved : goal.tokens-preserved
tokens-preserved g c =
    let index = g.StorageT.StorageIndex.index in
    let at = c.args.self.now.point.now in
    let all = c.args.self.now.tokens.now in
    let l = c.tokens in
    let t = c.token-item.result in
    let now = states_of index l.stack.items in
    let next = states_of index c.feed.new.stack.items in
    let there = token_front index all (take c.min.result all) c.min.result l.token-index t refl c.tokens-test.true c.token-item.is in
    let fed = fed_at index at.checked.grammar at.checked.table all l.token-index t now next there c.in_ok-feed.ensures.fed c.if-not-branch.false in
    let same = ap (states_of index) (c.in_ok-before.ensures.items ∙ c.deref.ensures.value) in
    let pushed = stacks_pushed index l.stacks.items c.push.new.self.items c.in_ok-before.before now c.in_ok-push.ensures.items same in
    subst (λ xs. Trying at.checked.grammar at.checked.table at.stack (tokens_of index all) xs next (l.token-index + 1)) (sym pushed)
    (trying_more at.checked.grammar at.checked.table at.stack (tokens_of index all) (stacks_of index l.stacks.items) now l.token-index l.invariant
    next fed.0 fed.1 c.in_ok-feed.ensures.stack)

pub returns-then-not-branch : goal.returns-then-not-branch
returns-then-not-branch g c =
    let index = g.StorageT.StorageIndex.index in
    let at = c.args.self.now.point.now in
    let tokens = tokens_of index c.args.self.now.tokens.now in
    let most = c.args.self.now.most in
    let l = c.tokens in
    let i = l.token-index in
    let t = c.token-item.result in
    let all = c.args.self.now.tokens.now in
    let front = token_front index all (take c.min.result all) c.min.result i t refl c.tokens-test.true c.token-item.is in
    let low : i ≤ most = omega (arith, c.tokens-test.true, length-take c.min.result all, c.min.ensures) in
    let now = states_of index l.stack.items in
    let same = ap (states_of index) (c.in_ok-before.ensures.items ∙ c.deref.ensures.value) in
    let pushed = stacks_pushed index l.stacks.items c.push.new.self.items c.in_ok-before.before now c.in_ok-push.ensures.items same in
    let next = states_of index c.feed.new.stack.items in
    let none = fed_at index at.checked.grammar at.checked.table all i t now next front c.in_ok-feed.ensures.fed c.if-not-branch.true in
    subst (λ xs. AreTried at.checked.grammar at.checked.table at.stack most tokens xs) (sym pushed)
    (trying_stops at.checked.grammar at.checked.table at.stack tokens (stacks_of index l.stacks.items) now i l.invariant most next none.0 low none.1)

pub returns : goal.returns
returns g c =
    let index = g.StorageT.StorageIndex.index in
    let at = c.args.self.now.point.now in
    let grm = at.checked.grammar in
    let table = at.checked.table in
    let all = c.args.self.now.tokens.now in
    let most = c.args.self.now.most in
    let tokens = tokens_of index all in
    let l = c.tokens in
    let i = l.token-index in
    let now = states_of index l.stack.items in
    let many = length-map all (λ t. index t.0) in
    let long = length-take c.min.result all in
    let all_of : i ≡ min (length all) most = omega (arith, long, c.min.ensures, c.tokens-test.false) in
    let end : (most ≤ i) ⊎ (length tokens ≤ i) = elim (cases_lt (length all) most) as (λ _. (most ≤ i) ⊎ (length tokens ≤ i)) [
      | inl short ↦ inr (omega (arith, all_of, many, short))
      | inr long ↦ inl (omega (arith, all_of, long))
    ] in
    let pushed = stacks_pushed index l.stacks.items c.push-2.new.self.items l.stack now c.in_ok-push-2.ensures.items refl in
    subst (λ xs. AreTried grm table at.stack most tokens xs) (sym pushed)
    (trying_ends grm table at.stack tokens (stacks_of index l.stacks.items) now i l.invariant most (omega (arith, all_of)) (omega (arith, all_of, many)) end)
