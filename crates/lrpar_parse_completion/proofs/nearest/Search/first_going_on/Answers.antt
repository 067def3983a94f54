use Rattle.std.proofs.Common.{◌≡◌, ◌≤◌, arith, length, subst}
use Rattle.std.proofs.lemmas.List.{length-map}
use Rattle.lrpar_table_stacks.specs.Expected.{tokens_of}
use Rattle.lrpar_table_stacks.specs.Stack.{states_of}
use Rattle.lrpar_parse_lexemes.specs.Views.{token_by}
use Rattle.lrpar_parse_completion.specs.Trying.{stacks_of}
use Rattle.lrpar_parse_completion.proofs.FeedLemmas.{stack_at}
use Rattle.lrpar_parse_completion.proofs.NearestLemmas.{NotBefore, fewest_here, none_goes_on, not_here_more, stack_tried}
use Rattle.lrpar_parse_completion.proofs.nearest.Search.first_going_on.Goals as goal

pub loop-inserted-init : goal.loop-inserted-init
loop-inserted-init g c = λ n low. absurd (omega (arith, low))

pub goes_on-requires-clause-stack : goal.goes_on-requires-clause-stack
goes_on-requires-clause-stack g c =
    let index = g.StorageT.StorageIndex.index in
    let at = c.args.self.now.point.now in
    let stacks = c.args.stacks.now in
    let stack = c.index-stacks-inserted.result in
    let there = stack_at index stacks c.loop-inserted.inserted stack c.loop-inserted-test.true c.index-stacks-inserted.is in
    rw c.deref.ensures.value (stack_tried at.checked.table (stacks_of index stacks) c.loop-inserted.inserted (states_of index stack.items) c.requires.tried.are there)

pub loop-inserted-preserved : goal.loop-inserted-preserved
loop-inserted-preserved g c =
    let index = g.StorageT.StorageIndex.index in
    let token = token_by index g.LexemeT.Lexeme.parts in
    let at = c.args.self.now.point.now in
    let tokens = tokens_of index c.args.self.now.tokens.now in
    let stacks = c.args.stacks.now in
    let l = c.loop-inserted in
    let stack = c.index-stacks-inserted.result in
    let states = states_of index stack.items in
    let there = stack_at index stacks l.inserted stack c.loop-inserted-test.true c.index-stacks-inserted.is in
    let fed = c.requires.tried.fed l.inserted states there in
    let says = rw c.deref.ensures.value at c.in_ok-goes_on.ensures in
    not_here_more token at tokens c.args.place l.inserted states fed says c.if-branch.false l.invariant

pub returns-then-branch : goal.returns-then-branch
returns-then-branch g c =
    let index = g.StorageT.StorageIndex.index in
    let token = token_by index g.LexemeT.Lexeme.parts in
    let at = c.args.self.now.point.now in
    let all = c.args.self.now.tokens.now in
    let tokens = tokens_of index all in
    let stacks = c.args.stacks.now in
    let l = c.loop-inserted in
    let stack = c.index-stacks-inserted.result in
    let states = states_of index stack.items in
    let there = stack_at index stacks l.inserted stack c.loop-inserted-test.true c.index-stacks-inserted.is in
    let fed = c.requires.tried.fed l.inserted states there in
    let says = rw c.deref.ensures.value at c.in_ok-goes_on.ensures in
    let count = length-map stacks (λ v. states_of index v.items) in
    let some : l.inserted ≤ length tokens = omega (arith, count, c.requires.tried.some, c.loop-inserted-test.true) in
    let few : l.inserted ≤ c.args.self.now.most = omega (arith, count, c.requires.tried.few, c.loop-inserted-test.true) in
    (fewest_here token at tokens c.args.place l.inserted states some fed (says.0 c.if-branch.true) l.invariant, few)

pub returns : goal.returns
returns g c =
    let index = g.StorageT.StorageIndex.index in
    let token = token_by index g.LexemeT.Lexeme.parts in
    let at = c.args.self.now.point.now in
    let tokens = tokens_of index c.args.self.now.tokens.now in
    let stacks = c.args.stacks.now in
    let l = c.loop-inserted in
    let count : l.inserted ≡ length (stacks_of index stacks) = omega (arith, length-map stacks (λ v. states_of index v.items), c.loop-inserted-test.false) in
    let Before = NotBefore token at tokens c.args.place in
    none_goes_on token at tokens c.args.self.now.most c.args.place (stacks_of index stacks) c.requires.tried (subst Before count l.invariant)
