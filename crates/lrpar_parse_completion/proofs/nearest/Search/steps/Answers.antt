use Rattle.std.proofs.Common.{◌≡◌, ◌<◌, ◌+◌, ◌-◌, ℕ, arith, length, refl, subst, take}
use Rattle.std.proofs.lemmas.List.{length-map, length-take}
use Rattle.lrpar_table_stacks.specs.Expected.{tokens_of}
use Rattle.lrpar_parse_repair.specs.PlainSteps.{plain_steps}
use Rattle.lrpar_parse_completion.specs.Nearest.{inserts_deletes}
use Rattle.lrpar_parse_completion.proofs.FeedLemmas.{token_front}
use Rattle.lrpar_parse_completion.proofs.NearestLemmas.{steps_deleted, steps_inserted}
use Rattle.lrpar_parse_completion.proofs.nearest.Search.steps.Goals as goal

pub inserted-preserved : goal.inserted-preserved
inserted-preserved g c =
    let index = g.StorageT.StorageIndex.index in
    let all = c.args.self.now.tokens.now in
    let n = c.args.repair.inserted in
    let l = c.inserted in
    let token = c.token-item.result in
    let front = token_front index all (take n all) n l.token-index token refl c.inserted-test.true c.token-item.is in
    let low : l.token-index < length (tokens_of index all) = omega (arith, front.0, length-map all (λ t. index t.0)) in
    steps_inserted index l.steps.items c.push.new.self.items (tokens_of index all) l.token-index token low front.1 c.in_ok-push.ensures.items l.invariant

pub deleted-init : goal.deleted-init
deleted-init g c =
    let index = g.StorageT.StorageIndex.index in
    let all = c.args.self.now.tokens.now in
    let tokens = tokens_of index all in
    let steps = plain_steps index c.inserted.steps.items in
    let n = c.args.repair.inserted in
    let i = c.inserted.token-index in
    let same : i ≡ n = omega (arith, c.inserted-test.false, c.inserted.auto.token-index-end, length-take n all, c.requires.tokens) in
    let none : 0 ≡ c.place-counter.result - c.args.self.now.point.now.place = omega (arith, c.place-counter.ensures.place) in
    subst (λ (k : ℕ). steps ≡ inserts_deletes (take n tokens) k) none
    (subst (λ (m : ℕ). steps ≡ inserts_deletes (take m tokens) 0) same c.inserted.invariant)

pub deleted-preserved : goal.deleted-preserved
deleted-preserved g c =
    let index = g.StorageT.StorageIndex.index in
    let tokens = tokens_of index c.args.self.now.tokens.now in
    let l = c.deleted in
    let n = l.counter - c.args.self.now.point.now.place in
    let next : n + 1 ≡ (l.counter + 1) - c.args.self.now.point.now.place = omega (arith, l.auto.counter, c.place-counter.ensures.place) in
    subst (λ (k : ℕ). plain_steps index c.push-in-deleted.new.self.items ≡ inserts_deletes (take c.args.repair.inserted tokens) k) next
    (steps_deleted index l.steps.items c.push-in-deleted.new.self.items (take c.args.repair.inserted tokens) n c.in_ok-push-2.ensures.items l.invariant)

pub returns : goal.returns
returns g c =
    let index = g.StorageT.StorageIndex.index in
    let tokens = tokens_of index c.args.self.now.tokens.now in
    let l = c.deleted in
    let place = c.args.self.now.point.now.place in
    let all : l.counter - place ≡ c.args.repair.place - place =
    omega (arith, c.deleted-test.false, l.auto.counter, l.auto.counter-end, c.place-counter.ensures.place, c.requires.after) in
    subst (λ (k : ℕ). plain_steps index l.steps.items ≡ inserts_deletes (take c.args.repair.inserted tokens) k) all l.invariant
